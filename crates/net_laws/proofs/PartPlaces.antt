-- Where the parts of cells stand in the list of parts, and in which words.
use Rattle.std.proofs.Common.{◌≡◌, ◌⊎◌, inl, inr, ℕ, zero, suc, ◌+◌, ◌-◌, ◌<◌, ◌≤◌, Bool, true, false, cond, List, [], ◌∷◌, ◌++◌, map, length, Some, refl, sym, ap, ◌∙◌, arith, length-append}
use Rattle.std.specs.Prelude.{filter, flat_map, replicate, slice_get, if◌then◌else◌}
use Rattle.std.proofs.lemmas.List.{length-map, length-replicate, get_or-replicate, get_or_append_left}
use Rattle.std.proofs.lemmas.Option.{slice_get_within}
use Rattle.token_system.specs.Tokens.{is_signal}
use Rattle.token_system.specs.declared.cell.Kind.{Kind}
use Rattle.token_system.specs.declared.cell.Kind.TheVariants.{Signal, Number}
use Rattle.instant_net.specs.declared.parts.NetCell.{NetCell}
use Rattle.instant_net.specs.declared.words.How.TheVariants.{Or}
use Rattle.instant_net.specs.PartLists.{part_cells, parts, part_how, part_stratum}
use Rattle.instant_net.specs.Readers.{stratum_of}
use Rattle.instant_net.specs.WordParts.{signal_words, word_of}
use Rattle.instant_net.specs.Words.{hows, kind_hows, own_hows, signals, AreLaidOut, AreLaidOutFrom, JoinsParts}
use Rattle.instant_net.proofs.PartTells.{split}
use Rattle.instant_net.proofs.WordPlaces.{placed, width, other_hows, is_other, signal_word_within, other_word}

abbrev signal_parts : List NetCell → List NetCell
signal_parts cells = filter (λ c. is_signal c.cell.kind) cells

abbrev other_parts : List NetCell → List NetCell
other_parts cells = flat_map (λ c. map (λ _. c) (own_hows c.cell.kind)) cells

-- COUNTS

signal_count : (cells : List NetCell) → length (signal_parts cells) ≡ signals cells
signal_count [] = refl
signal_count (c ∷ cells) = go (is_signal c.cell.kind) (signal_count cells)
  where
    go : (b : Bool) → length (signal_parts cells) ≡ signals cells → length (cond b (c ∷ signal_parts cells) (signal_parts cells)) ≡ (if b then suc (signals cells) else signals cells)
    go true e = ap suc e
    go false e = e

other_count : (cells : List NetCell) → length (other_parts cells) ≡ length (other_hows cells)
other_count [] = refl
other_count (c ∷ cells) =
    let rest = other_count cells in
    omega (arith, length-append (map (λ _. c) (own_hows c.cell.kind)) (other_parts cells), length-append (own_hows c.cell.kind) (other_hows cells), length-map (own_hows c.cell.kind) (λ _. c))

parts_count : (cells : List NetCell) → parts cells ≡ signals cells + length (other_hows cells)
parts_count cells =
    let s = signal_count cells in
    let o = other_count cells in
    omega (arith, length-append (signal_parts cells) (other_parts cells))

-- WORDS OF PARTS

-- each part has a word
pub word_there : (cells : List NetCell) (q : ℕ) → q < parts cells → word_of (signals cells) q < length (hows cells)
word_there cells q lt = go (split q (signals cells))
  where
    go : (q < signals cells) ⊎ (signals cells ≤ q) → word_of (signals cells) q < length (hows cells)
    go (inl l) =
        let w = (signal_word_within (signals cells) q l).0 in
        omega (arith, length-append (replicate (signal_words (signals cells)) Or) (other_hows cells), length-replicate (signal_words (signals cells)) Or)
    go (inr l) =
        let w = other_word (signals cells) q l in
        let all = parts_count cells in
        omega (arith, length-append (replicate (signal_words (signals cells)) Or) (other_hows cells), length-replicate (signal_words (signals cells)) Or)

-- and that of a signal is told by setting bits
pub part_joins : (cells : List NetCell) (q : ℕ) → JoinsParts (signals cells) q (part_how cells q)
part_joins cells q l =
    let w = (signal_word_within (signals cells) q l).0 in
    let long = length-replicate (signal_words (signals cells)) Or in
    get_or_append_left (replicate (signal_words (signals cells)) Or) (other_hows cells) Or (word_of (signals cells) q) (omega arith)
    ∙ get_or-replicate (signal_words (signals cells)) (word_of (signals cells) q) Or Or (omega arith)

-- THE CELL OF A PART

get_before : {X : Type 0} (xs ys : List X) (n : ℕ) (x : X) → slice_get xs n ≡ Some x → slice_get (xs ++ ys) n ≡ Some x
get_before [] ys n x e = absurd (cc)
get_before (y ∷ xs) ys zero x e = e
get_before (y ∷ xs) ys (suc n) x e = get_before xs ys n x e

get_past : {X : Type 0} (xs ys : List X) (n : ℕ) → slice_get (xs ++ ys) (length xs + n) ≡ slice_get ys n
get_past [] ys n = ap (slice_get ys) (omega arith)
get_past (x ∷ xs) ys n = ap (slice_get (x ∷ xs ++ ys)) (let next : suc (length xs) + n ≡ suc (length xs + n) = omega arith in next) ∙ get_past xs ys n

-- where the first signal of these cells has part q, each signal stands in their list at its part less q
signal_place : (cells : List NetCell) (s q r k : ℕ) (c : NetCell) → AreLaidOutFrom s q r cells → slice_get cells k ≡ Some c → c.cell.kind ≡ Signal → (m : ℕ) → q + m ≡ c.first → slice_get (signal_parts cells) m ≡ Some c
signal_place [] s q r k c l e h m at = absurd (cc)
signal_place (d ∷ cells) s q r zero c l e h m at =
    let same : d ≡ c = cc in
    let kind : is_signal d.cell.kind ≡ true = ap (λ (x : NetCell). is_signal x.cell.kind) same ∙ ap is_signal h in
    let first : c.first ≡ q = ap (λ (x : NetCell). x.first) (sym same) ∙ l.0 ∙ ap (λ b. if b then q else r) kind in
    ap (λ b. slice_get (cond b (d ∷ signal_parts cells) (signal_parts cells)) m) kind ∙ ap (slice_get (d ∷ signal_parts cells)) (let none : m ≡ 0 = omega arith in none) ∙ ap Some same
signal_place (d ∷ cells) s q r (suc k) c l e h m at =
    let next : ℕ = if is_signal d.cell.kind then suc q else q in
    let past : ℕ = r + length (own_hows d.cell.kind) in
    go (is_signal d.cell.kind) next refl ((placed cells s next past k c l.2 e).signal h).0 (signal_place cells s next past k c l.2 e h) m at
  where
    go : (b : Bool) (next : ℕ) → next ≡ (if b then suc q else q) → next ≤ c.first → ((m : ℕ) → next + m ≡ c.first → slice_get (signal_parts cells) m ≡ Some c) → (m : ℕ) → q + m ≡ c.first
        → slice_get (cond b (d ∷ signal_parts cells) (signal_parts cells)) m ≡ Some c
    go false next f low more m at = more m (let same : next ≡ q = f in omega arith)
    go true next f low more zero at = absurd (let same : next ≡ suc q = f in omega arith)
    go true next f low more (suc m) at = more m (let same : next ≡ suc q = f in omega arith)

-- and where the first other cell has part r, each other one at its parts less r
other_place : (cells : List NetCell) (s q r k : ℕ) (c : NetCell) → AreLaidOutFrom s q r cells → slice_get cells k ≡ Some c → c.cell.kind ≡ Number → (j m : ℕ) → j < 2 → r + m ≡ c.first + j → slice_get (other_parts cells) m ≡ Some c
other_place [] s q r k c l e h j m lt at = absurd (cc)
other_place (d ∷ cells) s q r zero c l e h j m lt at =
    let same : d ≡ c = cc in
    let kind : d.cell.kind ≡ Number = ap (λ (x : NetCell). x.cell.kind) same ∙ h in
    let first : c.first ≡ r = ap (λ (x : NetCell). x.first) (sym same) ∙ l.0 ∙ ap (λ (x : Kind). if is_signal x then q else r) kind in
    ap (λ (x : Kind). slice_get (map (λ _. d) (own_hows x) ++ other_parts cells) m) kind ∙ one_of m (omega arith) ∙ ap Some same
  where
    one_of : (n : ℕ) → n < 2 → slice_get (d ∷ d ∷ other_parts cells) n ≡ Some d
    one_of zero l = refl
    one_of (suc zero) l = refl
    one_of (suc (suc n)) l = absurd (omega arith)
other_place (d ∷ cells) s q r (suc k) c l e h j m lt at =
    let next : ℕ = if is_signal d.cell.kind then suc q else q in
    let past : ℕ = r + length (own_hows d.cell.kind) in
    go d.cell.kind past refl (let p = (placed cells s next past k c l.2 e).number h in omega arith) (λ n. other_place cells s next past k c l.2 e h j n lt) m at
  where
    go : (x : Kind) (past : ℕ) → past ≡ r + length (own_hows x) → past ≤ c.first → ((n : ℕ) → past + n ≡ c.first + j → slice_get (other_parts cells) n ≡ Some c) → (n : ℕ) → r + n ≡ c.first + j
        → slice_get (map (λ _. d) (own_hows x) ++ other_parts cells) n ≡ Some c
    go Signal past f low more n at = more n (let same : past ≡ r + 0 = f in omega arith)
    go Number past f low more zero at = absurd (let same : past ≡ r + 2 = f in omega arith)
    go Number past f low more (suc zero) at = absurd (let same : past ≡ r + 2 = f in omega arith)
    go Number past f low more (suc (suc n)) at = more n (let same : past ≡ r + 2 = f in omega arith)

module _ (cells : List NetCell) (laid : AreLaidOut cells) (i : ℕ) (c : NetCell) (e : slice_get cells i ≡ Some c) where
  -- the parts of a cell have that cell
  pub part_cell : (j : ℕ) → j < width c → slice_get (part_cells cells) (c.first + j) ≡ Some c
  part_cell j lt = go c.cell.kind refl lt
    where
      go : (k : Kind) → c.cell.kind ≡ k → j < length (kind_hows k) → slice_get (part_cells cells) (c.first + j) ≡ Some c
      go Signal h l = get_before (signal_parts cells) (other_parts cells) (c.first + j) c (signal_place cells (signals cells) 0 (signals cells) i c laid e h (c.first + j) (omega arith))
      go Number h l =
          let other = is_other cells laid i c e h in
          let count = signal_count cells in
          let n : ℕ = c.first + j - signals cells in
          ap (slice_get (part_cells cells)) (let at : c.first + j ≡ length (signal_parts cells) + n = omega arith in at)
          ∙ get_past (signal_parts cells) (other_parts cells) n ∙ other_place cells (signals cells) 0 (signals cells) i c laid e h j n l (omega arith)

  -- and so they are parts
  pub part_there : (j : ℕ) → j < width c → c.first + j < parts cells
  part_there j lt = slice_get_within (part_cells cells) (c.first + j) c (part_cell j lt)

  -- of its stratum
  pub stratum_of_part : (j : ℕ) → j < width c → part_stratum cells (c.first + j) ≡ c.stratum
  stratum_of_part j lt = ap stratum_of (part_cell j lt)
