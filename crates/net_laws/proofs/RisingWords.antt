-- Where words rise, their parts rise, and with them the values of cells.
use Rattle.std.proofs.Common.{◌≡◌, ◌⊎◌, inl, inr, ℕ, zero, suc, ◌+◌, ◌<◌, ◌≤◌, List, ◌++◌, length, get_or, true, false, Some, refl, sym, ap, ◌∙◌, subst, arith}
use Rattle.std.specs.Prelude.{slice_get, slice_index, slice_index_or, bit_or, pos, ◌-ℤ◌, IsTrue, if◌then◌else◌}
use Rattle.std.proofs.lemmas.Int.{ints}
use Rattle.std.proofs.lemmas.Option.{slice_get_read}
use Rattle.token_system.specs.declared.cell.Kind.{Kind}
use Rattle.token_system.specs.declared.cell.Kind.TheVariants.{Signal, Number}
use Rattle.token_system.specs.declared.cell.Token.{Token}
use Rattle.token_system.specs.declared.cell.Value.{Value}
use Rattle.token_system.specs.declared.cell.Value.TheVariants as value
use Rattle.token_system.specs.Tokens.{Fits}
use Rattle.token_system.specs.Values.{value_entails}
use Rattle.token_system.proofs.Alike.{Covers, true_false}
use Rattle.token_system.proofs.Adding.{signal_covers, number_covers, clash_covers}
use Rattle.instant_net.specs.declared.parts.NetCell.{NetCell}
use Rattle.instant_net.specs.declared.words.How.{How}
use Rattle.instant_net.specs.declared.words.How.TheVariants.{Or, Max, Min}
use Rattle.instant_net.specs.Nets.{Flat}
use Rattle.instant_net.specs.Opened.{IsNet}
use Rattle.instant_net.specs.Outputs.{IsNetStoreBelow}
use Rattle.instant_net.specs.PartLists.{parts, part_how}
use Rattle.instant_net.specs.WordParts.{pair_of, word_of, part_of, part_at}
use Rattle.instant_net.specs.Words.{Lies, hows, own_hows, signals, bits_value, number_value, kind_value, kind_hows, value_in, store_in, offset, AreLaidOut}
use Rattle.instant_net.proofs.PartTells.{signal_test, split, part_lub}
use Rattle.instant_net.proofs.StoreLookups.{value_at-cell}
use Rattle.instant_net.proofs.WordPlaces.{width, here, is_first, number_word, number_how, value_by_parts}
use Rattle.instant_net.proofs.WordValues.{number_clashes, number_stands}
use Rattle.net_laws.specs.WordsBelow.{WordsBelow}
use Rattle.net_laws.proofs.PartPlaces.{word_there, part_joins, part_there}

-- VALUES

same_covers : (k : Kind) (v : Value) → Covers k v v
same_covers k v t fit h = h

bits-cover : (r s : ℕ) → r < 4 → s < 4 → bit_or r s ≡ s → Covers Signal (bits_value r) (bits_value s)
bits-cover r (suc (suc (suc zero))) a b e = clash_covers Signal (bits_value r)
bits-cover zero zero a b e = same_covers Signal (bits_value 0)
bits-cover zero (suc zero) a b e = signal_covers false false true false (λ h. absurd (true_false (sym h))) (λ h. h)
bits-cover zero (suc (suc zero)) a b e = signal_covers false false false true (λ h. h) (λ h. absurd (true_false (sym h)))
bits-cover (suc zero) (suc zero) a b e = same_covers Signal (bits_value 1)
bits-cover (suc (suc zero)) (suc (suc zero)) a b e = same_covers Signal (bits_value 2)
bits-cover (suc zero) zero a b e = absurd (let f : 1 ≡ 0 = e in cc)
bits-cover (suc zero) (suc (suc zero)) a b e = absurd (let f : 3 ≡ 2 = e in omega arith)
bits-cover (suc (suc zero)) zero a b e = absurd (let f : 2 ≡ 0 = e in cc)
bits-cover (suc (suc zero)) (suc zero) a b e = absurd (let f : 3 ≡ 1 = e in omega arith)
bits-cover (suc (suc (suc zero))) zero a b e = absurd (let f : 3 ≡ 0 = e in cc)
bits-cover (suc (suc (suc zero))) (suc zero) a b e = absurd (let f : 3 ≡ 1 = e in omega arith)
bits-cover (suc (suc (suc zero))) (suc (suc zero)) a b e = absurd (let f : 3 ≡ 2 = e in omega arith)
bits-cover (suc (suc (suc (suc r)))) s a b e = absurd (omega arith)
bits-cover r (suc (suc (suc (suc s)))) a b e = absurd (omega arith)

number-rises : (lo hi lo' hi' : ℕ) → lo ≤ lo' → hi' ≤ hi → Covers Number (number_value lo hi) (number_value lo' hi')
number-rises lo hi lo' hi' up down = go (split hi' lo')
  where
    go : (hi' < lo') ⊎ (lo' ≤ hi') → Covers Number (number_value lo hi) (number_value lo' hi')
    go (inl lt) = subst (Covers Number (number_value lo hi)) (sym (number_clashes lo' hi' lt)) (clash_covers Number (number_value lo hi))
    go (inr le) =
        subst (Covers Number (number_value lo hi)) (sym (number_stands lo' hi' le))
        (subst (λ (v : Value). Covers Number v (value.Number (pos lo' -ℤ pos offset) (pos hi' -ℤ pos offset))) (sym (number_stands lo hi (omega arith)))
        (number_covers (pos lo -ℤ pos offset) (pos hi -ℤ pos offset) (pos lo' -ℤ pos offset) (pos hi' -ℤ pos offset) (omega (arith, ints)) (omega (arith, ints))))

-- the parts of a cell of this kind rise
abbrev KindRises : Kind → (ℕ → ℕ) → (ℕ → ℕ) → ℕ → Type 0
KindRises Signal f g first = (f first < 4) × (g first < 4) × Lies Or (f first) (g first)
KindRises Number f g first = Lies Max (f first) (g first) × Lies Min (f (first + 1)) (g (first + 1))

kind-rises : (k : Kind) (f g : ℕ → ℕ) (first : ℕ) → KindRises k f g first → Covers k (kind_value k f first) (kind_value k g first)
kind-rises Signal f g first h = bits-cover (f first) (g first) h.0 h.1 h.2
kind-rises Number f g first h = number-rises (f first) (f (first + 1)) (g first) (g (first + 1)) (let a = h.0 in omega arith) (let b = h.1 in omega arith)

-- PARTS

-- of words below words the parts lie below the parts
pub parts_below : (cells : List NetCell) (u w : List ℕ) → WordsBelow cells u w → (q : ℕ) → q < parts cells → Lies (part_how cells q) (part_at (signals cells) u q) (part_at (signals cells) w q)
parts_below cells u w below q lt =
    sym (part_lub (signals cells) q (part_how cells q) (slice_index u (word_of (signals cells) q)) (slice_index w (word_of (signals cells) q)) (part_joins cells q))
    ∙ ap (part_of (signals cells) q) (below (word_of (signals cells) q) (word_there cells q lt))

signal_small : (s q : ℕ) (words : List ℕ) → q < s → part_at s words q < 4
signal_small s q words l =
    let word : ℕ = slice_index words (word_of s q) in
    let is : part_at s words q ≡ pair_of q word = ap (λ b. if b then pair_of q word else word) (signal_test s q l) in
    omega arith

module _ (cells : List NetCell) (laid : AreLaidOut cells) (u w : List ℕ) (below : WordsBelow cells u w) (i : ℕ) (c : NetCell) (e : slice_get cells i ≡ Some c) where
  abbrev from : ℕ → ℕ
  from = part_at (signals cells) u

  abbrev to : ℕ → ℕ
  to = part_at (signals cells) w

  lies : (j : ℕ) → j < width c → (h : How) → part_how cells (c.first + j) ≡ h → Lies h (from (c.first + j)) (to (c.first + j))
  lies j lt h how = subst (λ (x : How). Lies x (from (c.first + j)) (to (c.first + j))) how (parts_below cells u w below (c.first + j) (part_there cells laid i c e j lt))

  cell-rises : (k : Kind) → c.cell.kind ≡ k → KindRises k from to c.first
  cell-rises Signal h =
      let wide : width c ≡ 1 = ap (λ x. length (kind_hows x)) h in
      let first = is_first cells laid i c e h in
      let at : c.first + 0 ≡ c.first = omega arith in (
        signal_small (signals cells) c.first u first,
        signal_small (signals cells) c.first w first,
        subst (λ (n : ℕ). Lies Or (from n) (to n)) at (lies 0 (omega arith) Or (part_joins cells (c.first + 0) (omega arith))),
      )
  cell-rises Number h =
      let wide : width c ≡ 2 = ap (λ x. length (kind_hows x)) h in
      let at : c.first + 0 ≡ c.first = omega arith in
      (subst (λ (n : ℕ). Lies Max (from n) (to n)) at (lies 0 (omega arith) Max (how 0)), lies 1 (omega arith) Min (how 1))
    where
      how : (j : ℕ) → part_how cells (c.first + j) ≡ get_or (own_hows Number ++ (here cells laid i c e).hows_after) j Or
      how j = ap (λ n. slice_index_or (hows cells) n Or) (number_word cells laid i c e h j) ∙ number_how cells laid i c e h j

  pub value-rises : (t : Token) → Fits c.cell t → IsTrue (value_entails (value_in u c) t) → IsTrue (value_entails (value_in w c) t)
  value-rises t fits h =
      subst (λ (v : Value). IsTrue (value_entails v t)) (sym (value_by_parts cells laid w i c e))
      (kind-rises c.cell.kind from to c.first (cell-rises c.cell.kind refl) t fits (subst (λ (v : Value). IsTrue (value_entails v t)) (value_by_parts cells laid u i c e) h))

module _ (net : Flat) (is : IsNet net) where
  pub words_rise : (u w : List ℕ) → WordsBelow net.cells u w → IsNetStoreBelow net.cells (store_in net.cells u) (store_in net.cells w)
  words_rise u w below c t (i, lt, e) fits h =
      let at : slice_get net.cells i ≡ Some c = slice_get_read net.cells (length net.cells) i c refl lt (sym e) in
      let vu = value_at-cell net.cells u is.of.cells.order i c at in
      let vw = value_at-cell net.cells w is.of.cells.order i c at in
      subst (λ (v : Value). IsTrue (value_entails v t)) (sym vw)
      (value-rises net.cells is.of.cells.laid_out u w below i c at t fits (subst (λ (v : Value). IsTrue (value_entails v t)) vu h))
