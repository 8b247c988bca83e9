-- Where the parts and the words of cells stand: no part is two cells', and the words of a cell rise as the cell's parts do.
use Rattle.std.proofs.Common.{◌≡◌, ◌≢◌, ◌⊎◌, inl, inr, ℕ, zero, suc, ◌+◌, ◌-◌, ◌*◌, ◌/◌, ◌<◌, ◌≤◌, Bool, List, [], ◌∷◌, ◌++◌, length, get_or, refl, sym, ap, ◌∙◌, subst, arith, append_assoc, length-append, get_or-append-add, Some}
use Rattle.std.specs.Prelude.{flat_map, replicate, slice_get, slice_index, slice_index_or, if◌then◌else◌}
use Rattle.std.proofs.lemmas.List.{length-replicate, get_or-replicate, get_or_append_left}
use Rattle.std.proofs.lemmas.Option.{get_or_from_slice_get, slice_get_read}
use Rattle.token_system.specs.Tokens.{is_signal}
use Rattle.token_system.specs.declared.cell.Kind.{Kind}
use Rattle.token_system.specs.declared.cell.Kind.TheVariants.{Signal, Number}
use Rattle.instant_net.specs.declared.parts.NetCell.{NetCell}
use Rattle.instant_net.specs.declared.words.How.{How}
use Rattle.instant_net.specs.declared.words.How.TheVariants.{Or}
use Rattle.instant_net.specs.WordParts.{signal_words, pair_of, word_of, part_at}
use Rattle.instant_net.specs.Words.{hows, kind_hows, own_hows, signals, empty_words, own_unknown, bits_value, number_value, kind_part, own_part, kind_value, value_by, value_in, AreLaidOut, AreLaidOutFrom}
use Rattle.instant_net.specs.Nets.{Flat}
use Rattle.instant_net.specs.Opened.{IsNet}
use Rattle.instant_net.proofs.PartTells.{signal_test, other_test, split}

-- how many parts a cell has
abbrev pub width : NetCell → ℕ
width c = length (kind_hows c.cell.kind)

abbrev pub other_hows : List NetCell → List How
other_hows cells = flat_map (λ c. own_hows c.cell.kind) cells

abbrev pub other_empty : List NetCell → List ℕ
other_empty cells = flat_map (λ c. own_unknown c.cell.kind c.cell.lo c.cell.hi) cells

-- COUNTS

own_width : (k : Kind) (lo hi : _) → length (own_unknown k lo hi) ≡ length (own_hows k)
own_width Signal lo hi = refl
own_width Number lo hi = refl

other_many : (cells : List NetCell) → length (other_empty cells) ≡ length (other_hows cells)
other_many [] = refl
other_many (c ∷ cells) =
    let w = own_width c.cell.kind c.cell.lo c.cell.hi in
    let rest = other_many cells in
    omega (arith, length-append (own_unknown c.cell.kind c.cell.lo c.cell.hi) (other_empty cells), length-append (own_hows c.cell.kind) (other_hows cells))

-- there are as many words as hows
pub as_many : (cells : List NetCell) → length (empty_words cells) ≡ length (hows cells)
as_many cells =
    let rest = other_many cells in
    omega (arith, length-append (replicate (signal_words (signals cells)) 0) (other_empty cells), length-append (replicate (signal_words (signals cells)) Or) (other_hows cells), length-replicate {A = ℕ} (signal_words (signals cells)) 0, length-replicate (signal_words (signals cells)) Or)

-- the words of signals, and two for each other cell
pub other_count : (cells : List NetCell) → length (other_hows cells) + 2 * signals cells ≡ 2 * length cells
other_count [] = refl
other_count (c ∷ cells) =
    let both = length-append (own_hows c.cell.kind) (other_hows cells) in
    go c.cell.kind (length (other_hows cells)) (signals cells) (length cells) (other_count cells) both
  where
    go : (k : Kind) (n s l : ℕ) → n + 2 * s ≡ 2 * l → length (own_hows c.cell.kind ++ other_hows cells) ≡ length (own_hows k) + n → length (own_hows c.cell.kind ++ other_hows cells) + 2 * (if is_signal k then suc s else s) ≡ 2 * suc l
    go Signal n s l e b = omega arith
    go Number n s l e b = omega arith

pub hows_count : (cells : List NetCell) → length (hows cells) + 2 * signals cells ≡ signal_words (signals cells) + 2 * length cells
hows_count cells =
    let rest = other_count cells in
    omega (arith, length-append (replicate (signal_words (signals cells)) Or) (other_hows cells), length-replicate (signal_words (signals cells)) Or)

-- a cell has two words at most
pub hows_few : (cells : List NetCell) → length (hows cells) ≤ 2 * length cells
hows_few cells = let all = hows_count cells in omega arith

pub few_signals : (cells : List NetCell) → signals cells ≤ length cells
few_signals cells = let all = other_count cells in omega arith

-- PLACES

-- where a cell stands among cells of which the first signal has part q, and the first other cell part r
pub record IsPlaced (s q r : ℕ) (cells : List NetCell) (c : NetCell) : Type 0 where
  pub hows_before : List How
  pub hows_after : List How
  pub before : List ℕ
  pub after : List ℕ
  pub hows_are : other_hows cells ≡ hows_before ++ (own_hows c.cell.kind ++ hows_after)
  pub words_are : other_empty cells ≡ before ++ (own_unknown c.cell.kind c.cell.lo c.cell.hi ++ after)
  pub same : length before ≡ length hows_before
  pub word : c.word ≡ word_of s c.first
  pub signal : c.cell.kind ≡ Signal → (q ≤ c.first) × (c.first < q + signals cells)
  pub number : c.cell.kind ≡ Number → r + length hows_before ≡ c.first

counted : (k : Kind) (q n : ℕ) → (q ≤ (if is_signal k then suc q else q)) × ((if is_signal k then suc q else q) + n ≡ q + (if is_signal k then suc n else n))
counted Signal q n = (omega arith, omega arith)
counted Number q n = (omega arith, omega arith)

pub placed : (cells : List NetCell) (s q r k : ℕ) (c : NetCell) → AreLaidOutFrom s q r cells → slice_get cells k ≡ Some c → IsPlaced s q r cells c
placed [] s q r k c l e = absurd (cc)
placed (d ∷ cells) s q r zero c l e =
    let same : d ≡ c = cc in
    subst (IsPlaced s q r (d ∷ cells)) same (record {
      hows_before = [];
      hows_after = other_hows cells;
      before = [];
      after = other_empty cells;
      hows_are = refl;
      words_are = refl;
      same = refl;
      word = l.1;
      signal = λ h.
          let first = l.0 ∙ ap (λ (k : Kind). if is_signal k then q else r) h in
          let more : signals (d ∷ cells) ≡ suc (signals cells) = ap (λ (k : Kind). if is_signal k then suc (signals cells) else signals cells) h in
          (omega arith, omega arith);
      number = λ h. let first = l.0 ∙ ap (λ (k : Kind). if is_signal k then q else r) h in omega arith;
    })
placed (d ∷ cells) s q r (suc k) c l e =
    let p = placed cells s (if is_signal d.cell.kind then suc q else q) (r + length (own_hows d.cell.kind)) k c l.2 e in
    let same = p.same in
    let w = own_width d.cell.kind d.cell.lo d.cell.hi in
    record {
      hows_before = own_hows d.cell.kind ++ p.hows_before;
      hows_after = p.hows_after;
      before = own_unknown d.cell.kind d.cell.lo d.cell.hi ++ p.before;
      after = p.after;
      hows_are = ap (λ hs. own_hows d.cell.kind ++ hs) p.hows_are ∙ sym (append_assoc (own_hows d.cell.kind) p.hows_before (own_hows c.cell.kind ++ p.hows_after));
      words_are = ap (λ ws. own_unknown d.cell.kind d.cell.lo d.cell.hi ++ ws) p.words_are ∙ sym (append_assoc (own_unknown d.cell.kind d.cell.lo d.cell.hi) p.before (own_unknown c.cell.kind c.cell.lo c.cell.hi ++ p.after));
      same = omega (arith, length-append (own_hows d.cell.kind) p.hows_before, length-append (own_unknown d.cell.kind d.cell.lo d.cell.hi) p.before);
      word = p.word;
      signal = λ h. let x = p.signal h in let y = counted d.cell.kind q (signals cells) in (omega arith, omega arith);
      number = λ h. let x = p.number h in omega (arith, length-append (own_hows d.cell.kind) p.hows_before);
    }

-- of two cells of one kind the later has later parts
pub record IsBehind (c d : NetCell) : Type 0 where
  pub signals : c.cell.kind ≡ Signal → d.cell.kind ≡ Signal → c.first < d.first
  pub numbers : c.cell.kind ≡ Number → d.cell.kind ≡ Number → c.first + 2 ≤ d.first

behind : (cells : List NetCell) (s q r i j : ℕ) (c d : NetCell) → AreLaidOutFrom s q r cells → slice_get cells i ≡ Some c → slice_get cells j ≡ Some d → i < j → IsBehind c d
behind [] s q r i j c d l e f h = absurd (cc)
behind (x ∷ cells) s q r i zero c d l e f h = absurd (omega arith)
behind (x ∷ cells) s q r zero (suc j) c d l e f h =
    let same : x ≡ c = cc in
    let p = placed cells s (if is_signal x.cell.kind then suc q else q) (r + length (own_hows x.cell.kind)) j d l.2 f in
    subst (λ (y : NetCell). IsBehind y d) same (record {
      signals = λ a b.
          let first = l.0 ∙ ap (λ (k : Kind). if is_signal k then q else r) a in
          let next : (if is_signal x.cell.kind then suc q else q) ≡ suc q = ap (λ (k : Kind). if is_signal k then suc q else q) a in
          let after = (p.signal b).0 in
          omega arith;
      numbers = λ a b.
          let first = l.0 ∙ ap (λ (k : Kind). if is_signal k then q else r) a in
          let two : length (own_hows x.cell.kind) ≡ 2 = ap (λ (k : Kind). length (own_hows k)) a in
          let after = p.number b in
          omega arith;
    })
behind (x ∷ cells) s q r (suc i) (suc j) c d l e f h = behind cells s (if is_signal x.cell.kind then suc q else q) (r + length (own_hows x.cell.kind)) i j c d l.2 e f (omega arith)

-- so no part is two cells'
parts_apart : (k l : Kind) (s a b x y : ℕ) → (k ≡ Signal → a < s) → (k ≡ Number → s ≤ a) → (l ≡ Signal → b < s) → (l ≡ Number → s ≤ b)
    → (k ≡ Signal → l ≡ Signal → (a < b) ⊎ (b < a)) → (k ≡ Number → l ≡ Number → (a + 2 ≤ b) ⊎ (b + 2 ≤ a))
    → x < length (kind_hows k) → y < length (kind_hows l) → a + x ≢ b + y
parts_apart Signal Signal s a b x y f g h i m n u v e = go (m refl refl)
  where
    go : (a < b) ⊎ (b < a) → ⊥
    go (inl z) = omega arith
    go (inr z) = omega arith
parts_apart Signal Number s a b x y f g h i m n u v e = let z = f refl in let w = i refl in omega arith
parts_apart Number Signal s a b x y f g h i m n u v e = let z = g refl in let w = h refl in omega arith
parts_apart Number Number s a b x y f g h i m n u v e = go (n refl refl)
  where
    go : (a + 2 ≤ b) ⊎ (b + 2 ≤ a) → ⊥
    go (inl z) = omega arith
    go (inr z) = omega arith

module _ (cells : List NetCell) (laid : AreLaidOut cells) where
  abbrev s : ℕ
  s = signals cells

  pub cell_apart : (i j : ℕ) (c d : NetCell) → slice_get cells i ≡ Some c → slice_get cells j ≡ Some d → i ≢ j → (x y : ℕ) → x < width c → y < width d → c.first + x ≢ d.first + y
  cell_apart i j c d e f n x y u v =
      let p = placed cells s 0 s i c laid e in
      let o = placed cells s 0 s j d laid f in
      parts_apart c.cell.kind d.cell.kind s c.first d.first x y (λ h. let b = (p.signal h).1 in omega arith) (λ h. let b = p.number h in omega arith) (λ h. let b = (o.signal h).1 in omega arith) (λ h. let b = o.number h in omega arith)
      (λ a b. two (split i j) (λ h. (behind cells s 0 s i j c d laid e f h).signals a b) (λ h. (behind cells s 0 s j i d c laid f e h).signals b a))
      (λ a b. two (split i j) (λ h. (behind cells s 0 s i j c d laid e f h).numbers a b) (λ h. (behind cells s 0 s j i d c laid f e h).numbers b a)) u v
    where
      two : {P Q : Type 0} → (i < j) ⊎ (j ≤ i) → (i < j → P) → (j < i → Q) → P ⊎ Q
      two (inl h) f g = inl (f h)
      two (inr h) f g = inr (g (omega arith))

-- THE WORDS OF A CELL

pub signal_word_within : (s q : ℕ) → q < s → (word_of s q < signal_words s) × (word_of s q ≡ q / 32)
signal_word_within s q h =
    let t : word_of s q ≡ q / 32 = ap (λ b. if b then q / 32 else signal_words s + (q - s)) (signal_test s q h) in
    (omega arith, t)

pub other_word : (s q : ℕ) → s ≤ q → word_of s q ≡ signal_words s + (q - s)
other_word s q h = ap (λ b. if b then q / 32 else signal_words s + (q - s)) (other_test s q h)

module _ (cells : List NetCell) (laid : AreLaidOut cells) (k : ℕ) (c : NetCell) (e : slice_get cells k ≡ Some c) where
  abbrev pub here : IsPlaced (signals cells) 0 (signals cells) cells c
  here = placed cells (signals cells) 0 (signals cells) k c laid e

  pub is_first : c.cell.kind ≡ Signal → c.first < signals cells
  is_first h = let b = (here.signal h).1 in omega arith

  pub is_other : c.cell.kind ≡ Number → signals cells ≤ c.first
  is_other h = let b = here.number h in omega arith

  -- the words of a number follow each other
  pub number_word : c.cell.kind ≡ Number → (i : ℕ) → word_of (signals cells) (c.first + i) ≡ c.word + i
  number_word h i =
      let o = is_other h in
      let first = here.word ∙ other_word (signals cells) c.first o in
      let more = other_word (signals cells) (c.first + i) (omega arith) in
      omega arith

  word_place : c.cell.kind ≡ Number → c.word ≡ signal_words (signals cells) + length here.hows_before
  word_place h =
      let o = is_other h in
      let first = here.word ∙ other_word (signals cells) c.first o in
      let place = here.number h in
      omega arith

  pub signal_there : c.cell.kind ≡ Signal → c.word < length (hows cells)
  signal_there h =
      let w = (signal_word_within (signals cells) c.first (is_first h)).0 in
      let x = here.word in
      omega (arith, length-append (replicate (signal_words (signals cells)) Or) (other_hows cells), length-replicate (signal_words (signals cells)) Or)

  pub number_there : c.cell.kind ≡ Number → c.word + 2 ≤ length (hows cells)
  number_there h =
      let w = word_place h in
      let two : length (own_hows c.cell.kind) ≡ 2 = ap (λ (k : Kind). length (own_hows k)) h in
      omega (arith, length-append (replicate (signal_words (signals cells)) Or) (other_hows cells), length-replicate (signal_words (signals cells)) Or, ap length here.hows_are, length-append here.hows_before (own_hows c.cell.kind ++ here.hows_after), length-append (own_hows c.cell.kind) here.hows_after)

  pub first_there : c.word < length (hows cells)
  first_there = go c.cell.kind refl
    where
      go : (x : Kind) → c.cell.kind ≡ x → c.word < length (hows cells)
      go Signal h = signal_there h
      go Number h = let t = number_there h in omega arith

  -- how they rise
  pub signal_how : c.cell.kind ≡ Signal → slice_index_or (hows cells) c.word Or ≡ Or
  signal_how h =
      let w = (signal_word_within (signals cells) c.first (is_first h)).0 in
      let x = here.word in
      let long = length-replicate (signal_words (signals cells)) Or in
      get_or_append_left (replicate (signal_words (signals cells)) Or) (other_hows cells) Or c.word (omega arith) ∙ get_or-replicate (signal_words (signals cells)) c.word Or Or (omega arith)

  pub number_how : c.cell.kind ≡ Number → (i : ℕ) → slice_index_or (hows cells) (c.word + i) Or ≡ get_or (own_hows Number ++ here.hows_after) i Or
  number_how h i =
      let w = word_place h in
      let long = length-replicate (signal_words (signals cells)) Or in
      ap (λ n. get_or (hows cells) n Or) (let t : c.word + i ≡ length (replicate (signal_words (signals cells)) Or) + (length here.hows_before + i) = omega arith in t)
      ∙ get_or-append-add (replicate (signal_words (signals cells)) Or) (other_hows cells) (length here.hows_before + i) Or
      ∙ ap (λ hs. get_or hs (length here.hows_before + i) Or) here.hows_are
      ∙ get_or-append-add here.hows_before (own_hows c.cell.kind ++ here.hows_after) i Or
      ∙ ap (λ (x : Kind). get_or (own_hows x ++ here.hows_after) i Or) h

  pub number_empty : c.cell.kind ≡ Number → (i : ℕ) → slice_index (empty_words cells) (c.word + i) ≡ get_or (own_unknown Number c.cell.lo c.cell.hi ++ here.after) i 0
  number_empty h i =
      let w = word_place h in
      let same = here.same in
      let long = length-replicate {A = ℕ} (signal_words (signals cells)) 0 in
      ap (λ n. get_or (empty_words cells) n 0) (let t : c.word + i ≡ length (replicate (signal_words (signals cells)) 0) + (length here.before + i) = omega arith in t)
      ∙ get_or-append-add (replicate (signal_words (signals cells)) 0) (other_empty cells) (length here.before + i) 0
      ∙ ap (λ ws. get_or ws (length here.before + i) 0) here.words_are
      ∙ get_or-append-add here.before (own_unknown c.cell.kind c.cell.lo c.cell.hi ++ here.after) i 0
      ∙ ap (λ (x : Kind). get_or (own_unknown x c.cell.lo c.cell.hi ++ here.after) i 0) h

  pub signal_empty : c.cell.kind ≡ Signal → slice_index (empty_words cells) c.word ≡ 0
  signal_empty h =
      let w = (signal_word_within (signals cells) c.first (is_first h)).0 in
      let x = here.word in
      let long = length-replicate {A = ℕ} (signal_words (signals cells)) 0 in
      get_or_append_left (replicate (signal_words (signals cells)) 0) (other_empty cells) 0 c.word (omega arith) ∙ get_or-replicate (signal_words (signals cells)) c.word 0 0 (omega arith)

  -- PARTS OF A CELL

  -- what the cell has of its words is the content of its parts
  pub own_part_is : (words : List ℕ) (i : ℕ) → i < width c → own_part words c i ≡ part_at (signals cells) words (c.first + i)
  own_part_is words i h = go c.cell.kind refl h
    where
      by_test : Bool → ℕ → ℕ → ℕ
      by_test b q n = if b then pair_of q n else n

      go : (x : Kind) → c.cell.kind ≡ x → i < length (kind_hows x) → kind_part c.cell.kind c.first (slice_index words (c.word + i)) ≡ part_at (signals cells) words (c.first + i)
      go Signal f l =
          let none : i ≡ 0 = omega arith in
          ap (λ (y : Kind). kind_part y c.first (slice_index words (c.word + i))) f
          ∙ ap (λ j. pair_of c.first (slice_index words j)) (let t : c.word + i ≡ word_of (signals cells) c.first = let w = here.word in omega arith in t)
          ∙ sym (ap (λ b. by_test b c.first (slice_index words (word_of (signals cells) c.first))) (signal_test (signals cells) c.first (is_first f)))
          ∙ ap (part_at (signals cells) words) (let t : c.first ≡ c.first + i = omega arith in t)
      go Number f l =
          ap (λ (y : Kind). kind_part y c.first (slice_index words (c.word + i))) f
          ∙ ap (slice_index words) (sym (number_word f i))
          ∙ sym (ap (λ b. by_test b (c.first + i) (slice_index words (word_of (signals cells) (c.first + i)))) (other_test (signals cells) (c.first + i) (let o = is_other f in omega arith)))

at_first : (a b : ℕ) (f g : ℕ → ℕ) → f (a + 0) ≡ g (b + 0) → f a ≡ g b
at_first a b f g h = ap f (let t : a ≡ a + 0 = omega arith in t) ∙ h ∙ ap g (let t : b + 0 ≡ b = omega arith in t)

-- two cells of one kind have one value where their parts have one content
pub same_at : (k : Kind) (f g : ℕ → ℕ) (a b : ℕ) → ((i : ℕ) → i < length (kind_hows k) → f (a + i) ≡ g (b + i)) → kind_value k f a ≡ kind_value k g b
same_at Signal f g a b h = ap bits_value (at_first a b f g (h 0 (omega arith)))
same_at Number f g a b h = ap (λ x. number_value x (f (a + 1))) (at_first a b f g (h 0 (omega arith))) ∙ ap (number_value (g b)) (h 1 (omega arith))

-- the value of a cell is that of its parts
pub value_by_parts : (cells : List NetCell) → AreLaidOut cells → (words : List ℕ) (k : ℕ) (c : NetCell) → slice_get cells k ≡ Some c → value_in words c ≡ value_by (part_at (signals cells) words) c
value_by_parts cells laid words k c e = same_at c.cell.kind (own_part words c) (part_at (signals cells) words) 0 c.first (λ i h. ap (own_part words c) (let t : 0 + i ≡ i = omega arith in t) ∙ own_part_is cells laid k c e words i h)

-- a number's second word has a number
pub next_small : (net : Flat) → IsNet net → (k : ℕ) (c : NetCell) → slice_get net.cells k ≡ Some c → c.cell.kind ≡ Number → c.word + 1 < 4294967296
next_small net is k c e h =
    let t = number_there net.cells is.of.cells.laid_out k c e h in
    let s = is.small.words in
    omega arith

-- WHAT WAS FOUND

-- what stands at a place of the list is what was found there
pub index_found : {X : Type 0} (xs items : List X) (k : ℕ) (x r : X) → items ≡ xs → slice_get xs k ≡ Some x → r ≡ get_or items k r → r ≡ x
index_found xs items k x r same found read = read ∙ ap (λ ys. get_or ys k r) same ∙ get_or_from_slice_get xs k x r found

pub read_found : {X : Type 0} (xs items : List X) (k : ℕ) (r : X) → items ≡ xs → k < length xs → r ≡ get_or items k r → slice_get xs k ≡ Some r
read_found xs items k r same h read = slice_get_read xs (length xs) k r refl h (read ∙ ap (λ ys. get_or ys k r) same)
