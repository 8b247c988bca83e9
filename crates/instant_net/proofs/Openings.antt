-- The words of a store: they are words of the cells, and the store that they are is this store.
use Rattle.std.proofs.Common.{◌≡◌, ◌≢◌, drop-cons, add-one, w64, to_z, of_z, SFits, ◌⊎◌, inl, inr, ℕ, suc, ◌+◌, ◌-◌, ◌/◌, ◌%◌, ◌^◌, ◌<◌, ◌≤◌, List, [], ◌∷◌, ◌++◌, All, length, take, drop, Bool, true, false, cond, Option, Some, None, refl, sym, ap, ◌∙◌, subst, arith}
use Rattle.std.specs.Prelude.{slice_get, slice_index, unwrap_or, ℤ, pos, negsuc, ◌-ℤ◌, ◌≤ℤ◌, ◌<ℤ◌, IsTrue, int_le, int_lt, Contains}
use Rattle.std.specs.FinMap.{get, same_map}
use Rattle.std.proofs.Math.Nat.{div-eq_of_lt}
use Rattle.std.proofs.lemmas.Int.{ints, to_z-of_z}
use Rattle.std.proofs.lemmas.Nat.{pow_pos}
use Rattle.std.proofs.lemmas.List.Elements.{All-head, All-tail}
use Rattle.std.proofs.lemmas.Option.{slice_get_read, slice_get_within, get_or_from_slice_get}
use Rattle.std.proofs.lemmas.Grind.{flat_map-append}
use Rattle.std.proofs.lemmas.List.{append-nil}
use Rattle.token_system.specs.declared.cell.Cell.{Cell}
use Rattle.token_system.specs.declared.cell.Kind.{Kind}
use Rattle.token_system.specs.declared.cell.Kind.TheVariants.{Signal, Number}
use Rattle.token_system.specs.declared.cell.Token.{Token}
use Rattle.token_system.specs.declared.cell.Token.TheVariants as token
use Rattle.token_system.specs.declared.cell.Value.{Value}
use Rattle.token_system.specs.declared.cell.Value.TheVariants as values
use Rattle.token_system.specs.declared.name.CellName.{CellName}
use Rattle.token_system.specs.Names.{name_total, name_cmp-IsAntisymmetric}
use Rattle.token_system.specs.Domain.{is_bound, is_cell}
use Rattle.token_system.specs.Tokens.{is_signal, Fits}
use Rattle.token_system.specs.Values.{bottom_of, bottom_for, value_with, value_tokens, IsValueOf, IsProper, WithinDomain}
use Rattle.token_system.specs.Stores.{StoreMap, value_at, IsKeptFor}
use Rattle.token_system.proofs.Alike.{true_false, within_bound}
use Rattle.token_system.proofs.ValueTokens.{tokens-fit}
use Rattle.token_system.proofs.Adding.{bottom_within, value_eq-itself}
use Rattle.instant_net.specs.declared.parts.NetCell.{NetCell}
use Rattle.instant_net.specs.Opened.{AreInOrder}
use Rattle.instant_net.specs.Outputs.{IsStoreOf}
use Rattle.instant_net.specs.WordParts.{place_in}
use Rattle.instant_net.specs.Words.{empty_words, own_unknown, number_value, bits_value, kind_value, kind_part, store_words, tell_store, tell_tokens, tell_word, told_as, value_in, store_in, shifted, offset, AreLaidOut, AreWords}
use Rattle.instant_net.proofs.PartTells.{split}
use Rattle.instant_net.proofs.WordPlaces.{signal_empty, number_empty, other_empty}
use Rattle.instant_net.proofs.WordOrders.{Lies-refl}
use Rattle.instant_net.proofs.WordValues.{shifted_is, unshifted, number_stands, bounds_lawful}
use Rattle.instant_net.proofs.KeptValues.{take-found}
use Rattle.instant_net.proofs.TokenTells.{value_here, value_elsewhere, after-AreWords}
use Rattle.instant_net.proofs.StoreLookups.{HasNone, names_apart, kept, kept-same, get-none, get-cell, cell_named_or_none}

-- WORDS OF WHICH NOTHING IS TOLD

pub empty-AreWords : (cells : List NetCell) → AreWords cells (empty_words cells)
empty-AreWords cells = record { long = refl; above = λ k h. Lies-refl _ _ }

number_back : (lo hi : ℤ) → IsTrue (is_bound lo) → IsTrue (is_bound hi) → lo ≤ℤ hi → number_value (shifted lo) (shifted hi) ≡ values.Number lo hi
number_back lo hi f g p =
    let x = shifted_is lo f in
    let y = shifted_is hi g in
    let le : shifted lo ≤ shifted hi = omega (arith, ints) in
    number_stands (shifted lo) (shifted hi) le
    ∙ ap (λ z. values.Number z (pos (shifted hi) -ℤ pos offset)) (unshifted lo (shifted lo) f refl) ∙ ap (values.Number lo) (unshifted hi (shifted hi) g refl)

value_empty : (cells : List NetCell) → AreLaidOut cells → (k : ℕ) (c : NetCell) → slice_get cells k ≡ Some c → value_in (empty_words cells) c ≡ bottom_of c.cell
value_empty cells laid k c e = go c.cell.kind refl c.cell.lawful
  where
    by_kind : Kind → Value
    by_kind x = kind_value x (λ i. kind_part x c.first (slice_index (empty_words cells) (c.word + i))) 0

    none : (p : ℕ) → bits_value (0 / 2 ^ p % 4) ≡ values.Signal false false
    none p = ap (λ n. bits_value (n % 4)) (div-eq_of_lt (pow_pos p))

    go : (x : Kind) → c.cell.kind ≡ x → IsTrue (is_cell x c.cell.lo c.cell.hi) → by_kind c.cell.kind ≡ bottom_for c.cell.kind c.cell.lo c.cell.hi
    go Signal h l =
        ap by_kind h
        ∙ ap (λ n. bits_value (n / 2 ^ place_in c.first % 4)) (ap (slice_index (empty_words cells)) (let t : c.word + 0 ≡ c.word = omega arith in t) ∙ signal_empty cells laid k c e h)
        ∙ none (place_in c.first) ∙ sym (ap (λ y. bottom_for y c.cell.lo c.cell.hi) h)
    go Number h l =
        let b = bottom_within Number c.cell.lo c.cell.hi l in
        let f = bounds_lawful c.cell.lo c.cell.hi l in
        ap by_kind h
        ∙ ap (λ n. number_value n (slice_index (empty_words cells) (c.word + (0 + 1)))) (number_empty cells laid k c e h 0)
        ∙ ap (number_value (shifted c.cell.lo)) (ap (slice_index (empty_words cells)) (let t : c.word + (0 + 1) ≡ c.word + 1 = omega arith in t) ∙ number_empty cells laid k c e h 1)
        ∙ number_back c.cell.lo c.cell.hi f.0 f.1 b.1 ∙ sym (ap (λ y. bottom_for y c.cell.lo c.cell.hi) h)

-- the words that one more cell has for itself
pub other_empty-more : (cells : List NetCell) (k : ℕ) (c : NetCell) → slice_get cells k ≡ Some c → other_empty (take (k + 1) cells) ≡ other_empty (take k cells) ++ own_unknown c.cell.kind c.cell.lo c.cell.hi
other_empty-more cells k c e =
    ap other_empty (take-found cells k c e)
    ∙ flat_map-append (λ (x : NetCell). own_unknown x.cell.kind x.cell.lo x.cell.hi) (take k cells) (c ∷ [])
    ∙ ap (λ ws. other_empty (take k cells) ++ ws) (append-nil (own_unknown c.cell.kind c.cell.lo c.cell.hi))

-- THE TOKENS OF A VALUE

abbrev with_each : Value → List Token → Value
with_each v [] = v
with_each v (t ∷ ts) = with_each (value_with v t) ts

-- they fit the cell
pub signal_fits_all : (c : Cell) (a b : Bool) → IsValueOf c (values.Signal a b) → IsTrue (is_signal c.kind)
signal_fits_all c a b is = go c.kind is.domain
  where
    go : (k : Kind) → WithinDomain c.lo c.hi k (values.Signal a b) → IsTrue (is_signal k)
    go Signal d = refl
    go Number d = absurd d

pub bounds_fit : (c : Cell) (lo hi : ℤ) → IsValueOf c (values.Number lo hi) → Fits c (token.AtLeast lo) × Fits c (token.AtMost hi)
bounds_fit c lo hi is =
    let all = tokens-fit c (values.Number lo hi) is in
    (All-head (Fits c) (token.AtLeast lo) (token.AtMost hi ∷ []) all, All-head (Fits c) (token.AtMost hi) [] (All-tail (Fits c) (token.AtLeast lo) (token.AtMost hi ∷ []) all))

-- a bound is a number of 64 bits
bound_fits : (k : ℤ) → IsTrue (is_bound k) → to_z w64 (of_z w64 k) ≡ k
bound_fits k h = to_z-of_z w64 k (fits k h)
  where
    fits : (k : ℤ) → IsTrue (is_bound k) → SFits w64 k
    fits (pos n) h = let most : pos n ≤ℤ pos 999999999 = grind (arith, ints) in record { sfits = omega (arith, ints) }
    fits (negsuc n) h = let least : negsuc 999999998 ≤ℤ negsuc n = grind (arith, ints) in record { sfits = omega (arith, ints) }

number_bounds : (c : Cell) (lo hi : ℤ) → IsValueOf c (values.Number lo hi) → IsTrue (is_bound lo) × IsTrue (is_bound hi)
number_bounds c lo hi is = go c.kind c.lawful is.domain
  where
    go : (k : Kind) → IsTrue (is_cell k c.lo c.hi) → WithinDomain c.lo c.hi k (values.Number lo hi) → IsTrue (is_bound lo) × IsTrue (is_bound hi)
    go Signal l d = absurd d
    go Number l d = within_bound c.lo lo c.hi hi l d.0 is.proper d.1

pub bounds_read : (c : Cell) (lo hi : ℤ) → IsValueOf c (values.Number lo hi) → IsValueOf c (values.Number (to_z w64 (of_z w64 lo)) (to_z w64 (of_z w64 hi)))
bounds_read c lo hi is =
    let b = number_bounds c lo hi is in
    subst (λ (n : ℤ). IsValueOf c (values.Number n (to_z w64 (of_z w64 hi)))) (sym (bound_fits lo b.0)) (subst (λ (n : ℤ). IsValueOf c (values.Number lo n)) (sym (bound_fits hi b.1)) is)

at_least_one : (least most lo : ℤ) → least ≤ℤ lo → lo ≤ℤ most → value_with (values.Number least most) (token.AtLeast lo) ≡ values.Number lo most
at_least_one least most lo p q = go (int_le lo least) (int_lt most lo) refl refl
  where
    go : (a b : Bool) → int_le lo least ≡ a → int_lt most lo ≡ b → cond a (values.Number least most) (cond b values.Clash (values.Number lo most)) ≡ values.Number lo most
    go true b e f = ap (λ n. values.Number n most) (grind (arith, ints))
    go false true e f = absurd (let h : most <ℤ lo = grind (arith, ints) in omega (arith, ints))
    go false false e f = refl

at_most_one : (lo most hi : ℤ) → lo ≤ℤ hi → hi ≤ℤ most → value_with (values.Number lo most) (token.AtMost hi) ≡ values.Number lo hi
at_most_one lo most hi p q = go (int_le most hi) (int_lt hi lo) refl refl
  where
    go : (a b : Bool) → int_le most hi ≡ a → int_lt hi lo ≡ b → cond a (values.Number lo most) (cond b values.Clash (values.Number lo hi)) ≡ values.Number lo hi
    go true b e f = ap (values.Number lo) (grind (arith, ints))
    go false true e f = absurd (let h : hi <ℤ lo = grind (arith, ints) in omega (arith, ints))
    go false false e f = refl

-- told of the bottom, they make the value
tokens_tell : (k : Kind) (least most : ℤ) (v : Value) → WithinDomain least most k v → IsProper v → with_each (bottom_for k least most) (value_tokens v) ≡ v
tokens_tell Signal least most (values.Signal true true) d p = absurd (true_false (sym p))
tokens_tell Signal least most (values.Signal true false) d p = refl
tokens_tell Signal least most (values.Signal false true) d p = refl
tokens_tell Signal least most (values.Signal false false) d p = refl
tokens_tell Signal least most values.Clash d p = refl
tokens_tell Signal least most (values.Number a b) d p = absurd d
tokens_tell Number least most (values.Signal a b) d p = absurd d
tokens_tell Number least most values.Clash d p = refl
tokens_tell Number least most (values.Number lo hi) d p =
    let low = d.0 in
    let high = d.1 in
    ap (λ v. value_with v (token.AtMost hi)) (at_least_one least most lo low (omega (arith, ints))) ∙ at_most_one lo most hi p high

-- the store has a value of each cell
abbrev HasValues : List NetCell → StoreMap → Type 0
HasValues cells s = (i : ℕ) (c : NetCell) → slice_get cells i ≡ Some c → IsValueOf c.cell (value_at s c.name c.cell)

-- TELLING THEM

module _ (cells : List NetCell) (laid : AreLaidOut cells) where
  -- what tokens of one cell do
  record AreTold (words after : List ℕ) (i : ℕ) (c : NetCell) (ts : List Token) : Type 0 where
    are : AreWords cells after
    value : value_in after c ≡ with_each (value_in words c) ts
    elsewhere : (j : ℕ) (d : NetCell) → slice_get cells j ≡ Some d → i ≢ j → value_in after d ≡ value_in words d

  tokens_told : (i : ℕ) (c : NetCell) → slice_get cells i ≡ Some c → (ts : List Token) → All (Fits c.cell) ts → (words : List ℕ) → AreWords cells words → AreTold words (tell_tokens c ts words) i c ts
  tokens_told i c e [] fit words are = record { are = are; value = refl; elsewhere = λ j d g n. refl }
  tokens_told i c e (t ∷ ts) fit words are =
      let f = All-head (Fits c.cell) t ts fit in
      let rest = tokens_told i c e ts (All-tail (Fits c.cell) t ts fit) (tell_word words (told_as c t)) (after-AreWords cells laid words are i c e t f) in
      record {
        are = rest.are;
        value = rest.value ∙ ap (λ v. with_each v ts) (value_here cells laid words are i c e t f);
        elsewhere = λ j d g n. rest.elsewhere j d g n ∙ value_elsewhere cells laid words are i c e t f j d g n;
      }

  either : {P : Type 0} {a b : ℕ} → (a < b) ⊎ (b ≤ a) → (a < b → P) → (b ≤ a → P) → P
  either (inl h) f g = f h
  either (inr h) f g = g h

  -- what the values of the cells from place k on do, of which nothing was told before
  record AreAllTold (s : StoreMap) (words after : List ℕ) (k : ℕ) : Type 0 where
    are : AreWords cells after
    before : (j : ℕ) (d : NetCell) → slice_get cells j ≡ Some d → j < k → value_in after d ≡ value_in words d
    behind : (j : ℕ) (d : NetCell) → slice_get cells j ≡ Some d → k ≤ j → value_in after d ≡ value_at s d.name d.cell

  store_told : (s : StoreMap) → HasValues cells s → (rest : List NetCell) (k : ℕ) → ((n : ℕ) → slice_get rest n ≡ slice_get cells (k + n)) → (words : List ℕ) → AreWords cells words
      → ((j : ℕ) (d : NetCell) → slice_get cells j ≡ Some d → k ≤ j → value_in words d ≡ bottom_of d.cell) → AreAllTold s words (tell_store s rest words) k
  store_told s values [] k same words are bottom = record {
    are = are;
    before = λ j d g h. refl;
    behind = λ j d g h. absurd (let n : None ≡ Some d = same (j - k) ∙ ap (slice_get cells) (omega arith) ∙ g in cc);
  }
  store_told s values (c ∷ rest) k same words are bottom =
      let e : slice_get cells k ≡ Some c = ap (slice_get cells) (let t : k ≡ k + 0 = omega arith in t) ∙ sym (same 0) in
      let v = values k c e in
      let one = tokens_told k c e (value_tokens (value_at s c.name c.cell)) (tokens-fit c.cell (value_at s c.name c.cell) v) words are in
      let more = store_told s values rest (suc k) (λ n. same (suc n) ∙ ap (slice_get cells) (omega arith)) (tell_tokens c (value_tokens (value_at s c.name c.cell)) words) one.are
      (λ j d g h. one.elsewhere j d g (λ same. omega arith) ∙ bottom j d g (omega arith)) in
      record {
        are = more.are;
        before = λ j d g h. more.before j d g (omega arith) ∙ one.elsewhere j d g (λ same. omega arith);
        behind = λ j d g h. either (split k j) (more.behind j d g) (λ le.
            let same_cell : Some c ≡ Some d = sym e ∙ ap (slice_get cells) (let t : k ≡ j = omega arith in t) ∙ g in
            let one_cell : c ≡ d = cc in
            subst (λ (x : NetCell). value_in (tell_store s (c ∷ rest) words) x ≡ value_at s x.name x.cell) one_cell
            (
            more.before k c e (omega arith) ∙ one.value ∙ ap (λ x. with_each x (value_tokens (value_at s c.name c.cell))) (bottom k c e (omega arith))
            ∙ tokens_tell c.cell.kind c.cell.lo c.cell.hi (value_at s c.name c.cell) v.domain v.proper
            ));
      }

-- ALL CELLS

module _ (cells : List NetCell) (order : AreInOrder cells) (s : StoreMap) (is : IsStoreOf cells s) where
  -- one name has one cell
  one_cell : (i : ℕ) (c d : NetCell) → slice_get cells i ≡ Some c → Contains cells d → d.name ≡ c.name → d ≡ c
  one_cell i c d e has same = go (split has.0 i) (split i has.0)
    where
      found : slice_get cells has.0 ≡ Some d
      found = slice_get_read cells (length cells) has.0 d refl has.1 (sym has.2)

      go : (has.0 < i) ⊎ (i ≤ has.0) → (i < has.0) ⊎ (has.0 ≤ i) → d ≡ c
      go (inl a) b = absurd (names_apart cells has.0 i d c order found e a same)
      go (inr a) (inl b) = absurd (names_apart cells i has.0 c d order e found b (sym same))
      go (inr a) (inr b) = let one : has.0 ≡ i = omega arith in let both : Some d ≡ Some c = sym found ∙ ap (slice_get cells) one ∙ e in cc

  kept_for : (i : ℕ) (c : NetCell) (v : Value) → slice_get cells i ≡ Some c → get s c.name ≡ Some v → IsKeptFor c.cell v
  kept_for i c v e g = let x = is c.name v g in subst (λ (d : NetCell). IsKeptFor d.cell v) (one_cell i c x.0 e x.1 x.2) x.3

  pub has_values : HasValues cells s
  has_values i c e = go (get s c.name) refl
    where
      go : (o : Option Value) → get s c.name ≡ o → IsValueOf c.cell (unwrap_or o (bottom_of c.cell))
      go None g = let b = bottom_within c.cell.kind c.cell.lo c.cell.hi c.cell.lawful in record { domain = b.0; proper = b.1 }
      go (Some v) g = (kept_for i c v e g).value

  module _ (laid : AreLaidOut cells) where
    told : AreAllTold cells laid s (empty_words cells) (store_words cells s) 0
    told = store_told cells laid s has_values cells 0 (λ n. ap (slice_get cells) (omega arith)) (empty_words cells) (empty-AreWords cells) (λ j d g h. value_empty cells laid j d g)

    pub opened-AreWords : AreWords cells (store_words cells s)
    opened-AreWords = told.are

    pub opened-store : store_in cells (store_words cells s) ≡ s
    opened-store = same_map name_total name_cmp-IsAntisymmetric (store_in cells (store_words cells s)) s (λ q. by_name q (cell_named_or_none cells q))
      where
        kept_back : (i : ℕ) (c : NetCell) → slice_get cells i ≡ Some c → (o : Option Value) → get s c.name ≡ o → kept c.cell (unwrap_or o (bottom_of c.cell)) ≡ o
        kept_back i c e None g = ap (λ b. cond b None (Some (bottom_of c.cell))) (value_eq-itself (bottom_of c.cell))
        kept_back i c e (Some v) g = kept-same c.cell v (kept_for i c v e g)

        none_kept : (q : CellName) → HasNone cells q → (o : Option Value) → get s q ≡ o → None ≡ o
        none_kept q none None g = refl
        none_kept q none (Some v) g =
            let x = is q v g in
            absurd (none x.1.0 x.0 (slice_get_read cells (length cells) x.1.0 x.0 refl x.1.1 (sym x.1.2)) (sym x.2))

        by_name : (q : CellName) → ((i : ℕ) × (c : NetCell) × (slice_get cells i ≡ Some c) × (c.name ≡ q)) ⊎ HasNone cells q → get (store_in cells (store_words cells s)) q ≡ get s q
        by_name q (inl f) =
            subst (λ (m : CellName). get (store_in cells (store_words cells s)) m ≡ get s m) f.3
            (get-cell cells (store_words cells s) order f.0 f.1 f.2 ∙ ap (kept f.1.cell) (told.behind f.0 f.1 f.2 (omega arith)) ∙ kept_back f.0 f.1 f.2 (get s f.1.name) refl)
        by_name q (inr none) = get-none cells (store_words cells s) q none ∙ none_kept q none (get s q) refl

-- PLACE BY PLACE

pub drop-found : (cells : List NetCell) (k : ℕ) (c : NetCell) → slice_get cells k ≡ Some c → drop k cells ≡ c ∷ drop (k + 1) cells
drop-found cells k c e =
    drop-cons cells k c (slice_get_within cells k c e)
    ∙ ap (λ x. x ∷ drop (suc k) cells) (get_or_from_slice_get cells k c c e)
    ∙ ap (λ n. c ∷ drop n cells) (sym (add-one k))
