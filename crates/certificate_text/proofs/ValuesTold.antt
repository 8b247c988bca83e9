-- The tokens in which a value is written tell that value to a store that has none for its name.
use Rattle.std.proofs.Common.{◌≡◌, Bool, true, false, cond, ℤ, Some, None, refl, sym, ap, ◌∙◌, arith}
use Rattle.std.specs.Prelude.{◌≤ℤ◌, int_le, int_lt, unwrap_or}
use Rattle.std.specs.FinMap.{get, insert, get-insert, same_map}
use Rattle.std.specs.Ordering.{eq_by_cmp}
use Rattle.std.specs.Cmp.{eq_by_cmp_equiv}
use Rattle.std.proofs.lemmas.Int.{ints}
use Rattle.token_system.specs.declared.cell.Cell.{Cell}
use Rattle.token_system.specs.declared.cell.Token.{Token}
use Rattle.token_system.specs.declared.cell.Token.TheVariants.{AtLeast, AtMost}
use Rattle.token_system.specs.declared.cell.Value.{Value}
use Rattle.token_system.specs.declared.cell.Value.TheVariants.{Number, Clash}
use Rattle.token_system.specs.declared.name.CellName.{CellName}
use Rattle.token_system.specs.Names.{name_cmp, name_total, name_cmp-IsAntisymmetric}
use Rattle.token_system.specs.Stores.{StoreMap, after_tell, stored}
use Rattle.token_system.specs.Values.{value_eq, value_with, bottom_of}
use Rattle.token_system.proofs.Adding.{value_eq-true}

-- A NAME WITHOUT A VALUE

get_inserted : (s : StoreMap) (n : CellName) (v : Value) → get (insert s n v) n ≡ Some v
get_inserted s n v = get-insert name_total s n v n ∙ ap (λ b. cond b (Some v) (get s n)) ((eq_by_cmp_equiv name_total).refl n)

-- of two values that are kept for one name the later stays
insert_again : (s : StoreMap) (n : CellName) (u v : Value) → insert (insert s n u) n v ≡ insert s n v
insert_again s n u v = same_map name_total name_cmp-IsAntisymmetric (insert (insert s n u) n v) (insert s n v) (λ q.
    get-insert name_total (insert s n u) n v q
    ∙ ap (λ o. cond (eq_by_cmp name_cmp q n) (Some v) o) (get-insert name_total s n u q)
    ∙ go q (eq_by_cmp name_cmp q n)
    ∙ sym (get-insert name_total s n v q))
  where
    go : (q : CellName) (b : Bool) → cond b (Some v) (cond b (Some u) (get s q)) ≡ cond b (Some v) (get s q)
    go q true = refl
    go q false = refl

module _ (s : StoreMap) (n : CellName) (c : Cell) (none : get s n ≡ None) where
  -- the first token
  pub tell_first : (t : Token) (w : Value) → value_with (bottom_of c) t ≡ w → after_tell s n c t ≡ stored s n c w
  tell_first t w e = ap (λ o. stored s n c (value_with (unwrap_or o (bottom_of c)) t)) none ∙ ap (stored s n c) e

  -- a second one, which makes a value that is not the bottom
  pub tell_second : (u : Value) (t : Token) (w : Value) → value_with u t ≡ w → value_eq w (bottom_of c) ≡ false → after_tell (stored s n c u) n c t ≡ stored s n c w
  tell_second u t w e told = go (value_eq u (bottom_of c)) refl
    where
      go : (b : Bool) → value_eq u (bottom_of c) ≡ b → after_tell (cond b s (insert s n u)) n c t ≡ stored s n c w
      go true same = tell_first t w (ap (λ x. value_with x t) (sym (value_eq-true u (bottom_of c) same)) ∙ e)
      go false differ =
          ap (λ o. stored (insert s n u) n c (value_with (unwrap_or o (bottom_of c)) t)) (get_inserted s n u)
          ∙ ap (stored (insert s n u) n c) e
          ∙ ap (λ b. cond b (insert s n u) (insert (insert s n u) n w)) told
          ∙ insert_again s n u w
          ∙ ap (λ b. cond b s (insert s n w)) (sym told)

  -- a value that is not the bottom is kept
  pub stored_told : (w : Value) → value_eq w (bottom_of c) ≡ false → stored s n c w ≡ insert s n w
  stored_told w told = ap (λ b. cond b s (insert s n w)) told

-- BOUNDS

pub same_bound : (a b : ℤ) → a ≤ℤ b → int_lt a b ≡ false → a ≡ b
same_bound a b le none = grind (arith, ints)

pub lower_told : (least most lo : ℤ) → least ≤ℤ lo → lo ≤ℤ most → value_with (Number least most) (AtLeast lo) ≡ Number lo most
lower_told least most lo low high = go (int_le lo least) refl
  where
    above : (b : Bool) → int_lt most lo ≡ b → cond b Clash (Number lo most) ≡ Number lo most
    above false e = refl
    above true e = absurd (grind (arith, ints))

    go : (b : Bool) → int_le lo least ≡ b → cond b (Number least most) (cond (int_lt most lo) Clash (Number lo most)) ≡ Number lo most
    go true e = let same : least ≡ lo = grind (arith, ints) in ap (λ k. Number k most) same
    go false e = above (int_lt most lo) refl

pub upper_told : (lo most hi : ℤ) → lo ≤ℤ hi → hi ≤ℤ most → value_with (Number lo most) (AtMost hi) ≡ Number lo hi
upper_told lo most hi low high = go (int_le most hi) refl
  where
    above : (b : Bool) → int_lt hi lo ≡ b → cond b Clash (Number lo hi) ≡ Number lo hi
    above false e = refl
    above true e = absurd (grind (arith, ints))

    go : (b : Bool) → int_le most hi ≡ b → cond b (Number lo most) (cond (int_lt hi lo) Clash (Number lo hi)) ≡ Number lo hi
    go true e = let same : most ≡ hi = grind (arith, ints) in ap (Number lo) same
    go false e = above (int_lt hi lo) refl
