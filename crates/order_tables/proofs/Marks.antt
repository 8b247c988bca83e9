-- Marking an item and all to which it leads.
use Rattle.std.proofs.Common.{◌≡◌, ◌⊎◌, inl, inr, ◌≢◌, ℕ, zero, suc, ◌+◌, ◌<◌, ◌≤◌, Bool, true, false, List, [], ◌∷◌, length, set, nat_eq, Vec, refl, sym, ap, ◌∙◌, subst, arith}
use Rattle.std.specs.Prelude.{IsTrue, All, slice_index_or, if◌then◌else◌}
use Rattle.std.specs.declared.alloc.Global.{Global}
use Rattle.std.proofs.lemmas.List.{get_or-set_same, get_or-set_other}
use Rattle.std.proofs.lemmas.Bool.Decides.{eqb_tells}
use Rattle.order_tables.specs.Reaching.{list_at, has, LeadsTo, IsMarked}
use Rattle.order_tables.proofs.Lists.{any_default}
use Rattle.order_tables.proofs.Spread.{true_false}

-- how many items are not marked
abbrev pub unmarked : List Bool → ℕ
unmarked [] = 0
unmarked (m ∷ ms) = (if m then 0 else 1) + unmarked ms

pub unmarked-le : (old new : List Bool) → length new ≡ length old → ((a : ℕ) → IsTrue (has old a) → IsTrue (has new a)) → unmarked new ≤ unmarked old
unmarked-le [] [] e h = omega arith
unmarked-le [] (n ∷ ns) e h = absurd (omega arith)
unmarked-le (m ∷ ms) [] e h = absurd (omega arith)
unmarked-le (m ∷ ms) (n ∷ ns) e h = one m n (h 0) (unmarked-le ms ns (omega arith) (λ a. h (suc a)))
  where
    one : (m n : Bool) → (IsTrue m → IsTrue n) → unmarked ns ≤ unmarked ms → (if n then 0 else 1) + unmarked ns ≤ (if m then 0 else 1) + unmarked ms
    one true true h le = omega arith
    one true false h le = absurd (true_false (sym (h refl)))
    one false true h le = omega arith
    one false false h le = omega arith

unmarked-set : (ms : List Bool) (a : ℕ) → a < length ms → has ms a ≡ false → unmarked (set ms a true) < unmarked ms
unmarked-set [] a lt e = absurd (omega arith)
unmarked-set (true ∷ ms) zero lt e = absurd (true_false e)
unmarked-set (false ∷ ms) zero lt e = omega arith
unmarked-set (m ∷ ms) (suc a) lt e = let h = unmarked-set ms a (omega arith) e in omega arith

-- a mark more
set_kept : (ms : List Bool) (item : ℕ) → item < length ms → (a : ℕ) → IsTrue (has ms a) → IsTrue (has (set ms item true) a)
set_kept ms item lt a h = go (eqb_tells a item)
  where
    go : ((nat_eq a item ≡ true) × (a ≡ item)) ⊎ ((nat_eq a item ≡ false) × (a ≢ item)) → IsTrue (has (set ms item true) a)
    go (inl e) = ap (has (set ms item true)) e.1 ∙ get_or-set_same ms item true false lt
    go (inr e) = get_or-set_other ms item a true false e.1 ∙ h

set_new : (ms : List Bool) (item a : ℕ) → IsTrue (has (set ms item true) a) → IsTrue (has ms a) ⊎ (a ≡ item)
set_new ms item a h = go (eqb_tells a item)
  where
    go : ((nat_eq a item ≡ true) × (a ≡ item)) ⊎ ((nat_eq a item ≡ false) × (a ≢ item)) → IsTrue (has ms a) ⊎ (a ≡ item)
    go (inl e) = inr e.1
    go (inr e) = inl (sym (get_or-set_other ms item a true false e.1) ∙ h)

-- the item is marked, and so is all to which the first i of those next to it lead
pub record Walked (nexts : List (Vec ℕ Global)) (item : ℕ) (old now : List Bool) (i : ℕ) : Type 0 where
  pub kept : (a : ℕ) → IsTrue (has old a) → IsTrue (has now a)
  pub here : IsTrue (has now item)
  pub far : (k : ℕ) → k < i → IsTrue (has now (slice_index_or (list_at nexts item) k 0))
  pub onward : (a : ℕ) → IsTrue (has now a) → IsTrue (has old a) ⊎ ((a ≡ item) ⊎ All (λ b. IsTrue (has now b)) (list_at nexts a))
  pub sound : (a : ℕ) → IsTrue (has now a) → IsTrue (has old a) ⊎ LeadsTo nexts item a
  pub fewer : unmarked now < unmarked old

module _ (nexts : List (Vec ℕ Global)) (item : ℕ) (old : List Bool) where
  pub walk-start : item < length old → has old item ≡ false → Walked nexts item old (set old item true) 0
  walk-start lt e = record {
    kept = set_kept old item lt;
    here = get_or-set_same old item true false lt;
    far = λ k lt. absurd (omega arith);
    onward = λ a h. go a (set_new old item a h);
    sound = λ a h. leads a (set_new old item a h);
    fewer = unmarked-set old item lt e;
  }
    where
      go : (a : ℕ) → IsTrue (has old a) ⊎ (a ≡ item) → IsTrue (has old a) ⊎ ((a ≡ item) ⊎ All (λ b. IsTrue (has (set old item true) b)) (list_at nexts a))
      go a (inl h) = inl h
      go a (inr e) = inr (inl e)

      leads : (a : ℕ) → IsTrue (has old a) ⊎ (a ≡ item) → IsTrue (has old a) ⊎ LeadsTo nexts item a
      leads a (inl h) = inl h
      leads a (inr e) = inr (λ set closed h. subst (λ (x : ℕ). IsTrue (set x)) (sym e) h)

  module _ (now : List Bool) (i : ℕ) (w : Walked nexts item old now i) where
    pub walk-on : (new : List Bool) → i < length (list_at nexts item) → length new ≡ length now → IsMarked nexts (slice_index_or (list_at nexts item) i 0) now new → Walked nexts item old new (i + 1)
    walk-on new lt long m = record {
      kept = λ a h. m.kept a (w.kept a h);
      here = m.kept item w.here;
      far = λ k le. far k (last k i (omega arith));
      onward = λ a h. onward a (m.onward a h);
      sound = λ a h. sound a (m.sound a h);
      fewer = let le = unmarked-le now new long m.kept in let less = w.fewer in omega arith;
    }
      where
        last : (k i : ℕ) → k ≤ i → (k < i) ⊎ (k ≡ i)
        last k i le = grind arith

        far : (k : ℕ) → (k < i) ⊎ (k ≡ i) → IsTrue (has new (slice_index_or (list_at nexts item) k 0))
        far k (inl h) = m.kept (slice_index_or (list_at nexts item) k 0) (w.far k h)
        far k (inr e) = subst (λ (j : ℕ). IsTrue (has new (slice_index_or (list_at nexts item) j 0))) (sym e) m.here

        before : (a : ℕ) → IsTrue (has old a) ⊎ ((a ≡ item) ⊎ All (λ b. IsTrue (has now b)) (list_at nexts a)) → IsTrue (has old a) ⊎ ((a ≡ item) ⊎ All (λ b. IsTrue (has new b)) (list_at nexts a))
        before a (inl h) = inl h
        before a (inr (inl e)) = inr (inl e)
        before a (inr (inr h)) = inr (inr (λ k d lt. m.kept (slice_index_or (list_at nexts a) k d) (h k d lt)))

        onward : (a : ℕ) → IsTrue (has now a) ⊎ All (λ b. IsTrue (has new b)) (list_at nexts a) → IsTrue (has old a) ⊎ ((a ≡ item) ⊎ All (λ b. IsTrue (has new b)) (list_at nexts a))
        onward a (inl h) = before a (w.onward a h)
        onward a (inr h) = inr (inr h)

        sound : (a : ℕ) → IsTrue (has now a) ⊎ LeadsTo nexts (slice_index_or (list_at nexts item) i 0) a → IsTrue (has old a) ⊎ LeadsTo nexts item a
        sound a (inl h) = w.sound a h
        sound a (inr h) = inr (λ set closed here. h set closed (closed item here i 0 lt))

    pub walk-end : i ≡ length (list_at nexts item) → IsMarked nexts item old now
    walk-end e = record { kept = w.kept; here = w.here; onward = λ a h. go a (w.onward a h); sound = w.sound }
      where
        own : All (λ b. IsTrue (has now b)) (list_at nexts item)
        own k d lt = subst (λ (b : ℕ). IsTrue (has now b)) (any_default (list_at nexts item) k 0 d lt) (w.far k (omega arith))

        go : (a : ℕ) → IsTrue (has old a) ⊎ ((a ≡ item) ⊎ All (λ b. IsTrue (has now b)) (list_at nexts a)) → IsTrue (has old a) ⊎ All (λ b. IsTrue (has now b)) (list_at nexts a)
        go a (inl h) = inl h
        go a (inr (inl e)) = inr (subst (λ (x : ℕ). All (λ b. IsTrue (has now b)) (list_at nexts x)) (sym e) own)
        go a (inr (inr h)) = inr h
