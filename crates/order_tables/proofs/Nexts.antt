-- The lists of the items to which bounds lead, and that these lead where the bounds do.
use Rattle.std.proofs.Common.{◌≡◌, ◌⊎◌, inl, inr, ◌≢◌, ℕ, zero, suc, ◌+◌, ◌<◌, ◌≤◌, Bool, true, false, List, [], ◌∷◌, ◌++◌, length, set, take, replicate, nat_eq, Vec, refl, sym, ap, ◌∙◌, subst, arith}
use Rattle.std.specs.Prelude.{IsTrue, All, Contains, slice_index_or, if◌then◌else◌, ◌↔◌}
use Rattle.std.specs.declared.alloc.Global.{Global}
use Rattle.std.proofs.lemmas.List.{length-set, length_push, take_more, append-nil}
use Rattle.std.proofs.lemmas.Bool.{eqb-true, eq-eqb}
use Rattle.std.proofs.lemmas.Bool.Decides.{eqb_tells}
use Rattle.order_tables.specs.declared.bound.Bound.{Bound}
use Rattle.order_tables.specs.Bounds.{Within, Path, HasPath}
use Rattle.order_tables.specs.Reaching.{list_at, highs, AreNexts, AreItems, AreReaching, has, LeadsTo, IsMarked}
use Rattle.order_tables.proofs.Lists.{all_at}
use Rattle.order_tables.proofs.Spread.{true_false, reaches, reaches-to, path-reaches, reaches-on}

-- LISTS OF LISTS

pub list_at-push_nil : {X : Type 0} (vs : List (Vec X Global)) (v : Vec X Global) → v.items ≡ [] → ((a : ℕ) → list_at vs a ≡ []) → (a : ℕ) → list_at (vs ++ v ∷ []) a ≡ []
list_at-push_nil [] v e h zero = e
list_at-push_nil [] v e h (suc a) = refl
list_at-push_nil (x ∷ vs) v e h zero = h 0
list_at-push_nil (x ∷ vs) v e h (suc a) = list_at-push_nil vs v e (λ b. h (suc b)) a

pub list_at-push_last : {X : Type 0} (vs : List (Vec X Global)) (v : Vec X Global) (a : ℕ) → a ≡ length vs → list_at (vs ++ v ∷ []) a ≡ v.items
list_at-push_last [] v zero e = refl
list_at-push_last [] v (suc a) e = absurd (omega arith)
list_at-push_last (x ∷ vs) v zero e = absurd (omega arith)
list_at-push_last (x ∷ vs) v (suc a) e = list_at-push_last vs v a (omega arith)

pub list_at-push_before : {X : Type 0} (vs : List (Vec X Global)) (v : Vec X Global) (a : ℕ) → a < length vs → list_at (vs ++ v ∷ []) a ≡ list_at vs a
list_at-push_before [] v a lt = absurd (omega arith)
list_at-push_before (x ∷ vs) v zero lt = refl
list_at-push_before (x ∷ vs) v (suc a) lt = list_at-push_before vs v a (omega arith)

pub list_at-set_same : {X : Type 0} (vs : List (Vec X Global)) (n : ℕ) (v : Vec X Global) → n < length vs → list_at (set vs n v) n ≡ v.items
list_at-set_same [] n v lt = absurd (omega arith)
list_at-set_same (x ∷ vs) zero v lt = refl
list_at-set_same (x ∷ vs) (suc n) v lt = list_at-set_same vs n v (omega arith)

pub list_at-set_other : {X : Type 0} (vs : List (Vec X Global)) (n a : ℕ) (v : Vec X Global) → a ≢ n → list_at (set vs n v) a ≡ list_at vs a
list_at-set_other [] n a v ne = refl
list_at-set_other (x ∷ vs) zero zero v ne = absurd (ne refl)
list_at-set_other (x ∷ vs) zero (suc a) v ne = refl
list_at-set_other (x ∷ vs) (suc n) zero v ne = refl
list_at-set_other (x ∷ vs) (suc n) (suc a) v ne = list_at-set_other vs n a v (λ e. ne (ap suc e))

-- what an index reads
pub list_at-read : {X : Type 0} (vs : List (Vec X Global)) (n : ℕ) (v : Vec X Global) → n < length vs → v ≡ slice_index_or vs n v → list_at vs n ≡ v.items
list_at-read [] n v lt e = absurd (omega arith)
list_at-read {X} (x ∷ vs) zero v lt e = ap (λ (w : Vec X Global). w.items) (sym e)
list_at-read (x ∷ vs) (suc n) v lt e = list_at-read vs n v (omega arith) e

list_at-past : {X : Type 0} (vs : List (Vec X Global)) (n : ℕ) → length vs ≤ n → list_at vs n ≡ []
list_at-past [] n le = refl
list_at-past (x ∷ vs) zero le = absurd (omega arith)
list_at-past (x ∷ vs) (suc n) le = list_at-past vs n (omega arith)

-- ONE ARC MORE

abbrev one_high : Bound → ℕ → List ℕ
one_high e a = if nat_eq e.low a then e.high ∷ [] else []

highs-cons : (e : Bound) (es : List Bound) (a : ℕ) → highs (e ∷ es) a ≡ (if nat_eq e.low a then e.high ∷ highs es a else highs es a)
highs-cons e es a = go (nat_eq e.low a) refl
  where
    go : (b : Bool) → nat_eq e.low a ≡ b → highs (e ∷ es) a ≡ (if b then e.high ∷ highs es a else highs es a)
    go true h = rw h refl
    go false h = rw h refl

highs-push : (es : List Bound) (e : Bound) (a : ℕ) → highs (es ++ e ∷ []) a ≡ highs es a ++ one_high e a
highs-push [] e a = highs-cons e [] a
highs-push (x ∷ es) e a = highs-cons x (es ++ e ∷ []) a ∙ go (nat_eq x.low a) (highs-push es e a) ∙ ap (λ (ys : List ℕ). ys ++ one_high e a) (sym (highs-cons x es a))
  where
    go : (b : Bool) → highs (es ++ e ∷ []) a ≡ highs es a ++ one_high e a
        → (if b then x.high ∷ highs (es ++ e ∷ []) a else highs (es ++ e ∷ []) a) ≡ (if b then x.high ∷ highs es a else highs es a) ++ one_high e a
    go true h = ap (λ (ys : List ℕ). x.high ∷ ys) h
    go false h = h

-- the lists after the next bound
module _ (size i : ℕ) (bounds : List Bound) (d : Bound) (nexts : List (Vec ℕ Global)) (lt : i < length bounds) (h : AreNexts size (take i bounds) nexts) where
  abbrev next : Bound
  next = slice_index_or bounds i d

  hit : (b : Bool) → b ≡ true → next.high ∷ [] ≡ (if b then next.high ∷ [] else [])
  hit true t = refl
  hit false t = absurd (true_false (sym t))

  miss : (a : ℕ) (b : Bool) → nat_eq next.low a ≡ b → (a ≢ next.low) → [] ≡ (if b then next.high ∷ [] else [])
  miss a true t ne = absurd (ne (sym (eqb-true next.low a t)))
  miss a false t ne = refl

  pub nexts-more : (v : Vec ℕ Global) → next.low < size → v.items ≡ list_at nexts next.low ++ next.high ∷ [] → AreNexts size (take (i + 1) bounds) (set nexts next.low v)
  nexts-more v low is = record {
    long = length-set nexts next.low v ∙ h.long;
    each = λ a within. go a within (eqb_tells a next.low) ∙ sym (highs-push (take i bounds) next a) ∙ ap (λ (es : List Bound). highs es a) (sym (take_more bounds i d lt));
  }
    where
      long : length nexts ≡ size
      long = h.long

      go : (a : ℕ) → a < size → ((nat_eq a next.low ≡ true) × (a ≡ next.low)) ⊎ ((nat_eq a next.low ≡ false) × (a ≢ next.low)) → list_at (set nexts next.low v) a ≡ highs (take i bounds) a ++ one_high next a
      go a within (inl s) =
          ap (list_at (set nexts next.low v)) s.1 ∙ list_at-set_same nexts next.low v (let l = long in omega arith) ∙ is
          ∙ ap (λ (ys : List ℕ). ys ++ next.high ∷ []) (h.each next.low low ∙ ap (highs (take i bounds)) (sym s.1))
          ∙ ap (λ (ys : List ℕ). highs (take i bounds) a ++ ys) (hit (nat_eq next.low a) (eq-eqb next.low a (sym s.1)))
      go a within (inr s) =
          list_at-set_other nexts next.low a v s.1 ∙ h.each a within ∙ sym (append-nil (highs (take i bounds) a)) ∙ ap (λ (ys : List ℕ). highs (take i bounds) a ++ ys) (miss a (nat_eq next.low a) refl s.1)

-- WHERE THE LISTS LEAD

highs-from : (es : List Bound) (a : ℕ) (P : ℕ → Type 0) → ((e : Bound) → Contains es e → e.low ≡ a → P e.high) → All P (highs es a)
highs-from [] a P h = λ k d lt. absurd (omega arith)
highs-from (x ∷ es) a P h = subst (All P) (sym (highs-cons x es a)) (go (nat_eq x.low a) refl (highs-from es a P (λ e i same. h e (suc i.0, omega (arith, i.1), i.2) same)))
  where
    cons : All P (highs es a) → P x.high → All P (x.high ∷ highs es a)
    cons all here zero d lt = here
    cons all here (suc k) d lt = all k d (omega arith)

    go : (b : Bool) → nat_eq x.low a ≡ b → All P (highs es a) → All P (if b then x.high ∷ highs es a else highs es a)
    go true e all = cons all (h x (0, omega arith, refl) (eqb-true x.low a e))
    go false e all = all

highs-to : (es : List Bound) (P : ℕ → Type 0) (e : Bound) → Contains es e → All P (highs es e.low) → P e.high
highs-to [] P e i all = absurd (omega (arith, i.1))
highs-to (x ∷ es) P e (zero, lt, is) all =
    let b : nat_eq x.low e.low ≡ true = eq-eqb x.low e.low (ap (λ (y : Bound). y.low) is) in
    let list : highs (x ∷ es) e.low ≡ x.high ∷ highs es e.low = highs-cons x es e.low ∙ ap (λ (c : Bool). if c then x.high ∷ highs es e.low else highs es e.low) b in
    subst (λ (y : Bound). P y.high) is (subst (All P) list all 0 0 (omega arith))
highs-to (x ∷ es) P e (suc k, lt, is) all = highs-to es P e (k, omega arith, is) (go (nat_eq x.low e.low) (subst (All P) (highs-cons x es e.low) all))
  where
    go : (b : Bool) → All P (if b then x.high ∷ highs es e.low else highs es e.low) → All P (highs es e.low)
    go true h = λ k d lt. h (suc k) d (omega arith)
    go false h = h

module _ (size : ℕ) (bounds : List Bound) (nexts : List (Vec ℕ Global)) (within : All (Within size) bounds) (are : AreNexts size bounds nexts) where
  -- what holds of the items to which bounds lead holds of the list
  listed : (a : ℕ) (P : ℕ → Type 0) → All P (highs bounds a) → All P (list_at nexts a)
  listed a P h = go (low_or a size)
    where
      low_or : (a size : ℕ) → (a < size) ⊎ (size ≤ a)
      low_or a size = grind arith

      go : (a < size) ⊎ (size ≤ a) → All P (list_at nexts a)
      go (inl lt) = subst (All P) (sym (are.each a lt)) h
      go (inr le) = subst (All P) (sym (list_at-past nexts a (let l = are.long in omega arith))) (λ k d lt. absurd (omega arith))

  pub nexts-items : AreItems nexts (length nexts)
  nexts-items a = listed a (λ b. b < length nexts) (highs-from bounds a (λ b. b < length nexts) (λ e i same. let w = all_at (Within size) bounds e within i in let l = are.long in let h = w.1 in omega arith))

  pub leads-reaches : (a b : ℕ) → LeadsTo nexts a b → HasPath bounds a b
  leads-reaches a b leads = reaches-to bounds a b (leads (reaches bounds a)
      (λ x h. listed x (λ y. IsTrue (reaches bounds a y)) (highs-from bounds x (λ y. IsTrue (reaches bounds a y)) (λ e i same. reaches-on bounds a e i (subst (λ (y : ℕ). IsTrue (reaches bounds a y)) (sym same) h))))
      (path-reaches bounds 0 a a refl))

  pub reaches-leads : (n a b : ℕ) → Path bounds a b n → LeadsTo nexts a b
  reaches-leads zero a b e set closed h = subst (λ (y : ℕ). IsTrue (set y)) e h
  reaches-leads (suc n) a b (e, path, i, is) set closed h =
      let w = all_at (Within size) bounds e within i in
      subst (λ (y : ℕ). IsTrue (set y)) is
      (highs-to bounds (λ y. IsTrue (set y)) e i (subst (All (λ y. IsTrue (set y))) (are.each e.low w.0) (closed e.low (reaches-leads n a e.low path set closed h))))

-- marks from none
pub marked-leads : (nexts : List (Vec ℕ Global)) (item : ℕ) (old new : List Bool) → ((a : ℕ) → has old a ≡ false) → IsMarked nexts item old new → (a : ℕ) → IsTrue (has new a) ↔ LeadsTo nexts item a
marked-leads nexts item old new none m a = (λ h. go (m.sound a h), λ leads. leads (has new) (λ x h. onward x (m.onward x h)) m.here)
  where
    go : IsTrue (has old a) ⊎ LeadsTo nexts item a → LeadsTo nexts item a
    go (inl h) = absurd (true_false (sym h ∙ none a))
    go (inr h) = h

    onward : (x : ℕ) → IsTrue (has old x) ⊎ All (λ b. IsTrue (has new b)) (list_at nexts x) → All (λ b. IsTrue (has new b)) (list_at nexts x)
    onward x (inl h) = absurd (true_false (sym h ∙ none x))
    onward x (inr h) = h

pub none-marked : (n a : ℕ) → has (replicate n false) a ≡ false
none-marked zero a = refl
none-marked (suc n) zero = refl
none-marked (suc n) (suc a) = none-marked n a

-- one row more
pub rows-more : (bounds : List Bound) (size i : ℕ) (rows : List (Vec Bool Global)) (v : Vec Bool Global) → AreReaching bounds size i rows → length v.items ≡ size
    → ((b : ℕ) → IsTrue (has v.items b) ↔ HasPath bounds i b) → AreReaching bounds size (i + 1) (rows ++ v ∷ [])
rows-more bounds size i rows v h long each = record {
  long = length_push rows v ∙ ap (λ (n : ℕ). n + 1) h.long;
  wide = λ a lt. wide a (last a i (omega arith));
  each = λ a b lt. reach a b (last a i (omega arith));
}
  where
    last : (k i : ℕ) → k ≤ i → (k < i) ⊎ (k ≡ i)
    last k i le = grind arith

    counted : length rows ≡ i
    counted = h.long

    here : (a : ℕ) → a ≡ i → list_at (rows ++ v ∷ []) a ≡ v.items
    here a e = list_at-push_last rows v a (let l = counted in omega arith)

    before : (a : ℕ) → a < i → list_at (rows ++ v ∷ []) a ≡ list_at rows a
    before a lt = list_at-push_before rows v a (let l = counted in omega arith)

    wide : (a : ℕ) → (a < i) ⊎ (a ≡ i) → length (list_at (rows ++ v ∷ []) a) ≡ size
    wide a (inl lt) = ap length (before a lt) ∙ h.wide a lt
    wide a (inr e) = ap length (here a e) ∙ long

    reach : (a b : ℕ) → (a < i) ⊎ (a ≡ i) → IsTrue (has (list_at (rows ++ v ∷ []) a) b) ↔ HasPath bounds a b
    reach a b (inl lt) = subst (λ (l : List Bool). IsTrue (has l b) ↔ HasPath bounds a b) (sym (before a lt)) (h.each a b lt)
    reach a b (inr e) = subst (λ (l : List Bool). IsTrue (has l b) ↔ HasPath bounds a b) (sym (here a e)) (subst (λ (x : ℕ). IsTrue (has v.items b) ↔ HasPath bounds x b) (sym e) (each b))
