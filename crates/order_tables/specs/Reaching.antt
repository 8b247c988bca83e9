-- Which items bounds lead to, from item to item. This project's own.
use Rattle.std.specs.Prelude.{◌≡◌, ◌⊎◌, ◌↔◌, ℕ, ◌<◌, Bool, false, IsTrue, List, [], length, map, filter, ◌==◌, All, Vec, slice_index_or}
use Rattle.std.specs.declared.alloc.Global.{Global}
use Rattle.order_tables.specs.declared.bound.Bound.{Bound}
use Rattle.order_tables.specs.Bounds.{HasPath}

-- the list with this number, and past the last one the empty list
abbrev pub list_at : {X : Type 0} → List (Vec X Global) → ℕ → List X
list_at vs n = slice_index_or (map (λ v. v.items) vs) n []

-- the items to which the bounds lead from item a
abbrev pub highs : List Bound → ℕ → List ℕ
highs bounds a = map (λ e. e.high) (filter (λ e. e.low == a) bounds)

-- for each of the items, those to which the bounds lead
pub record AreNexts (size : ℕ) (bounds : List Bound) (nexts : List (Vec ℕ Global)) : Type 0 where
  pub long : length nexts ≡ size
  pub each : (a : ℕ) → a < size → list_at nexts a ≡ highs bounds a

-- the item is marked
abbrev pub has : List Bool → ℕ → Bool
has marks a = slice_index_or marks a false

-- with each item, the set has those that are next to it
abbrev pub IsClosedUnder : List (Vec ℕ Global) → (ℕ → Bool) → Type 0
IsClosedUnder nexts set = (a : ℕ) → IsTrue (set a) → All (λ b. IsTrue (set b)) (list_at nexts a)

-- each closed set with item a has item b
abbrev pub LeadsTo : List (Vec ℕ Global) → ℕ → ℕ → Type 0
LeadsTo nexts a b = (set : ℕ → Bool) → IsClosedUnder nexts set → IsTrue (set a) → IsTrue (set b)

-- what each item leads to are items
abbrev pub AreItems : List (Vec ℕ Global) → ℕ → Type 0
AreItems nexts size = (a : ℕ) → All (λ b. b < size) (list_at nexts a)

-- the item was marked, and with each item that was not marked before those next to it; and nothing to which it does not lead
pub record IsMarked (nexts : List (Vec ℕ Global)) (item : ℕ) (old new : List Bool) : Type 0 where
  pub kept : (a : ℕ) → IsTrue (has old a) → IsTrue (has new a)
  pub here : IsTrue (has new item)
  pub onward : (a : ℕ) → IsTrue (has new a) → IsTrue (has old a) ⊎ All (λ b. IsTrue (has new b)) (list_at nexts a)
  pub sound : (a : ℕ) → IsTrue (has new a) → IsTrue (has old a) ⊎ LeadsTo nexts item a

-- row a has item b exactly where item a reaches item b
pub record AreReaching (bounds : List Bound) (size count : ℕ) (rows : List (Vec Bool Global)) : Type 0 where
  pub long : length rows ≡ count
  pub wide : (a : ℕ) → a < count → length (list_at rows a) ≡ size
  pub each : (a b : ℕ) → a < count → IsTrue (has (list_at rows a) b) ↔ HasPath bounds a b
