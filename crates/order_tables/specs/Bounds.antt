-- Difference constraints: bounds between numbered items, and tables of numbers that satisfy them. This project's own.
use Rattle.std.specs.Prelude.{◌≡◌, ℕ, zero, suc, ◌+◌, ◌<◌, ◌≤◌, Bool, true, false, List, length, All, Contains, slice_index, if◌then◌else◌, sum, set}
use Rattle.order_tables.specs.declared.bound.Bound.{Bound}

-- the least number that the bound lets its high end have
abbrev pub needs : List ℕ → Bound → ℕ
needs table a = slice_index table a.low + (if a.negative then 1 else 0)

-- the numbers of the table satisfy the bound
abbrev pub Satisfies : List ℕ → Bound → Type 0
Satisfies table a = needs table a ≤ slice_index table a.high

-- both ends of the bound are among so many items
abbrev pub Within : ℕ → Bound → Type 0
Within size a = (a.low < size) × (a.high < size)

-- some table satisfies the bounds
abbrev pub HasTable : List Bound → Type 0
HasTable bounds = (table : List ℕ) × All (Satisfies table) bounds

-- no table that satisfies the bounds has a lesser number
abbrev pub IsLeast : List Bound → List ℕ → Type 0
IsLeast bounds table = (other : List ℕ) → All (Satisfies other) bounds → (k : ℕ) → k < length table → slice_index table k ≤ slice_index other k

-- a path of n bounds from item a to item b, each from the item where the one before ends
abbrev pub Path : List Bound → ℕ → ℕ → ℕ → Type 0
Path bounds a b zero = a ≡ b
Path bounds a b (suc n) = (e : Bound) × Path bounds a e.low n × Contains bounds e × (e.high ≡ b)

-- item a reaches item b: they are one item, or a path leads from a to b
abbrev pub HasPath : List Bound → ℕ → ℕ → Type 0
HasPath bounds a b = (n : ℕ) × Path bounds a b n

-- the table after one bound, and whether a number was raised
abbrev pub IsRaised : Bound → List ℕ → List ℕ → Bool → Type 0
IsRaised a old new false = (new ≡ old) × Satisfies old a
IsRaised a old new true = (new ≡ set old a.high (needs old a)) × (slice_index old a.high < needs old a)

-- the table after all bounds, and whether a number was raised
abbrev pub IsPassed : List Bound → List ℕ → List ℕ → Bool → Type 0
IsPassed bounds old new false = (new ≡ old) × All (Satisfies old) bounds
IsPassed bounds old new true = IsLeast bounds new × (sum old < sum new)
