-- Stores in strata, and leaves that ask and tell: as much of them as a fixpoint and a loop of completion need to know.
use Rattle.std.proofs.Common.{◌≡◌, ℕ, ◌<◌, ◌≤◌, Bool}
use Rattle.std.specs.Prelude.{IsTrue}

pub record System : Type 1 where
  pub Store : Type 0
  pub Leaf : Type 0
  pub IsStore : Store → Type 0
  pub IsLeaf : Leaf → Type 0
  -- Upto k u w: of the cells of strata below k, w entails what u entails
  pub Upto : ℕ → Store → Store → Type 0
  -- all strata are below this one
  pub strata : ℕ
  pub level : Leaf → ℕ
  -- the store entails each then ask above the leaf; it entails some else ask above it; it entails what the leaf tells
  pub on : Leaf → Store → Bool
  pub off : Leaf → Store → Bool
  pub told : Leaf → Store → Bool
  -- the store once the leaf has told
  pub tell : Leaf → Store → Store
  -- WHAT HOLDS OF THEM
  pub Upto-none : (u w : Store) → Upto 0 u w
  pub Upto-refl : (k : ℕ) (u : Store) → Upto k u u
  pub Upto-trans : (k : ℕ) (u v w : Store) → Upto k u v → Upto k v w → Upto k u w
  pub Upto-all : (u w : Store) → Upto strata u w → (k : ℕ) → Upto k u w
  pub one : (u w : Store) → IsStore u → IsStore w → ((k : ℕ) → Upto k u w) → ((k : ℕ) → Upto k w u) → u ≡ w
  -- then asks are of strata up to the leaf's level, and else asks of strata below it
  pub on-up : (l : Leaf) (k : ℕ) (u w : Store) → IsLeaf l → level l < k → Upto k u w → IsTrue (on l u) → IsTrue (on l w)
  pub off-up : (l : Leaf) (k : ℕ) (u w : Store) → IsLeaf l → level l ≤ k → Upto k u w → IsTrue (off l u) → IsTrue (off l w)
  pub told-up : (l : Leaf) (u w : Store) → IsLeaf l → ((k : ℕ) → Upto k u w) → IsTrue (told l u) → IsTrue (told l w)
  -- the store once the leaf has told is the least above that entails what the leaf tells
  pub tell-store : (l : Leaf) (u : Store) → IsLeaf l → IsStore u → IsStore (tell l u)
  pub tell-above : (l : Leaf) (u : Store) → IsLeaf l → IsStore u → (k : ℕ) → Upto k u (tell l u)
  pub tell-told : (l : Leaf) (u : Store) → IsLeaf l → IsStore u → IsTrue (told l (tell l u))
  pub tell-least : (l : Leaf) (k : ℕ) (u w : Store) → IsLeaf l → IsStore u → IsStore w → Upto k u w → (level l < k → IsTrue (told l w)) → Upto k (tell l u) w
