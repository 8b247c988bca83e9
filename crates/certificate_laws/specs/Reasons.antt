-- Why numbers are no certificate: where a walk along them stops, or what it ends with. This project's own.
use Rattle.std.specs.Prelude.{◌≡◌, ◌≢◌, ℕ, ◌<◌, Bool, false, ◌&&◌, not, if◌then◌else◌, List, [], ◌∷◌, Option, Some, None, slice_get, IsTrue, nat_eq}
use Rattle.std.specs.FinMap.{get}
use Rattle.std.specs.List.{list_all, list_any}
use Rattle.std.specs.declared.cmp.Ordering.TheVariants.{Less}
use Rattle.token_system.specs.declared.name.CellName.{CellName}
use Rattle.token_system.specs.Names.{name_cmp}
use Rattle.token_system.specs.Stores.{StoreMap}
use Rattle.agent_core.specs.Programs.{CoreProgram}
use Rattle.agent_core.specs.Leaves.{Leaf, runs}
use Rattle.agent_core.specs.Strata.{In}
use Rattle.agent_laws.specs.LeafRests.{asked, free}
use Rattle.certificate_laws.specs.Justified.{is_tell, after_leaf}
use Rattle.certificate_laws.specs.LeafNumbers.{IsCertificate}

-- a test for `IsJustified`
abbrev pub is_justified : CoreProgram → StoreMap → StoreMap → Leaf → Bool
is_justified p u v l = is_tell l.agent && (list_all (asked p u) l.path && list_all (free p v) l.path)

abbrev pub is_listed : ℕ → List ℕ → Bool
is_listed n numbers = list_any (nat_eq n) numbers

-- the first number that is that of no leaf, or is listed before, or whose leaf is not justified; or what all of them have told
pub data Walk : Type 0 where
  Stops : (number : ℕ) → Walk
  Ends : (told : StoreMap) → Walk

-- number n may come next, if this is its leaf: what was told so far is u, by the numbers before it
abbrev pub may_follow : CoreProgram → StoreMap → StoreMap → List ℕ → ℕ → Option Leaf → Bool
may_follow p u v before n None = false
may_follow p u v before n (Some l) = not (is_listed n before) && is_justified p u v l

-- what is told so far after the leaf of this number, where there is one
abbrev pub told_after : CoreProgram → Option Leaf → StoreMap → StoreMap
told_after p None u = u
told_after p (Some l) u = after_leaf p l u

-- the walk along the numbers, where u is told so far, by the numbers before them
abbrev pub walk : CoreProgram → List Leaf → StoreMap → List ℕ → List ℕ → StoreMap → Walk
walk p ls v before [] u = Ends u
walk p ls v before (n ∷ numbers) u =
    if may_follow p u v before n (slice_get ls n)
    then walk p ls v (n ∷ before) numbers (told_after p (slice_get ls n) u)
    else Stops n

-- the first name, in the order of names, of which the two stores keep different values
pub record IsFirstDifference (v w : StoreMap) (name : CellName) : Type 0 where
  pub differs : get v name ≢ get w name
  pub first : (other : CellName) → name_cmp other name ≡ Less → get v other ≡ get w other

-- the number of a tell that v runs is not among these
pub record IsUnlisted (p : CoreProgram) (ls : List Leaf) (v : StoreMap) (numbers : List ℕ) (n : ℕ) : Type 0 where
  pub leaf : Leaf
  pub found : slice_get ls n ≡ Some leaf
  pub tells : IsTrue (is_tell leaf.agent)
  pub runs : IsTrue (runs p v leaf)
  pub missing : In n numbers → ⊥

-- and no lesser number is
pub record IsLeastUnlisted (p : CoreProgram) (ls : List Leaf) (v : StoreMap) (numbers : List ℕ) (n : ℕ) : Type 0 where
  pub unlisted : IsUnlisted p ls v numbers n
  pub least : (m : ℕ) → m < n → IsUnlisted p ls v numbers m → ⊥

-- what is wrong: a number, a cell, or a number that is left out
pub data Wrong : Type 0 where
  Unjustified : (number : ℕ) → Wrong
  NoJoin : (name : CellName) → Wrong
  NotListed : (number : ℕ) → Wrong

-- this is the first that is wrong of the numbers, as a certificate that v is an output on the input i
abbrev pub IsFirstWrong : CoreProgram → List Leaf → StoreMap → StoreMap → List ℕ → Wrong → Type 0
IsFirstWrong p ls i v numbers (Unjustified n) = walk p ls v [] numbers i ≡ Stops n
IsFirstWrong p ls i v numbers (NoJoin name) = (w : StoreMap) × (walk p ls v [] numbers i ≡ Ends w) × IsFirstDifference v w name
IsFirstWrong p ls i v numbers (NotListed n) = (walk p ls v [] numbers i ≡ Ends v) × IsLeastUnlisted p ls v numbers n

-- where nothing is wrong, the numbers are a certificate; where they are one, nothing is wrong; and no two are the first that is wrong
pub record HasExactReasons (p : CoreProgram) (ls : List Leaf) (i v : StoreMap) (numbers : List ℕ) : Type 0 where
  pub certificate : walk p ls v [] numbers i ≡ Ends v → ((n : ℕ) → IsUnlisted p ls v numbers n → ⊥) → IsCertificate p ls i v numbers
  pub not_both : IsCertificate p ls i v numbers → (wrong : Wrong) → IsFirstWrong p ls i v numbers wrong → ⊥
  pub one : (a b : Wrong) → IsFirstWrong p ls i v numbers a → IsFirstWrong p ls i v numbers b → a ≡ b
