-- Certificates as they are written: leaves by their numbers, each number once. This project's own.
use Rattle.std.specs.Prelude.{◌≡◌, ℕ, List, [], ◌∷◌, Some, slice_get, IsTrue}
use Rattle.token_system.specs.Stores.{StoreMap}
use Rattle.agent_core.specs.Programs.{CoreProgram}
use Rattle.agent_core.specs.Leaves.{Leaf, runs}
use Rattle.agent_core.specs.Strata.{In}
use Rattle.certificate_laws.specs.Justified.{is_tell}
use Rattle.certificate_laws.specs.Certificates.{Leads}

-- the run is what stands at these places of the leaves, which count from 0
abbrev pub StandAt : List Leaf → List ℕ → List Leaf → Type 0
StandAt ls [] [] = Unit {0}
StandAt ls (n ∷ numbers) (l ∷ run) = (slice_get ls n ≡ Some l) × StandAt ls numbers run
StandAt ls [] (l ∷ run) = ⊥
StandAt ls (n ∷ numbers) [] = ⊥

-- no number stands twice
abbrev pub AreDistinct : List ℕ → Type 0
AreDistinct [] = Unit {0}
AreDistinct (n ∷ ns) = (In n ns → ⊥) × AreDistinct ns

-- the number of each tell of the leaves that v runs is among these
abbrev pub AreListed : CoreProgram → List Leaf → StoreMap → List ℕ → Type 0
AreListed p ls v numbers = (n : ℕ) (l : Leaf) → slice_get ls n ≡ Some l → IsTrue (is_tell l.agent) → IsTrue (runs p v l) → In n numbers

-- the numbers, each once, are those of leaves that lead from the input i to v, and leave out no tell that v runs
pub record IsCertificate (p : CoreProgram) (ls : List Leaf) (i v : StoreMap) (numbers : List ℕ) : Type 0 where
  pub once : AreDistinct numbers
  pub run : List Leaf
  pub numbered : StandAt ls numbers run
  pub leads : Leads p v run i v
  pub listed : AreListed p ls v numbers
