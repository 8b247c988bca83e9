-- Inputs and outputs with a certificate at each instant. This project's own.
use Rattle.std.specs.Prelude.{◌≡◌, ℕ, List, length, take, Some, slice_get}
use Rattle.token_system.specs.Stores.{StoreMap}
use Rattle.agent_core.specs.Programs.{CoreProgram}
use Rattle.agent_core.specs.Stores.{IsStore}
use Rattle.agent_core.specs.Closures.{roots}
use Rattle.agent_core.specs.Leaves.{Leaf, leaves}
use Rattle.certificate_laws.specs.LeafNumbers.{IsCertificate}

-- the leaves of the program at the instant after these closed stores
abbrev pub leaves_after : CoreProgram → List StoreMap → List Leaf
leaves_after p z = leaves p (roots p z) (length z)

-- the numbers certify that v is an output on the input after the closed stores
pub record IsCertifiedAfter (p : CoreProgram) (z : List StoreMap) (i v : StoreMap) (numbers : List ℕ) : Type 0 where
  pub input : IsStore p i
  pub certificate : IsCertificate p (leaves_after p z) i v numbers

-- at each instant the numbers certify the output, after the outputs before it
pub record IsCertifiedRun (p : CoreProgram) (ins outs : List StoreMap) (numbers : List (List ℕ)) : Type 0 where
  pub outputs : length outs ≡ length ins
  pub certificates : length numbers ≡ length ins
  pub each :
      (n : ℕ) (i v : StoreMap) (ns : List ℕ) → slice_get ins n ≡ Some i → slice_get outs n ≡ Some v → slice_get numbers n ≡ Some ns
      → IsCertifiedAfter p (take n outs) i v ns
