-- What is proved of certificates, of every program, stratified or not.
use Rattle.std.specs.Prelude.{ℕ, List}
use Rattle.token_system.specs.Stores.{StoreMap}
use Rattle.agent_core.specs.declared.node.Closure.{Closure}
use Rattle.agent_core.specs.Programs.{CoreProgram}
use Rattle.agent_core.specs.WellFormed.{IsWellFormed}
use Rattle.agent_core.specs.Stores.{IsStore}
use Rattle.agent_core.specs.Outputs.{IsRun}
use Rattle.agent_core.specs.Leaves.{Leaf, leaves}
use Rattle.agent_core.specs.RootOutputs.{IsOutputOf}
use Rattle.agent_laws.specs.Laws.{AreClosures}
use Rattle.certificate_laws.specs.Certificates.{Certifies}
use Rattle.certificate_laws.specs.CertifiedRuns.{IsCertifiedRun}

-- what leaves of closures certify is an output of the closures, at whatever instant they are started
abbrev pub CertifiedAreOutputs : Type 0
CertifiedAreOutputs =
    (p : CoreProgram) → IsWellFormed p → (rs : List Closure) → AreClosures p rs → (t : ℕ) (i v : StoreMap) → IsStore p i
    → (run : List Leaf) → Certifies p (leaves p rs t) i v run → IsOutputOf p rs t i v

-- and each output of closures is certified by some of their leaves in some order
abbrev pub OutputsAreCertified : Type 0
OutputsAreCertified =
    (p : CoreProgram) → IsWellFormed p → (rs : List Closure) → AreClosures p rs → (t : ℕ) (i v : StoreMap)
    → IsOutputOf p rs t i v → (run : List Leaf) × Certifies p (leaves p rs t) i v run

-- inputs and outputs with a certificate at each instant are a run
abbrev pub CertifiedRunsAreRuns : Type 0
CertifiedRunsAreRuns =
    (p : CoreProgram) → IsWellFormed p → (ins outs : List StoreMap) (numbers : List (List ℕ)) → IsCertifiedRun p ins outs numbers → IsRun p ins outs
