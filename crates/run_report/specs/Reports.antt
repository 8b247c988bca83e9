-- What the output of an instant makes of its leaves and of its thens and elses, in counts. This project's own.
use Rattle.std.specs.Prelude.{ℕ, Bool, false, ◌&&◌, not, List, length, filter}
use Rattle.std.specs.List.{list_all}
use Rattle.token_system.specs.Stores.{StoreMap}
use Rattle.agent_core.specs.declared.node.Closure.{Closure}
use Rattle.agent_core.specs.Programs.{CoreProgram}
use Rattle.agent_core.specs.Rests.{entails}
use Rattle.agent_core.specs.Leaves as leaves
use Rattle.agent_core.specs.Leaves.{Guard, Positive, Negative, allows}
use Rattle.agent_core.specs.Occurrences.{Occurrence, occurrences}
use Rattle.run_report.specs.declared.counts.Report.{Report}

-- the store reaches the then or else: it entails each then ask above it, and no else ask
abbrev pub reaches : CoreProgram → StoreMap → Occurrence Guard → Bool
reaches p v o = list_all (allows p v) o.path

-- an else whose ask the store does not entail
abbrev pub is_confirmed : CoreProgram → StoreMap → Guard → Bool
is_confirmed p v (Positive b c) = false
is_confirmed p v (Negative b c) = not (entails p b v c)

-- an else whose ask the store entails
abbrev pub is_refuted : CoreProgram → StoreMap → Guard → Bool
is_refuted p v (Positive b c) = false
is_refuted p v (Negative b c) = entails p b v c

-- a then whose ask the store does not entail
abbrev pub is_parked : CoreProgram → StoreMap → Guard → Bool
is_parked p v (Positive b c) = not (entails p b v c)
is_parked p v (Negative b c) = false

-- how many thens and elses in the trees of these roots the store reaches, of those that pass the test
abbrev pub reached_of : (CoreProgram → StoreMap → Guard → Bool) → CoreProgram → List Closure → ℕ → StoreMap → ℕ
reached_of test p rs t v = length (filter (λ o. reaches p v o && test p v o.guard) (occurrences p rs t))

-- the report of these roots at instant t, where this is their output and the next instant has so many roots
abbrev pub report_of : CoreProgram → List Closure → ℕ → StoreMap → ℕ → Report
report_of p rs t v next = record {
  ran = leaves.ran p rs t v;
  confirmed = reached_of is_confirmed p rs t v;
  refuted = reached_of is_refuted p rs t v;
  parked = reached_of is_parked p rs t v;
  next = next;
}
