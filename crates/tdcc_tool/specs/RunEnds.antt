-- How a run ends: at the end of the trace, at a line that stops it, or at an instant that has more leaves, or by which more agents ran, than the limits allow. This project's own.
use Rattle.std.specs.Prelude.{◌≡◌, ◌≢◌, ◌⊎◌, ℕ, ◌<◌, ◌≤◌, List, [], ◌∷◌, ◌++◌, length, slice_get, Some}
use Rattle.command_words.specs.declared.settings.Limits.{Limits}
use Rattle.tdcc_base.specs.declared.status.Status.{Status}
use Rattle.tdcc_base.specs.declared.status.Status.TheVariants as statuses
use Rattle.token_system.specs.Stores.{StoreMap}
use Rattle.agent_core.specs.Programs.{CoreProgram}
use Rattle.agent_core.specs.Closures.{roots}
use Rattle.agent_core.specs.Leaves.{leaves}
use Rattle.agent_core.specs.Outputs.{IsOutput}
use Rattle.agent_core.specs.Limits.{most_instants}
use Rattle.tdcc_base.specs.Limits.{longest_line}
use Rattle.trace_text.specs.declared.fault.LineFault.{LineFault}
use Rattle.trace_text.specs.declared.fault.LineFault.TheVariants as faults
use Rattle.trace_text.specs.Inputs.{GivesInput}
use Rattle.trace_text.specs.Refusals.{RefusesLine}
use Rattle.tdcc_tool.specs.declared.run_end.RunEnd.{RunEnd}
use Rattle.tdcc_tool.specs.declared.run_end.RunEnd.TheVariants as ends
use Rattle.tdcc_tool.specs.Messages.{trace_line, many_line, net_line, fuel_line}
use Rattle.tdcc_tool.specs.RunTexts.{spent}

-- how many leaves the instant has that follows these outputs
abbrev pub leaf_count_after : CoreProgram → List StoreMap → ℕ
leaf_count_after p outs = length (leaves p (roots p outs) (length outs))

-- the line of instant n has the fault; a line behind those of all instants is looked at for its length alone
pub record IsBadLine (p : CoreProgram) (n : ℕ) (line : List ℕ) (fault : LineFault) : Type 0 where
  pub refused : RefusesLine p line fault
  pub says : fault ≢ faults.Memory
  pub due : (n < most_instants) ⊎ (fault ≡ faults.LineTooLong)

-- the line gives the input of instant n
pub record IsDue (p : CoreProgram) (n : ℕ) (line : List ℕ) (input : StoreMap) : Type 0 where
  pub given : GivesInput p line input
  pub few : n < most_instants

-- the instant that follows these outputs has this many leaves, which is too many
pub record IsOverNet (p : CoreProgram) (limits : Limits) (outs : List StoreMap) (count : ℕ) : Type 0 where
  pub counted : count ≡ leaf_count_after p outs
  pub over : limits.net < count

-- it has not, but with its output on this input this many agents ran, which is too many
pub record IsOverFuel (p : CoreProgram) (limits : Limits) (outs : List StoreMap) (input : StoreMap) (count : ℕ) : Type 0 where
  pub fits : leaf_count_after p outs ≤ limits.net
  pub output : StoreMap
  pub is : IsOutput p outs input output
  pub counted : count ≡ spent p (outs ++ output ∷ [])
  pub over : limits.fuel < count

-- this line ends a run so after the instants that have these outputs
abbrev pub EndsAt : CoreProgram → Limits → List StoreMap → List ℕ → RunEnd → Type 0
EndsAt p limits outs line ends.Completed = ⊥
EndsAt p limits outs line (ends.BadLine fault) = IsBadLine p (length outs) line fault
EndsAt p limits outs line ends.TooManyLines = (length line ≤ longest_line) × (length outs ≡ most_instants)
EndsAt p limits outs line (ends.NetFull count) = (input : StoreMap) × IsDue p (length outs) line input × IsOverNet p limits outs count
EndsAt p limits outs line (ends.FuelSpent count) = (input : StoreMap) × IsDue p (length outs) line input × IsOverFuel p limits outs input count

-- these lines end a run so after the instants that have these outputs: all of them are done, or the next one ends it
abbrev pub EndsBy : CoreProgram → Limits → List (List ℕ) → List StoreMap → RunEnd → Type 0
EndsBy p limits lines outs end = ((end ≡ ends.Completed) × (length outs ≡ length lines)) ⊎ ((line : List ℕ) × (slice_get lines (length outs) ≡ Some line) × EndsAt p limits outs line end)

abbrev pub status_of : RunEnd → Status
status_of ends.Completed = statuses.Ok
status_of (ends.BadLine fault) = statuses.Trace
status_of ends.TooManyLines = statuses.Trace
status_of (ends.NetFull count) = statuses.Net
status_of (ends.FuelSpent count) = statuses.Fuel

-- the line for err where a run ends so at instant n
abbrev pub end_line : ℕ → RunEnd → List ℕ
end_line n ends.Completed = []
end_line n (ends.BadLine fault) = trace_line n fault
end_line n ends.TooManyLines = many_line n
end_line n (ends.NetFull count) = net_line n count
end_line n (ends.FuelSpent count) = fuel_line n count
