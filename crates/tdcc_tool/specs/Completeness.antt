-- When a run, or its report, goes to its end. This project's own.
use Rattle.std.specs.Prelude.{◌⊎◌, ℕ, ◌≤◌, List, length, String, Option, Some, None}
use Rattle.std.specs.declared.alloc.Global.{Global}
use Rattle.tdcc_base.specs.Lines.{lines_of}
use Rattle.tdcc_base.specs.Texts.{program_text_of, trace_of}
use Rattle.tdcc_base.specs.declared.status.Status.{Status}
use Rattle.tdcc_base.specs.declared.status.Status.TheVariants as statuses
use Rattle.token_system.specs.Stores.{StoreMap}
use Rattle.agent_core.specs.Programs.{CoreProgram}
use Rattle.agent_core.specs.Outputs.{IsRun}
use Rattle.command_words.specs.declared.command.Command.TheVariants.{Run, Report}
use Rattle.command_words.specs.declared.settings.Limits.{Limits}
use Rattle.agent_core.specs.Limits.{most_instants}
use Rattle.tdcc_tool.specs.Accepted.{IsAccepted}
use Rattle.tdcc_tool.specs.Answers.{GiveInputs, KeepsLimits, WordsCall}

-- the words are those of a run or a report with these limits
abbrev pub CallsRun : Limits → List (String Global) → Type 0
CallsRun limits words = WordsCall (Run limits) words ⊎ WordsCall (Report limits) words

-- the text is a program that runs, each line of the trace, of which there are not too many, gives an input, and the run on these keeps the limits
pub record RunsThrough (limits : Limits) (bytes : List ℕ) : Type 0 where
  pub program : CoreProgram
  pub accepted : IsAccepted (program_text_of bytes) program
  pub inputs : List StoreMap
  pub few : length inputs ≤ most_instants
  pub given : GiveInputs program (lines_of (trace_of bytes)) inputs
  pub outputs : List StoreMap
  pub run : IsRun program inputs outputs
  pub within : KeepsLimits program limits outputs

-- the words are those of a run, which the bytes go through within its limits
pub record IsRunnable (words : List (String Global)) (bytes : List ℕ) : Type 0 where
  pub limits : Limits
  pub calls : CallsRun limits words
  pub through : RunsThrough limits bytes

-- the run went to its end, or memory ran out, or the source or the sink failed for this reason
abbrev pub EndsWhole : Status → Type 0 → Type 0 → Type 0
EndsWhole statuses.Ok source_failed sink_failed = Unit {0}
EndsWhole statuses.Memory source_failed sink_failed = Unit {0}
EndsWhole statuses.Read source_failed sink_failed = source_failed
EndsWhole statuses.Write source_failed sink_failed = sink_failed
EndsWhole _ source_failed sink_failed = ⊥

-- the room that is sure is enough for the bytes
abbrev pub FitsInto : List ℕ → Option ℕ → Type 0
FitsInto bytes None = ⊥
FitsInto bytes (Some room) = length bytes ≤ room
