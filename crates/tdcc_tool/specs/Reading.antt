-- How far a call reads its source: as long as the bytes that it was given leave open what it answers. This project's own.
use Rattle.std.specs.Prelude.{◌≡◌, ◌⊎◌, ℕ, ◌≤◌, Bool, true, false, List, [], ◌++◌, length, Result, Ok, Err}
use Rattle.command_words.specs.declared.settings.Limits.{Limits}
use Rattle.tdcc_base.specs.declared.outside.Failed.{Failed}
use Rattle.tdcc_base.specs.declared.stops.TextEnd.TheVariants as text_ends
use Rattle.tdcc_base.specs.Limits.{longest_line}
use Rattle.tdcc_base.specs.Lines.{lines_of, IsOpenLine}
use Rattle.tdcc_base.specs.Reads.{ReadRule, MakesRead, GivesPieces, WasNeeded, bytes_given}
use Rattle.tdcc_base.specs.Texts.{program_text_of, trace_of, end_of, AreWholeLines, IsTextSoFar}
use Rattle.token_system.specs.Stores.{StoreMap}
use Rattle.agent_core.specs.Programs.{CoreProgram}
use Rattle.agent_core.specs.Outputs.{IsRun}
use Rattle.agent_core.specs.Strata.{Stratifies}
use Rattle.agent_core.specs.Limits.{most_instants}
use Rattle.tdcc_tool.specs.declared.answer.Stop.{Stop}
use Rattle.tdcc_tool.specs.declared.answer.Stop.TheVariants as stops
use Rattle.tdcc_tool.specs.declared.task.Task.{Task}
use Rattle.tdcc_tool.specs.declared.task.Task.TheVariants as tasks
use Rattle.tdcc_tool.specs.Accepted.{IsAccepted}
use Rattle.tdcc_tool.specs.Answers.{GiveInputs, KeepsLimits}

-- the program runs on the whole lines of this trace within the limits, so the line that begins behind them says how the run goes on
pub record IsOpenTrace (p : CoreProgram) (limits : Limits) (bytes : List ℕ) : Type 0 where
  pub lines : List ℕ
  pub part : List ℕ
  pub split : bytes ≡ lines ++ part
  pub whole : AreWholeLines lines
  pub next : IsOpenLine longest_line part
  pub ins : List StoreMap
  pub outs : List StoreMap
  pub few : length ins ≤ most_instants
  pub given : GiveInputs p (lines_of lines) ins
  pub run : IsRun p ins outs
  pub within : KeepsLimits p limits outs

-- and the program is stratified, so that it runs at all
abbrev pub IsOpenTraceOf : CoreProgram → Limits → List ℕ → Type 0
IsOpenTraceOf p limits bytes = (table : List ℕ) × Stratifies p table × IsOpenTrace p limits bytes

-- the bytes are the text of a program that runs, its mark, and such a trace
pub record IsOpenRun (limits : Limits) (bytes : List ℕ) : Type 0 where
  pub program : CoreProgram
  pub accepted : IsAccepted (program_text_of bytes) program
  pub mark : end_of bytes ≡ text_ends.Mark
  pub trace : IsOpenTrace program limits (trace_of bytes)

-- the bytes leave open what the task answers: they end within a program text, or a run is to go on
abbrev pub LeavesOpen : Task → List ℕ → Type 0
LeavesOpen (tasks.Run mode limits) bytes = IsTextSoFar bytes ⊎ IsOpenRun limits bytes
LeavesOpen _ bytes = IsTextSoFar bytes

-- a read that asked for as many bytes as every read gave none: the source ended, or failed
abbrev pub GivesNothing : {S : Type 0} → ReadRule S → S → S → Type 0
GivesNothing gives old new = MakesRead gives old (Ok 0) new ⊎ ((e : Failed) × MakesRead gives old (Err e) new)

-- The reads of a call: some that gave bytes, and behind them at most one that gave none. Each was made only where the
-- bytes of the reads before it left the answer open.
pub record ReadsAsNeeded {S : Type 0} (gives : ReadRule S) (Open : List ℕ → Type 0) (old new : S) : Type 0 where
  pub pieces : List (List ℕ)
  pub last : S
  pub given : GivesPieces gives old pieces last
  pub needed : WasNeeded Open [] pieces
  pub ending : (new ≡ last) ⊎ (Open (bytes_given pieces) × GivesNothing gives last new)

-- whether there is no answer since the source failed
abbrev pub is_read_stop : {T : Type 0} → Result T Stop → Bool
is_read_stop (Ok value) = false
is_read_stop (Err stops.Read) = true
is_read_stop (Err stops.Memory) = false
