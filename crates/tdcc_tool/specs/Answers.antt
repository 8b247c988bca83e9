-- What the tool answers to its words and the bytes of its source: a status, the bytes for out and the bytes for err. This project's own.
use Rattle.std.specs.Prelude.{◌≡◌, ◌⊎◌, ℕ, ◌<◌, ◌≤◌, List, [], ◌∷◌, length, map, take, String, string_bytes}
use Rattle.std.specs.declared.alloc.Global.{Global}
use Rattle.command_words.specs.declared.command.Command.{Command}
use Rattle.command_words.specs.declared.settings.Limits.{Limits}
use Rattle.command_words.specs.Words as words_of
use Rattle.tdcc_base.specs.declared.status.Status.{Status}
use Rattle.tdcc_base.specs.declared.status.Status.TheVariants as statuses
use Rattle.tdcc_base.specs.Lines.{lines_of}
use Rattle.tdcc_base.specs.Texts.{program_text_of, trace_of}
use Rattle.token_system.specs.Stores.{StoreMap}
use Rattle.agent_core.specs.Programs.{CoreProgram}
use Rattle.agent_core.specs.Outputs.{IsRun}
use Rattle.agent_core.specs.Strata.{Stratifies}
use Rattle.agent_core.specs.Limits.{most_instants}
use Rattle.core_text.specs.CoreTexts.{core_text}
use Rattle.tdcc_reader.specs.declared.fault.ReadFault.{ReadFault}
use Rattle.trace_text.specs.Inputs.{GivesInput}
use Rattle.tdcc_tool.specs.declared.run_end.RunEnd.{RunEnd}
use Rattle.tdcc_tool.specs.declared.task.Task.{Task}
use Rattle.tdcc_tool.specs.declared.task.Task.TheVariants as tasks
use Rattle.tdcc_tool.specs.declared.output.OutputMode.{OutputMode}
use Rattle.tdcc_tool.specs.Messages.{usage_line, program_line, strata_line}
use Rattle.tdcc_tool.specs.Accepted.{IsTextOf}
use Rattle.tdcc_tool.specs.TextFaults.{HasFault}
use Rattle.tdcc_tool.specs.RefusedCases.{IsRefusedCase}
use Rattle.tdcc_tool.specs.RunTexts.{spent, written}
use Rattle.tdcc_tool.specs.RunEnds.{leaf_count_after, EndsBy, status_of, end_line}
use Rattle.tdcc_tool.specs.Checks.{CheckAnswer}
use Rattle.tdcc_tool.specs.Tasks.{task_of, input_of}

-- each of these lines gives the input at its place
abbrev pub GiveInputs : CoreProgram → List (List ℕ) → List StoreMap → Type 0
GiveInputs p [] [] = Unit {0}
GiveInputs p (line ∷ lines) (i ∷ ins) = GivesInput p line i × GiveInputs p lines ins
GiveInputs p [] (i ∷ ins) = ⊥
GiveInputs p (line ∷ lines) [] = ⊥

-- the instants that have these outputs keep the limits: none has too many leaves, and not too many agents ran in all of them
pub record KeepsLimits (p : CoreProgram) (limits : Limits) (outs : List StoreMap) : Type 0 where
  pub net : (n : ℕ) → n < length outs → leaf_count_after p (take n outs) ≤ limits.net
  pub fuel : spent p outs ≤ limits.fuel

-- The answer of a program to the lines of a trace: what is written of the run on the inputs of the lines, up to the end of the trace, to the first line that stops it, or to the first instant that goes past a limit.
pub record RunAnswer (p : CoreProgram) (mode : OutputMode) (limits : Limits) (lines : List (List ℕ)) (status : Status) (out err : List ℕ) : Type 0 where
  pub ins : List StoreMap
  pub outs : List StoreMap
  pub few : length ins ≤ most_instants
  pub given : GiveInputs p (take (length ins) lines) ins
  pub run : IsRun p ins outs
  pub within : KeepsLimits p limits outs
  pub told_out : out ≡ written mode p outs
  pub end : RunEnd
  pub ends : EndsBy p limits lines outs end
  pub status_is : status ≡ status_of end
  pub told_err : err ≡ end_line (length outs) end

-- the answer to a text that has a fault
pub record FaultAnswer (text : List ℕ) (status : Status) (out err : List ℕ) : Type 0 where
  pub fault : ReadFault
  pub has : HasFault text fault
  pub is : status ≡ statuses.Program
  pub nothing : out ≡ []
  pub told : err ≡ program_line fault

-- the answer to a program that is not stratified
pub record CaseAnswer (p : CoreProgram) (status : Status) (out err : List ℕ) : Type 0 where
  pub guard : ℕ
  pub told : ℕ
  pub node : ℕ
  pub case : IsRefusedCase p guard told node
  pub is : status ≡ statuses.Program
  pub nothing : out ≡ []
  pub line : err ≡ strata_line p guard told node

-- the answer of a program to the lines of a trace: it is not stratified, or runs
abbrev pub ProgramAnswer : CoreProgram → OutputMode → Limits → List (List ℕ) → Status → List ℕ → List ℕ → Type 0
ProgramAnswer p mode limits lines status out err =
    CaseAnswer p status out err ⊎ ((table : List ℕ) × Stratifies p table × RunAnswer p mode limits lines status out err)

-- the answer that is the core text of a program
pub record CoreAnswer (p : CoreProgram) (status : Status) (out err : List ℕ) : Type 0 where
  pub is : status ≡ statuses.Ok
  pub written : out ≡ core_text p
  pub nothing : err ≡ []

-- what a task answers of a program: a run with the trace behind its text; its core text is written whether it is stratified or not
abbrev pub AnswersOf : Task → CoreProgram → List ℕ → Status → List ℕ → List ℕ → Type 0
AnswersOf (tasks.Run mode limits) p bytes status out err = ProgramAnswer p mode limits (lines_of (trace_of bytes)) status out err
AnswersOf tasks.Check p bytes status out err = CaseAnswer p status out err ⊎ CheckAnswer p status out err
AnswersOf tasks.Core p bytes status out err = CoreAnswer p status out err

-- what a task answers to the bytes: a program text, and then the trace
abbrev pub AnswersTo : Task → List ℕ → Status → List ℕ → List ℕ → Type 0
AnswersTo task bytes status out err =
    FaultAnswer (program_text_of bytes) status out err
    ⊎ ((p : CoreProgram) × IsTextOf (program_text_of bytes) p × AnswersOf task p bytes status out err)

-- what a command answers, where these are the bytes of the source
abbrev pub AnswersBy : Command → List ℕ → Status → List ℕ → List ℕ → Type 0
AnswersBy command bytes status out err = AnswersTo (task_of command) (input_of command bytes) status out err

-- the words are those of the command
abbrev pub WordsCall : Command → List (String Global) → Type 0
WordsCall command words = words_of.IsCommand command (map string_bytes words)

-- the words are those of none of the commands
abbrev pub WordsCallNothing : List (String Global) → Type 0
WordsCallNothing words = words_of.IsNoCommand (map string_bytes words)

-- the answer to words that are none of the tool's
pub record UsageAnswer (words : List (String Global)) (status : Status) (out err : List ℕ) : Type 0 where
  pub none : WordsCallNothing words
  pub is : status ≡ statuses.Usage
  pub nothing : out ≡ []
  pub told : err ≡ usage_line

-- the answer to the words and the bytes
abbrev pub Answers : List (String Global) → List ℕ → Status → List ℕ → List ℕ → Type 0
Answers words bytes status out err = ((command : Command) × WordsCall command words × AnswersBy command bytes status out err) ⊎ UsageAnswer words status out err

-- the words and the bytes have at most one answer
abbrev pub HaveOneAnswer : List (String Global) → List ℕ → Type 0
HaveOneAnswer words bytes =
    (s s' : Status) (o o' e e' : List ℕ) → Answers words bytes s o e → Answers words bytes s' o' e' → (s ≡ s') × (o ≡ o') × (e ≡ e')
