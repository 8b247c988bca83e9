-- What a call of the tool keeps to, from its words and what its devices tell before and after it. Each field is a clause of `tdcc`. This project's own.
use Rattle.std.specs.Prelude.{◌≡◌, ◌≢◌, ◌↔◌, ℕ, List, [], Bool, IsTrue, Option, IfSome, OnSome, Some, String}
use Rattle.std.specs.declared.alloc.Global.{Global}
use Rattle.std.specs.Io.KnownBytes.{Appends, Consumes}
use Rattle.command_words.specs.declared.command.Command.{Command}
use Rattle.tdcc_base.specs.Causes.{Rose}
use Rattle.tdcc_base.specs.Reads.{ReadRule}
use Rattle.tdcc_base.specs.Written.{WritesUntilFault}
use Rattle.tdcc_base.specs.declared.status.Status.{Status}
use Rattle.tdcc_base.specs.declared.status.Status.TheVariants.{Ok, Usage, Read, Write, Memory}
use Rattle.tdcc_tool.specs.Answers.{Answers, WordsCall, WordsCallNothing}
use Rattle.tdcc_tool.specs.Completeness.{IsRunnable, EndsWhole, FitsInto}
use Rattle.tdcc_tool.specs.Cuts.{LeavesAfterFault, fixed_line}
use Rattle.tdcc_tool.specs.Statuses.{IsComplete, IsToolStatus}
use Rattle.tdcc_tool.specs.KnownInputs.{MayHave}
use Rattle.tdcc_tool.specs.Reading.{LeavesOpen, ReadsAsNeeded}
use Rattle.tdcc_tool.specs.Tasks.{IsGenerated, ReadsTrace, task_of}

-- what a source tells of itself: the bytes that it has left, how often it has failed, and whether it is sure to fail no more
pub record SourceState : Type 0 where
  pub left : Option (List ℕ)
  pub faults : ℕ
  pub steady : Bool

-- what a sink tells of itself: the bytes that it has taken, how often it has failed, and how many more it is sure to take
pub record SinkState : Type 0 where
  pub written : Option (List ℕ)
  pub faults : ℕ
  pub room : Option ℕ

-- the defined answer to the bytes has this status, and its bytes stand behind those before in out, and in err as far as err took them
pub record IsAnswered (words : List (String Global)) (bytes : List ℕ) (status : Status) (out out' err err' : SinkState) : Type 0 where
  pub to_out : List ℕ
  pub to_err : List ℕ
  pub answers : Answers words bytes status to_out to_err
  pub written : Appends out.written out'.written to_out
  pub told : WritesUntilFault err.written err'.written err.faults err'.faults to_err

-- a call with these words may answer this status, where its source was read so, and its source, out and err tell this before it and that after it
pub record KeepsContract {S : Type 0} (gives : ReadRule S) (given left : S) (words : List (String Global)) (status : Status) (source source' : SourceState) (out out' err err' : SinkState) : Type 0 where
  pub answer : IsComplete status → (bytes : List ℕ) → MayHave words source.left bytes → IsAnswered words bytes status out out' err err'
  pub cut_out : (bytes given : List ℕ) → MayHave words source.left bytes → Consumes source.left source'.left given → LeavesAfterFault status words bytes given out.written out'.written
  pub no_trace : (command : Command) → WordsCall command words → ¬ ReadsTrace command → status ≡ Read → out' ≡ out
  pub fixed_line : IfSome (fixed_line status) (λ line. WritesUntilFault err.written err'.written err.faults err'.faults line)
  pub read : status ≡ Read → Rose source.faults source'.faults
  pub write : status ≡ Write → Rose out.faults out'.faults
  pub whole : IfSome source.left (λ bytes. IsRunnable words bytes → EndsWhole status (Rose source.faults source'.faults) (Rose out.faults out'.faults))
  pub steady : IsTrue source.steady → status ≡ Read → ⊥
  pub roomy : (bytes : List ℕ) (s : Status) (o e : List ℕ) → MayHave words source.left bytes → Answers words bytes s o e → FitsInto o out.room → status ≡ Write → ⊥
  pub generated_whole : (command : Command) → WordsCall command words → IsGenerated command → EndsWhole status ⊥ (Rose out.faults out'.faults)
  pub usage : WordsCallNothing words ↔ (status ≡ Usage)
  pub usage_source : status ≡ Usage → source' ≡ source
  pub usage_out : status ≡ Usage → out' ≡ out
  pub reads : (command : Command) → WordsCall command words → ¬ IsGenerated command → status ≢ Memory → ReadsAsNeeded gives (LeavesOpen (task_of command)) given left
  pub ended : (command : Command) → WordsCall command words → ReadsTrace command → status ≡ Ok → OnSome source.left (source'.left ≡ Some [])
  pub generated : (command : Command) → WordsCall command words → IsGenerated command → source' ≡ source
  pub statuses : IsToolStatus status
