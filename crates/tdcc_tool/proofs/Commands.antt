-- What the words of a command say of its task.
use Rattle.std.proofs.Common.{◌≡◌, ℕ, List, Some, None, refl, sym, arith, subst}
use Rattle.std.specs.Prelude.{Option, IfSome, IfOk, Result, Ok, Err, String, map, string_bytes}
use Rattle.std.specs.declared.alloc.Global.{Global}
use Rattle.command_words.specs.declared.command.Command.{Command}
use Rattle.command_words.specs.declared.command.Command.TheVariants.{Run, Report, Check, Core, Generate}
use Rattle.command_words.proofs.CommandWords.{one_command}
use Rattle.command_words.proofs.NetRange.{net_range}
use Rattle.tdcc_base.specs.Reads.{ReadRule}
use Rattle.tdcc_tool.specs.declared.answer.Answer.{Answer}
use Rattle.tdcc_tool.specs.declared.task.Task.{Task}
use Rattle.tdcc_tool.specs.Answers.{AnswersBy, AnswersTo, WordsCall}
use Rattle.tdcc_tool.specs.Reading.{LeavesOpen, ReadsAsNeeded}
use Rattle.tdcc_tool.specs.Tasks.{HasNetLimit, IsGenerated, RunsProgram, ReadsTrace, input_of, task_of}

-- an instant may have as many leaves as a net may
pub has_net_limit : (words : List (String Global)) (command : Command) → WordsCall command words → HasNetLimit (task_of command)
has_net_limit words (Run limits) is = net_range is.more limits is.given
has_net_limit words (Report limits) is = net_range is.more limits is.given
has_net_limit words Check is = tt
has_net_limit words Core is = tt
has_net_limit words (Generate n) is = omega arith

-- what reads a trace runs it
pub runs_trace : (command : Command) → ReadsTrace command → RunsProgram (task_of command)
runs_trace (Run limits) reads = tt
runs_trace (Report limits) reads = tt
runs_trace Check reads = absurd reads
runs_trace Core reads = absurd reads
runs_trace (Generate n) reads = absurd reads

-- what generates nothing reads the bytes of the source
pub not_generated : (command : Command) → ((n : ℕ) → command ≡ Generate n → ⊥) → IsGenerated command → ⊥
not_generated (Run limits) not is = is
not_generated (Report limits) not is = is
not_generated Check not is = is
not_generated Core not is = is
not_generated (Generate n) not is = not n refl

own_input : (command : Command) (bytes : List ℕ) → (IsGenerated command → ⊥) → input_of command bytes ≡ bytes
own_input (Run limits) bytes not = refl
own_input (Report limits) bytes not = refl
own_input Check bytes not = refl
own_input Core bytes not = refl
own_input (Generate n) bytes not = absurd (not tt)

-- so what answers its task answers the command
pub answered_by : {E : Type 0} (command : Command) (task : Task) (left : Option (List ℕ)) (r : Result Answer E) → task ≡ task_of command → (IsGenerated command → ⊥)
    → IfOk r (λ a. IfSome left (λ bytes. AnswersTo task bytes a.status a.out.items a.err.items)) → IfOk r (λ a. IfSome left (λ bytes. AnswersBy command bytes a.status a.out.items a.err.items))
answered_by command task left (Err e) same not h = tt
answered_by command task None (Ok a) same not h = tt
answered_by command task (Some bytes) (Ok a) same not h =
    subst (λ (bs : List ℕ). AnswersTo (task_of command) bs a.status a.out.items a.err.items) (sym (own_input command bytes not)) (subst (λ (t : Task). AnswersTo t bytes a.status a.out.items a.err.items) same h)

pub ended_by : {E : Type 0} (command : Command) (task : Task) (Q : Answer → Type 0) (r : Result Answer E) → task ≡ task_of command → IfOk r (λ a. RunsProgram task → Q a) → IfOk r (λ a. ReadsTrace command → Q a)
ended_by command task Q (Err e) same h = tt
ended_by command task Q (Ok a) same h = λ reads. h (subst RunsProgram (sym same) (runs_trace command reads))

-- what the reads of a command were made for, they were made for the command of the words
pub reads_called : {S : Type 0} (gives : ReadRule S) (words : List (String Global)) (a b : Command) (old new : S) → WordsCall a words → WordsCall b words → (IsGenerated b → ⊥)
    → ((IsGenerated a → ⊥) → ReadsAsNeeded gives (LeavesOpen (task_of a)) old new) → ReadsAsNeeded gives (LeavesOpen (task_of b)) old new
reads_called gives words a b old new is_a is_b not reads =
    let same : a ≡ b = one_command (map string_bytes words) a b is_a is_b in
    subst (λ (k : Command). ReadsAsNeeded gives (LeavesOpen (task_of k)) old new) same (reads (λ g. not (subst IsGenerated same g)))
