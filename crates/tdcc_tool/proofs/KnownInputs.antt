-- What a command answers to the bytes that the source may have.
use Rattle.std.proofs.Common.{ℕ, List, inl, inr, subst}
use Rattle.std.specs.Prelude.{String, Option, IfSome}
use Rattle.std.specs.declared.alloc.Global.{Global}
use Rattle.command_words.specs.declared.command.Command.{Command}
use Rattle.tdcc_tool.specs.Answers.{WordsCall}
use Rattle.tdcc_tool.specs.KnownInputs.{MayHave}
use Rattle.tdcc_tool.specs.Tasks.{IsGenerated}
use Rattle.tdcc_tool.proofs.OneAnswer.{one_command}
use Rattle.tdcc_tool.proofs.Texts.{IfSome-at}

-- what holds of the bytes that the source has, and of any bytes where the input is generated, holds of those that it may have
pub holds_of : (words : List (String Global)) (command : Command) (left : Option (List ℕ)) (bytes : List ℕ) (P : List ℕ → Type 0) → WordsCall command words → MayHave words left bytes
    → IfSome left P → ((other : List ℕ) → IsGenerated command → P other) → P bytes
holds_of words command left bytes P is (inl told) known made = IfSome-at left bytes P told known
holds_of words command left bytes P is (inr (inl none)) known made = absurd (none command is)
holds_of words command left bytes P is (inr (inr (other, called, generated))) known made = made bytes (subst IsGenerated (one_command words other command called is) generated)
