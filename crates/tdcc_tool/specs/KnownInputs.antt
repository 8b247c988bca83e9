-- Which bytes a call answers, as far as that is known. This project's own.
use Rattle.std.specs.Prelude.{◌≡◌, ◌⊎◌, ℕ, List, String, Option, Some}
use Rattle.std.specs.declared.alloc.Global.{Global}
use Rattle.command_words.specs.declared.command.Command.{Command}
use Rattle.tdcc_tool.specs.Answers.{WordsCall, WordsCallNothing}
use Rattle.tdcc_tool.specs.Tasks.{IsGenerated}

-- the words call for no reading: they are no command's, or those of a command that generates its input
abbrev pub ReadNothing : List (String Global) → Type 0
ReadNothing words = WordsCallNothing words ⊎ ((command : Command) × WordsCall command words × IsGenerated command)

-- the source tells that these are the bytes that it has left; where the words call for no reading, it may have any bytes
abbrev pub MayHave : List (String Global) → Option (List ℕ) → List ℕ → Type 0
MayHave words left bytes = (left ≡ Some bytes) ⊎ ReadNothing words
