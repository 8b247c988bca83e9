-- The words of each command. This project's own.
use Rattle.std.specs.Prelude.{◌≡◌, ℕ, List, [], ◌∷◌, codes, ◌⊎◌, ◌↔◌}
use Rattle.std.specs.Int.{IsInRange}
use Rattle.command_words.specs.declared.command.Command.{Command}
use Rattle.command_words.specs.declared.command.Command.TheVariants.{Run, Report, Check, Core, Generate}
use Rattle.command_words.specs.declared.settings.Limits.{Limits}
use Rattle.command_words.specs.declared.settings.Setting.TheVariants.{Workers}
use Rattle.command_words.specs.Limits.{most_generated_lines}
use Rattle.command_words.specs.Settings.{AreSettings, IsNumber, GiveLimits}

-- this word stands first, and the others give the limits
pub record IsWithLimits (word : List ℕ) (words : List (List ℕ)) (limits : Limits) : Type 0 where
  pub more : List (List ℕ)
  pub first : words ≡ word ∷ more
  pub given : GiveLimits more limits

-- the words are `--workers` and a number of workers
abbrev pub SetsWorkers : List (List ℕ) → Type 0
SetsWorkers words = (n : ℕ) × AreSettings words (Workers n ∷ [])

-- there are no words, or those of a number of workers
abbrev pub MaySetWorkers : List (List ℕ) → Type 0
MaySetWorkers words = (words ≡ []) ⊎ SetsWorkers words

-- `gen` stands first, then a number of lines, one at least and not too many, and the others may set the workers
pub record IsWithLines (words : List (List ℕ)) (lines : ℕ) : Type 0 where
  pub number : List ℕ
  pub more : List (List ℕ)
  pub first : words ≡ codes "gen" ∷ number ∷ more
  pub writes : IsNumber number lines
  pub allowed : IsInRange 1 most_generated_lines lines
  pub workers : MaySetWorkers more

-- the words are those of the command
abbrev pub IsCommand : Command → List (List ℕ) → Type 0
IsCommand (Run limits) words = IsWithLimits (codes "run") words limits
IsCommand (Report limits) words = IsWithLimits (codes "report") words limits
IsCommand Check words = words ≡ codes "check" ∷ []
IsCommand Core words = words ≡ codes "core" ∷ []
IsCommand (Generate lines) words = IsWithLines words lines

-- the words are those of none of the commands
abbrev pub IsNoCommand : List (List ℕ) → Type 0
IsNoCommand words = (command : Command) → IsCommand command words → ⊥

-- the two lists of words call the same commands, or both call none
abbrev pub CallAlike : List (List ℕ) → List (List ℕ) → Type 0
CallAlike words others = (command : Command) → IsCommand command words ↔ IsCommand command others
