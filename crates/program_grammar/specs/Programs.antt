-- Which lists of terms are a program, which begin one, and where a list stops to begin one: for the whole language, and
-- for the core language, which has no derived forms. This project's own.
use Rattle.std.specs.Prelude.{◌≡◌, ℕ, ◌≤◌, length, take, List, [], ◌++◌, Bool, true, false, ◌&&◌}
use Rattle.program_grammar.specs.Terms.{Term}
use Rattle.program_grammar.specs.Phrases.{UnitPhrase, Tell, Braces, IfThen, IfElse, LocalSignal, LocalInt, AgentPhrase, Only, Par, ProgramPhrase, Runs, Signals, Ints}
use Rattle.program_grammar.specs.Phrases as phrase
use Rattle.program_grammar.specs.Spelling.{program}
use Rattle.program_grammar.specs.declared.words.Language.{Language}
use Rattle.program_grammar.specs.declared.words.Language.TheVariants.{Whole, Core}

abbrev mutual
  -- the unit has no always, when, do-watching or time-on in it
  pub is_core_unit : UnitPhrase → Bool
  is_core_unit phrase.Skip = true
  is_core_unit (Tell c) = true
  is_core_unit (Braces a) = is_core_agent a
  is_core_unit (IfThen c u) = is_core_unit u
  is_core_unit (IfElse c u) = is_core_unit u
  is_core_unit (LocalSignal x u) = is_core_unit u
  is_core_unit (LocalInt x l h u) = is_core_unit u
  is_core_unit (phrase.Hence u) = is_core_unit u
  is_core_unit (phrase.Next u) = is_core_unit u
  is_core_unit (phrase.Always u) = false
  is_core_unit (phrase.When c u) = false
  is_core_unit (phrase.Watching a c) = false
  is_core_unit (phrase.TimeOn a c) = false

  -- the same of an agent
  pub is_core_agent : AgentPhrase → Bool
  is_core_agent (Only u) = is_core_unit u
  is_core_agent (Par u a) = is_core_unit u && is_core_agent a

-- the same of a program
abbrev pub is_core : ProgramPhrase → Bool
is_core (Runs a) = is_core_agent a
is_core (Signals ns p) = is_core p
is_core (Ints is p) = is_core p

-- the language has phrases of which the test for derived forms says so
abbrev pub Allows : Language → Bool → Type 0
Allows Whole core = Unit {0}
Allows Core core = core ≡ true

-- the terms are this program of the language
pub record Spells (language : Language) (p : ProgramPhrase) (terms : List Term) : Type 0 where
  pub allowed : Allows language (is_core p)
  pub spelled : terms ≡ program p []

-- the terms are a program
abbrev pub IsProgram : Language → List Term → Type 0
IsProgram language terms = (p : ProgramPhrase) × Spells language p terms

-- a program begins with these terms
abbrev pub BeginsProgram : Language → List Term → Type 0
BeginsProgram language terms = (more : List Term) × IsProgram language (terms ++ more)

-- the terms are no program, and the place is the length of their longest prefix that begins one
pub record IsFault (language : Language) (terms : List Term) (place : ℕ) : Type 0 where
  pub within : place ≤ length terms
  pub begins : BeginsProgram language (take place terms)
  pub longest : (n : ℕ) → n ≤ length terms → BeginsProgram language (take n terms) → n ≤ place
  pub wrong : IsProgram language terms → ⊥
