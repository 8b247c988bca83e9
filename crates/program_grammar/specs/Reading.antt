-- What an answer of the parser says of a list of terms. This project's own.
use Rattle.std.specs.Prelude.{◌≡◌, List}
use Rattle.program_grammar.specs.Terms.{Term}
use Rattle.program_grammar.specs.Phrases.{ProgramPhrase}
use Rattle.program_grammar.specs.Programs.{Spells, IsFault}
use Rattle.program_grammar.specs.Events.{program_events, numbered}
use Rattle.program_grammar.specs.declared.words.Language.{Language}
use Rattle.program_grammar.specs.declared.machine.Step.{Step}
use Rattle.program_grammar.specs.declared.machine.ParseFault.{ParseFault}
use Rattle.program_grammar.specs.declared.machine.ParseFault.TheVariants.{Syntax, Memory}

-- these are the steps of the program, each with the place of its word
abbrev pub AreSteps : ProgramPhrase → List Step → Type 0
AreSteps p steps = steps ≡ numbered 0 (program_events p)

-- the terms are a program of the language, and these are its steps
abbrev pub IsReading : Language → List Term → List Step → Type 0
IsReading language terms steps = (p : ProgramPhrase) × Spells language p terms × AreSteps p steps

-- a fault of syntax is at its place, and out of memory says nothing of the terms
abbrev pub IsSyntaxFault : Language → List Term → ParseFault → Type 0
IsSyntaxFault language terms (Syntax place) = IsFault language terms place
IsSyntaxFault language terms Memory = Unit {0}
