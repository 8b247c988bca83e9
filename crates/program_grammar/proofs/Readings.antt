-- What the machine does with words, as the clauses of the parser say it.
use Rattle.std.proofs.Common.{◌≡◌, ℕ, List, ap, sym, ◌∙◌, subst}
use Rattle.program_grammar.specs.declared.words.Language.{Language}
use Rattle.program_grammar.specs.declared.words.Word.{Word}
use Rattle.program_grammar.specs.declared.machine.Step.{Step}
use Rattle.program_grammar.specs.Terms.{Term, classes}
use Rattle.program_grammar.specs.Phrases.{ProgramPhrase}
use Rattle.program_grammar.specs.Programs.{Spells, IsFault}
use Rattle.program_grammar.specs.Reading.{AreSteps, IsReading}
use Rattle.program_grammar.specs.Machine.{start, trace, Ends, StopsAt}
use Rattle.program_grammar.proofs.Traces.{program_steps}
use Rattle.program_grammar.proofs.Faults.{ends_program, stops_fault}

-- the steps of a program are the steps that the machine takes
pub spelled_steps : (l : Language) (ts : List Term) (ws : List Word) (p : ProgramPhrase) (steps : List Step) → classes ts ≡ ws → Spells l p ts → steps ≡ trace start 0 ws → AreSteps p steps
spelled_steps l ts ws p steps e s taken = taken ∙ ap (trace start 0) (sym e) ∙ ap (λ q. trace start 0 (classes q)) s.spelled ∙ program_steps p

-- where the machine goes through and may end, its steps are those of a program
pub ends_reading : (l : Language) (ts : List Term) (ws : List Word) (steps : List Step) → classes ts ≡ ws → Ends l ws → steps ≡ trace start 0 ws → IsReading l ts steps
ends_reading l ts ws steps e ends taken =
    let (p, s) = ends_program l ts (subst (Ends l) (sym e) ends) in (p, s, spelled_steps l ts ws p steps e s taken)

-- where it stops is the place of the fault
pub stops_at_fault : (l : Language) (ts : List Term) (ws : List Word) (n : ℕ) → classes ts ≡ ws → StopsAt l ws n → IsFault l ts n
stops_at_fault l ts ws n e stops = stops_fault l ts n (let P : List Word → Type 0 = λ q. StopsAt l q n in subst P (sym e) stops)
