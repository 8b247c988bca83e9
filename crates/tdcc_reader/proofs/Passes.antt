-- A pass over the steps of a program, with its terms, is the pass over its events.
use Rattle.std.proofs.Common.{◌≡◌, ℕ, suc, ◌+◌, List, [], ◌∷◌, get_or, refl, ap, ◌∙◌, arith}
use Rattle.std.specs.Prelude.{map}
use Rattle.program_grammar.specs.Terms.{Term, Skip}
use Rattle.program_grammar.specs.declared.words.Language.{Language}
use Rattle.program_grammar.specs.declared.machine.Step.{Step}
use Rattle.program_grammar.specs.Events.{Event, Matches, Skips, numbered, program_events, event_at}
use Rattle.program_grammar.specs.Phrases.{ProgramPhrase}
use Rattle.program_grammar.specs.Programs.{Spells}
use Rattle.program_grammar.specs.Reading.{AreSteps}
use Rattle.program_grammar.specs.Spelling.{program}
use Rattle.tdcc_reader.specs.Passes.{Pass, over_steps, over_events}

abbrev rest_of : List Event → List Event
rest_of [] = []
rest_of (e ∷ es) = es

steps_events : {S : Type 0} (f : Pass S) (ts : List Term) (n : ℕ) (es : List Event) (s : S) → map (event_at ts) (numbered n es) ≡ es → over_steps f ts (numbered n es) s ≡ over_events f n es s
steps_events f ts n [] s e = refl
steps_events f ts n (Skips p ∷ es) s e = steps_events f ts n es (f.skips p s) (ap rest_of e)
steps_events f ts n (Matches p t ∷ es) s e =
    let here : get_or ts n Skip ≡ t = cc in
    let next : suc n ≡ n + 1 = omega arith in
    steps_events f ts (suc n) es (f.matches n p (get_or ts n Skip) s) (ap rest_of e)
    ∙ ap (λ k. over_events f k es (f.matches n p (get_or ts n Skip) s)) next
    ∙ ap (λ v. over_events f (n + 1) es (f.matches n p v s)) here

-- so it is for each program of these terms and steps
pub over_program : {S : Type 0} (f : Pass S) (s : S) → ((p : ProgramPhrase) → map (event_at (program p [])) (numbered 0 (program_events p)) ≡ program_events p)
    → (language : Language) (p : ProgramPhrase) (ts : List Term) (steps : List Step) → Spells language p ts → AreSteps p steps
    → over_steps f ts steps s ≡ over_events f 0 (program_events p) s
over_program f s law language p ts steps spells are =
    ap (λ l. over_steps f ts l s) are
    ∙ ap (λ l. over_steps f l (numbered 0 (program_events p)) s) spells.spelled
    ∙ steps_events f (program p []) 0 (program_events p) s (law p)
