-- Passes over a program from left to right: what becomes of a state where a part of the grammar matches the term at a
-- place, and where a part is left without one. This project's own.
use Rattle.std.specs.Prelude.{ℕ, ℤ, ◌+◌, List, [], ◌∷◌, get_or}
use Rattle.program_grammar.specs.Terms.{Term, Name, Number, Skip, class_of}
use Rattle.program_grammar.specs.declared.words.Word.{Word}
use Rattle.program_grammar.specs.declared.stack_symbols.StackSymbol.{StackSymbol}
use Rattle.program_grammar.specs.declared.machine.Step.{Step}
use Rattle.program_grammar.specs.declared.machine.Step.TheVariants.{Matched, Skipped}
use Rattle.program_grammar.specs.Events.{Event, Matches, Skips}

pub record Pass (S : Type 0) : Type 0 where
  pub matches : ℕ → StackSymbol → Term → S → S
  pub skips : StackSymbol → S → S

-- over steps, with the terms that they speak of
abbrev pub over_steps : {S : Type 0} → Pass S → List Term → List Step → S → S
over_steps f ts [] s = s
over_steps f ts (Matched p place ∷ ss) s = over_steps f ts ss (f.matches place p (get_or ts place Skip) s)
over_steps f ts (Skipped p ∷ ss) s = over_steps f ts ss (f.skips p s)

-- over events of which the first term is at this place
abbrev pub over_events : {S : Type 0} → Pass S → ℕ → List Event → S → S
over_events f at [] s = s
over_events f at (Matches p t ∷ es) s = over_events f (at + 1) es (f.matches at p t s)
over_events f at (Skips p ∷ es) s = over_events f at es (f.skips p s)

-- a choice by a term: by the bytes of a name, by the value of a number, or by any other word
abbrev pub by_term : {S : Type 0} → (List ℕ → S) → (ℤ → S) → (Word → S) → Term → S
by_term name number word (Name x) = name x
by_term name number word (Number n) = number n
by_term name number word t = word (class_of t)

-- all but the first
abbrev pub less_first : {X : Type 0} → List X → List X
less_first [] = []
less_first (x ∷ xs) = xs
