-- The reading machine: a stack of parts of the grammar that are still to come, fed with words by the table. The
-- predictive parser of compiler construction. This project's own.
use Rattle.std.specs.Prelude.{◌≡◌, ℕ, suc, ◌≤◌, ◌<◌, length, take, List, [], ◌∷◌, ◌++◌, map, Option, Some, None, option_and_then, is_some, Bool, true, false, if◌then◌else◌}
use Rattle.std.specs.List.{list_all}
use Rattle.program_grammar.specs.declared.words.Language.{Language}
use Rattle.program_grammar.specs.declared.words.Language.TheVariants.{Whole, Core}
use Rattle.program_grammar.specs.declared.words.Word.{Word}
use Rattle.program_grammar.specs.declared.words.Word.TheVariants.{Always, When, Do, Time}
use Rattle.program_grammar.specs.Table.{stack_after}
use Rattle.program_grammar.specs.declared.stack_symbols.StackSymbol.{StackSymbol}
use Rattle.program_grammar.specs.declared.stack_symbols.StackSymbol.TheVariants.{Declarations, OneUnit, MoreUnits, MoreTokens, Bound, EndTell, EndBody, EndLocal, EndWatch, EndTimed}
use Rattle.program_grammar.specs.declared.machine.Step.{Step}
use Rattle.program_grammar.specs.declared.machine.Step.TheVariants.{Matched, Skipped}

-- what is to come at the start of a program
abbrev pub start : List StackSymbol
start = Declarations ∷ OneUnit ∷ MoreUnits ∷ []

-- the part may be left without a word
abbrev pub may_end : StackSymbol → Bool
may_end Declarations = true
may_end MoreUnits = true
may_end MoreTokens = true
may_end Bound = true
may_end EndTell = true
may_end EndBody = true
may_end EndLocal = true
may_end EndWatch = true
may_end EndTimed = true
may_end _ = false

-- the language has the word: the core language has no keyword that only derived forms begin with
abbrev pub permits : Language → Word → Bool
permits Whole w = true
permits Core Always = false
permits Core When = false
permits Core Do = false
permits Core Time = false
permits Core _ = true

-- the parts on top of the others, or what else is to come
abbrev pub replaced : Option (List StackSymbol) → List StackSymbol → Option (List StackSymbol) → Option (List StackSymbol)
replaced None parts other = other
replaced (Some rest) parts other = Some (rest ++ parts)

-- what is to come stack_after the word, if it may come next
abbrev pub feed : List StackSymbol → Word → Option (List StackSymbol)
feed [] w = None
feed (p ∷ ps) w = replaced (stack_after p w) ps (if may_end p then feed ps w else None)

-- the same, where the language has the word
abbrev pub feed_in : Language → List StackSymbol → Word → Option (List StackSymbol)
feed_in language ps w = if permits language w then feed ps w else None

-- what is to come stack_after several words, if they may come next
abbrev pub run : List StackSymbol → List Word → Option (List StackSymbol)
run ps [] = Some ps
run ps (w ∷ ws) = option_and_then (λ qs. run qs ws) (feed ps w)

-- the same, where the words are the language's
abbrev pub run_in : Language → List StackSymbol → List Word → Option (List StackSymbol)
run_in language ps ws = if list_all (permits language) ws then run ps ws else None

-- nothing more need come
abbrev pub ended : List StackSymbol → Bool
ended ps = list_all may_end ps

-- the steps of a word that may come next, at this place
abbrev pub word_steps : List StackSymbol → ℕ → Word → List Step
word_steps [] place w = []
word_steps (p ∷ ps) place w = if is_some (stack_after p w) then Matched p place ∷ [] else Skipped p ∷ word_steps ps place w

-- what follows where parts are to come
abbrev pub with_some : Option (List StackSymbol) → (List StackSymbol → List Step) → List Step
with_some None f = []
with_some (Some ps) f = f ps

-- the steps of several words from this place on, and of the end
abbrev pub trace : List StackSymbol → ℕ → List Word → List Step
trace ps place [] = map Skipped ps
trace ps place (w ∷ ws) = word_steps ps place w ++ with_some (feed ps w) (λ qs. trace qs (suc place) ws)

-- the machine goes through the words, and may end there
abbrev pub Ends : Language → List Word → Type 0
Ends language ws = (qs : List StackSymbol) × (run_in language start ws ≡ Some qs) × (ended qs ≡ true)

-- the machine goes through so many words and no more, or through all and may not end there
pub record StopsAt (language : Language) (ws : List Word) (place : ℕ) : Type 0 where
  pub within : place ≤ length ws
  pub to_come : List StackSymbol
  pub goes : run_in language start (take place ws) ≡ Some to_come
  pub open_end : place ≡ length ws → ended to_come ≡ false
  pub stuck : place < length ws → run_in language start (take (suc place) ws) ≡ None
