-- What happens to the parts of the grammar while a program is read from left to right: a part takes a term, or it is
-- left without one. The events of a phrase are a function of the phrase. This project's own.
use Rattle.std.specs.Prelude.{ℕ, suc, List, [], ◌∷◌, get_or}
use Rattle.program_grammar.specs.Terms.{Term, Name, Number, Signal, Int, In, Skip, If, Then, Else, New, Hence, Next, Always, When, Do, Watching, Time, On, Semicolon, Comma, Range, Ampersand, Bars, OpenBrace, CloseBrace, Bang, Hash, GreaterEqual, LessEqual, Equal}
use Rattle.program_grammar.specs.Phrases.{TokenPhrase, AtLeast, AtMost, Exactly, ConstraintPhrase, One, Both, UnitPhrase, Tell, Braces, IfThen, IfElse, LocalSignal, LocalInt, AgentPhrase, Only, Par, NamesPhrase, LastName, MoreName, ItemsPhrase, LastItem, MoreItem, ProgramPhrase, Runs, Signals, Ints}
use Rattle.program_grammar.specs.Phrases as phrases
use Rattle.program_grammar.specs.declared.stack_symbols.StackSymbol.{StackSymbol}
use Rattle.program_grammar.specs.declared.stack_symbols.StackSymbol.TheVariants.{Declarations, MoreNames, OneUnit, MoreUnits, OneToken, MoreTokens, Bound, Branch, DeclaredName, DeniedName, ClashingName, LocalName, LeastNumber, MostNumber, ExactNumber, TheIn, TheClose, EndTell, EndBody, EndLocal, DeclaredIntName, LocalIntName, DomainIn, LowNumber, TheRange, HighNumber, MoreItems, NewKind, TheDo, TheWatching, TheOn, EndWatch, EndTimed}
use Rattle.program_grammar.specs.declared.machine.Step.{Step}
use Rattle.program_grammar.specs.declared.machine.Step.TheVariants.{Matched, Skipped}

-- a part takes this term, or is left
pub data Event : Type 0 where
  Matches : (part : StackSymbol) → (term : Term) → Event
  Skips : (part : StackSymbol) → Event

-- the events of a token of which this part takes the first term, and then the events that follow
abbrev pub token_events : StackSymbol → TokenPhrase → List Event → List Event
token_events p (phrases.On x) rest = Matches p (Name x) ∷ Skips Bound ∷ rest
token_events p (phrases.Off x) rest = Matches p Bang ∷ Matches DeniedName (Name x) ∷ rest
token_events p (phrases.Clash x) rest = Matches p Hash ∷ Matches ClashingName (Name x) ∷ rest
token_events p (AtLeast x n) rest = Matches p (Name x) ∷ Matches Bound GreaterEqual ∷ Matches LeastNumber (Number n) ∷ rest
token_events p (AtMost x n) rest = Matches p (Name x) ∷ Matches Bound LessEqual ∷ Matches MostNumber (Number n) ∷ rest
token_events p (Exactly x n) rest = Matches p (Name x) ∷ Matches Bound Equal ∷ Matches ExactNumber (Number n) ∷ rest

-- of a constraint
abbrev pub constraint_events : StackSymbol → ConstraintPhrase → List Event → List Event
constraint_events p (One t) rest = token_events p t (Skips MoreTokens ∷ rest)
constraint_events p (Both t c) rest = token_events p t (Matches MoreTokens Ampersand ∷ constraint_events OneToken c rest)

abbrev mutual
  -- of a unit
  pub unit_events : UnitPhrase → List Event → List Event
  unit_events phrases.Skip rest = Matches OneUnit Skip ∷ rest
  unit_events (Tell c) rest = constraint_events OneUnit c (Skips EndTell ∷ rest)
  unit_events (Braces a) rest = Matches OneUnit OpenBrace ∷ agent_events a (Matches TheClose CloseBrace ∷ rest)
  unit_events (IfThen c u) rest = Matches OneUnit If ∷ constraint_events OneToken c (Matches Branch Then ∷ unit_events u (Skips EndBody ∷ rest))
  unit_events (IfElse c u) rest = Matches OneUnit If ∷ constraint_events OneToken c (Matches Branch Else ∷ unit_events u (Skips EndBody ∷ rest))
  unit_events (LocalSignal x u) rest = Matches OneUnit New ∷ Matches NewKind Signal ∷ Matches LocalName (Name x) ∷ Matches TheIn In ∷ unit_events u (Skips EndLocal ∷ rest)
  unit_events (LocalInt x l h u) rest = Matches OneUnit New ∷ Matches NewKind Int ∷ Matches LocalIntName (Name x) ∷ Matches DomainIn In ∷ Matches LowNumber (Number l) ∷ Matches TheRange Range ∷ Matches HighNumber (Number h) ∷ Matches TheIn In ∷ unit_events u (Skips EndLocal ∷ rest)
  unit_events (phrases.Hence u) rest = Matches OneUnit Hence ∷ unit_events u (Skips EndBody ∷ rest)
  unit_events (phrases.Next u) rest = Matches OneUnit Next ∷ unit_events u (Skips EndBody ∷ rest)
  unit_events (phrases.Always u) rest = Matches OneUnit Always ∷ unit_events u (Skips EndBody ∷ rest)
  unit_events (phrases.When c u) rest = Matches OneUnit When ∷ constraint_events OneToken c (Matches TheDo Do ∷ unit_events u (Skips EndBody ∷ rest))
  unit_events (phrases.Watching a c) rest = Matches OneUnit Do ∷ agent_events a (Matches TheWatching Watching ∷ constraint_events OneToken c (Skips EndWatch ∷ rest))
  unit_events (phrases.TimeOn a c) rest = Matches OneUnit Time ∷ agent_events a (Matches TheOn On ∷ constraint_events OneToken c (Skips EndTimed ∷ rest))

  -- of an agent
  pub agent_events : AgentPhrase → List Event → List Event
  agent_events (Only u) rest = unit_events u (Skips MoreUnits ∷ rest)
  agent_events (Par u a) rest = unit_events u (Matches MoreUnits Bars ∷ agent_events a rest)

-- of the names of signals, and the semicolon
abbrev pub names_events : NamesPhrase → List Event → List Event
names_events (LastName x) rest = Matches DeclaredName (Name x) ∷ Matches MoreNames Semicolon ∷ rest
names_events (MoreName x ns) rest = Matches DeclaredName (Name x) ∷ Matches MoreNames Comma ∷ names_events ns rest

-- of the names of integers with their domains, and the semicolon
abbrev pub items_events : ItemsPhrase → List Event → List Event
items_events (LastItem x l h) rest = Matches DeclaredIntName (Name x) ∷ Matches DomainIn In ∷ Matches LowNumber (Number l) ∷ Matches TheRange Range ∷ Matches HighNumber (Number h) ∷ Matches MoreItems Semicolon ∷ rest
items_events (MoreItem x l h is) rest = Matches DeclaredIntName (Name x) ∷ Matches DomainIn In ∷ Matches LowNumber (Number l) ∷ Matches TheRange Range ∷ Matches HighNumber (Number h) ∷ Matches MoreItems Comma ∷ items_events is rest

-- of a program
abbrev pub program_events : ProgramPhrase → List Event
program_events (Runs a) = Skips Declarations ∷ agent_events a []
program_events (Signals ns p) = Matches Declarations Signal ∷ names_events ns (program_events p)
program_events (Ints is p) = Matches Declarations Int ∷ items_events is (program_events p)

-- the events as steps: in place of each term the number of terms before it, where so many went before the events
abbrev pub numbered : ℕ → List Event → List Step
numbered place [] = []
numbered place (Matches p t ∷ es) = Matched p place ∷ numbered (suc place) es
numbered place (Skips p ∷ es) = Skipped p ∷ numbered place es

-- the terms that the events take
abbrev pub matched_terms : List Event → List Term
matched_terms [] = []
matched_terms (Matches p t ∷ es) = t ∷ matched_terms es
matched_terms (Skips p ∷ es) = matched_terms es

-- the step with the term of its place put back
abbrev pub event_at : List Term → Step → Event
event_at terms (Matched p place) = Matches p (get_or terms place Skip)
event_at terms (Skipped p) = Skips p
