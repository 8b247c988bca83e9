-- The grammar: the terms of each phrase, and then the terms that follow it. One line stands for one alternative of the
-- grammar. This project's own syntax.
use Rattle.std.specs.Prelude.{List, ◌∷◌}
use Rattle.program_grammar.specs.Terms.{Term, Name, Number, Signal, Int, In, Skip, If, Then, Else, New, Hence, Next, Always, When, Do, Watching, Time, On, Semicolon, Comma, Range, Ampersand, Bars, OpenBrace, CloseBrace, Bang, Hash, GreaterEqual, LessEqual, Equal}
use Rattle.program_grammar.specs.Phrases.{TokenPhrase, AtLeast, AtMost, Exactly, ConstraintPhrase, One, Both, UnitPhrase, Tell, Braces, IfThen, IfElse, LocalSignal, LocalInt, AgentPhrase, Only, Par, NamesPhrase, LastName, MoreName, ItemsPhrase, LastItem, MoreItem, ProgramPhrase, Runs, Signals, Ints}
use Rattle.program_grammar.specs.Phrases as phrases

-- a token
abbrev pub token : TokenPhrase → List Term → List Term
token (phrases.On x) rest = Name x ∷ rest
token (phrases.Off x) rest = Bang ∷ Name x ∷ rest
token (phrases.Clash x) rest = Hash ∷ Name x ∷ rest
token (AtLeast x n) rest = Name x ∷ GreaterEqual ∷ Number n ∷ rest
token (AtMost x n) rest = Name x ∷ LessEqual ∷ Number n ∷ rest
token (Exactly x n) rest = Name x ∷ Equal ∷ Number n ∷ rest

-- a constraint
abbrev pub constraint : ConstraintPhrase → List Term → List Term
constraint (One t) rest = token t rest
constraint (Both t c) rest = token t (Ampersand ∷ constraint c rest)

abbrev mutual
  -- a unit
  pub unit : UnitPhrase → List Term → List Term
  unit phrases.Skip rest = Skip ∷ rest
  unit (Tell c) rest = constraint c rest
  unit (Braces a) rest = OpenBrace ∷ agent a (CloseBrace ∷ rest)
  unit (IfThen c u) rest = If ∷ constraint c (Then ∷ unit u rest)
  unit (IfElse c u) rest = If ∷ constraint c (Else ∷ unit u rest)
  unit (LocalSignal x u) rest = New ∷ Signal ∷ Name x ∷ In ∷ unit u rest
  unit (LocalInt x l h u) rest = New ∷ Int ∷ Name x ∷ In ∷ Number l ∷ Range ∷ Number h ∷ In ∷ unit u rest
  unit (phrases.Hence u) rest = Hence ∷ unit u rest
  unit (phrases.Next u) rest = Next ∷ unit u rest
  unit (phrases.Always u) rest = Always ∷ unit u rest
  unit (phrases.When c u) rest = When ∷ constraint c (Do ∷ unit u rest)
  unit (phrases.Watching a c) rest = Do ∷ agent a (Watching ∷ constraint c rest)
  unit (phrases.TimeOn a c) rest = Time ∷ agent a (On ∷ constraint c rest)

  -- an agent
  pub agent : AgentPhrase → List Term → List Term
  agent (Only u) rest = unit u rest
  agent (Par u a) rest = unit u (Bars ∷ agent a rest)

-- the names of signals
abbrev pub names : NamesPhrase → List Term → List Term
names (LastName x) rest = Name x ∷ rest
names (MoreName x ns) rest = Name x ∷ Comma ∷ names ns rest

-- the names of integers with their domains
abbrev pub items : ItemsPhrase → List Term → List Term
items (LastItem x l h) rest = Name x ∷ In ∷ Number l ∷ Range ∷ Number h ∷ rest
items (MoreItem x l h is) rest = Name x ∷ In ∷ Number l ∷ Range ∷ Number h ∷ Comma ∷ items is rest

-- a program
abbrev pub program : ProgramPhrase → List Term → List Term
program (Runs a) rest = agent a rest
program (Signals ns p) rest = Signal ∷ names ns (Semicolon ∷ program p rest)
program (Ints is p) rest = Int ∷ items is (Semicolon ∷ program p rest)
