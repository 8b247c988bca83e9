-- How many terms a phrase has, so that places within it can be counted.
use Rattle.std.specs.Prelude.{ℕ, ◌+◌}
use Rattle.program_grammar.specs.Phrases.{TokenPhrase, AtLeast, AtMost, Exactly, ConstraintPhrase, One, Both, UnitPhrase, Tell, Braces, IfThen, IfElse, LocalSignal, LocalInt, AgentPhrase, Only, Par, NamesPhrase, LastName, MoreName, ItemsPhrase, LastItem, MoreItem}
use Rattle.program_grammar.specs.Phrases as phrases

-- of a token
abbrev pub token_width : TokenPhrase → ℕ
token_width (phrases.On x) = 1
token_width (phrases.Off x) = 2
token_width (phrases.Clash x) = 2
token_width (AtLeast x n) = 3
token_width (AtMost x n) = 3
token_width (Exactly x n) = 3

-- of a constraint
abbrev pub constraint_width : ConstraintPhrase → ℕ
constraint_width (One t) = token_width t
constraint_width (Both t c) = token_width t + 1 + constraint_width c

abbrev mutual
  -- of a unit
  pub unit_width : UnitPhrase → ℕ
  unit_width phrases.Skip = 1
  unit_width (Tell c) = constraint_width c
  unit_width (Braces a) = 1 + agent_width a + 1
  unit_width (IfThen c u) = 1 + constraint_width c + 1 + unit_width u
  unit_width (IfElse c u) = 1 + constraint_width c + 1 + unit_width u
  unit_width (LocalSignal x u) = 4 + unit_width u
  unit_width (LocalInt x l h u) = 8 + unit_width u
  unit_width (phrases.Hence u) = 1 + unit_width u
  unit_width (phrases.Next u) = 1 + unit_width u
  unit_width (phrases.Always u) = 1 + unit_width u
  unit_width (phrases.When c u) = 1 + constraint_width c + 1 + unit_width u
  unit_width (phrases.Watching a c) = 1 + agent_width a + 1 + constraint_width c
  unit_width (phrases.TimeOn a c) = 1 + agent_width a + 1 + constraint_width c

  -- of an agent
  pub agent_width : AgentPhrase → ℕ
  agent_width (Only u) = unit_width u
  agent_width (Par u a) = unit_width u + 1 + agent_width a

-- of the names of signals, with the semicolon
abbrev pub names_width : NamesPhrase → ℕ
names_width (LastName x) = 2
names_width (MoreName x ns) = 2 + names_width ns

-- of the names of integers, with the semicolon
abbrev pub items_width : ItemsPhrase → ℕ
items_width (LastItem x l h) = 6
items_width (MoreItem x l h is) = 6 + items_width is
