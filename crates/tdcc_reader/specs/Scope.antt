-- The names of a program: each is declared once in its scope, domains are not empty, and tokens fit the kinds of their
-- cells. The first fault in the order of the terms is at its term. A declared name is in scope in the declarations
-- behind it and in the agent, and the name of `new` in its body. This project's own.
use Rattle.std.specs.Prelude.{ℕ, ◌+◌, ℤ, int_lt, List, [], ◌∷◌, bytes_eq, if◌then◌else◌, Option, Some, None}
use Rattle.token_system.specs.declared.cell.Kind.{Kind}
use Rattle.token_system.specs.declared.cell.Kind.TheVariants as kind
use Rattle.program_grammar.specs.Phrases.{TokenPhrase, AtLeast, AtMost, Exactly, ConstraintPhrase, One, Both, UnitPhrase, Tell, Braces, IfThen, IfElse, LocalSignal, LocalInt, AgentPhrase, Only, Par, NamesPhrase, LastName, MoreName, ItemsPhrase, LastItem, MoreItem, ProgramPhrase, Runs, Signals, Ints}
use Rattle.program_grammar.specs.Phrases as phrase
use Rattle.tdcc_reader.specs.declared.naming.NameFault.{NameFault}
use Rattle.tdcc_reader.specs.declared.naming.NameFault.TheVariants.{DoubleName, EmptyDomain, UnknownName, WrongKind}
use Rattle.tdcc_reader.specs.LimitFaults.{first}
use Rattle.tdcc_reader.specs.Widths.{token_width, constraint_width, unit_width, agent_width, names_width, items_width}

-- a name in scope, and the kind of its cell
pub record Known : Type 0 where
  pub name : List ℕ
  pub kind : Kind

abbrev pub known : List ℕ → Kind → Known
known x k = record { name = x; kind = k }

-- the kind of a name's cell, if it is in scope: the newest declaration stands first
abbrev pub kind_in_scope : List Known → List ℕ → Option Kind
kind_in_scope [] x = None
kind_in_scope (k ∷ ks) x = if bytes_eq k.name x then Some k.kind else kind_in_scope ks x

-- the name at this place, whose cell would be of this kind, is not in scope
abbrev pub unknown_fault : Option Kind → ℕ → Option NameFault
unknown_fault None at = Some (UnknownName at)
unknown_fault (Some k) at = None

-- it is that of a number, where a signal is wanted
abbrev pub signal_fault : Option Kind → ℕ → Option NameFault
signal_fault (Some kind.Number) at = Some (WrongKind at)
signal_fault _ at = None

-- it is that of a signal, where a number is wanted
abbrev pub number_fault : Option Kind → ℕ → Option NameFault
number_fault (Some kind.Signal) at = Some (WrongKind at)
number_fault _ at = None

-- it is in scope already
abbrev pub double_fault : Option Kind → ℕ → Option NameFault
double_fault (Some k) at = Some (DoubleName at)
double_fault None at = None

-- the least number of a domain, at this place, is greater than the greatest one
abbrev pub domain_fault : ℤ → ℤ → ℕ → Option NameFault
domain_fault low high at = if int_lt high low then Some (EmptyDomain at) else None

-- the name of a signal, or of a number, or of either is used at this place
abbrev pub signal_use : List Known → List ℕ → ℕ → Option NameFault
signal_use scope x at = first (unknown_fault (kind_in_scope scope x) at) (signal_fault (kind_in_scope scope x) at)

abbrev pub number_use : List Known → List ℕ → ℕ → Option NameFault
number_use scope x at = first (unknown_fault (kind_in_scope scope x) at) (number_fault (kind_in_scope scope x) at)

abbrev pub any_use : List Known → List ℕ → ℕ → Option NameFault
any_use scope x at = unknown_fault (kind_in_scope scope x) at

-- the first fault of a token under these names, at this place
abbrev pub token_fault : TokenPhrase → List Known → ℕ → Option NameFault
token_fault (phrase.On x) scope at = signal_use scope x at
token_fault (phrase.Off x) scope at = signal_use scope x (at + 1)
token_fault (phrase.Clash x) scope at = any_use scope x (at + 1)
token_fault (AtLeast x n) scope at = number_use scope x at
token_fault (AtMost x n) scope at = number_use scope x at
token_fault (Exactly x n) scope at = number_use scope x at

-- of a constraint
abbrev pub constraint_fault : ConstraintPhrase → List Known → ℕ → Option NameFault
constraint_fault (One t) scope at = token_fault t scope at
constraint_fault (Both t c) scope at = first (token_fault t scope at) (constraint_fault c scope (at + token_width t + 1))

-- of a name that is declared at this place
abbrev pub declared_fault : List ℕ → List Known → ℕ → Option NameFault
declared_fault x scope at = double_fault (kind_in_scope scope x) at

-- of a name with its domain
abbrev pub item_fault : List ℕ → ℤ → ℤ → List Known → ℕ → Option NameFault
item_fault x low high scope at = first (declared_fault x scope at) (domain_fault low high (at + 2))

abbrev mutual
  -- of a unit
  pub unit_fault : UnitPhrase → List Known → ℕ → Option NameFault
  unit_fault phrase.Skip scope at = None
  unit_fault (Tell c) scope at = constraint_fault c scope at
  unit_fault (Braces a) scope at = agent_fault a scope (at + 1)
  unit_fault (IfThen c u) scope at = first (constraint_fault c scope (at + 1)) (unit_fault u scope (at + 1 + constraint_width c + 1))
  unit_fault (IfElse c u) scope at = first (constraint_fault c scope (at + 1)) (unit_fault u scope (at + 1 + constraint_width c + 1))
  unit_fault (LocalSignal x u) scope at = first (declared_fault x scope (at + 2)) (unit_fault u (known x kind.Signal ∷ scope) (at + 4))
  unit_fault (LocalInt x l h u) scope at = first (item_fault x l h scope (at + 2)) (unit_fault u (known x kind.Number ∷ scope) (at + 8))
  unit_fault (phrase.Hence u) scope at = unit_fault u scope (at + 1)
  unit_fault (phrase.Next u) scope at = unit_fault u scope (at + 1)
  unit_fault (phrase.Always u) scope at = unit_fault u scope (at + 1)
  unit_fault (phrase.When c u) scope at = first (constraint_fault c scope (at + 1)) (unit_fault u scope (at + 1 + constraint_width c + 1))
  unit_fault (phrase.Watching a c) scope at = first (agent_fault a scope (at + 1)) (constraint_fault c scope (at + 1 + agent_width a + 1))
  unit_fault (phrase.TimeOn a c) scope at = first (agent_fault a scope (at + 1)) (constraint_fault c scope (at + 1 + agent_width a + 1))

  -- of an agent
  pub agent_fault : AgentPhrase → List Known → ℕ → Option NameFault
  agent_fault (Only u) scope at = unit_fault u scope at
  agent_fault (Par u a) scope at = first (unit_fault u scope at) (agent_fault a scope (at + unit_width u + 1))

-- of the names of signals, each in scope behind it
abbrev pub names_fault : NamesPhrase → List Known → ℕ → Option NameFault
names_fault (LastName x) scope at = declared_fault x scope at
names_fault (MoreName x ns) scope at = first (declared_fault x scope at) (names_fault ns (known x kind.Signal ∷ scope) (at + 2))

-- the names in scope behind them
abbrev pub names_known : NamesPhrase → List Known → List Known
names_known (LastName x) scope = known x kind.Signal ∷ scope
names_known (MoreName x ns) scope = names_known ns (known x kind.Signal ∷ scope)

-- of the names of integers
abbrev pub items_fault : ItemsPhrase → List Known → ℕ → Option NameFault
items_fault (LastItem x l h) scope at = item_fault x l h scope at
items_fault (MoreItem x l h is) scope at = first (item_fault x l h scope at) (items_fault is (known x kind.Number ∷ scope) (at + 6))

-- the names in scope behind them
abbrev pub items_known : ItemsPhrase → List Known → List Known
items_known (LastItem x l h) scope = known x kind.Number ∷ scope
items_known (MoreItem x l h is) scope = items_known is (known x kind.Number ∷ scope)

-- of declarations and an agent under these names, from this place on
abbrev pub fault_from : ProgramPhrase → List Known → ℕ → Option NameFault
fault_from (Runs a) scope at = agent_fault a scope at
fault_from (Signals ns p) scope at = first (names_fault ns scope (at + 1)) (fault_from p (names_known ns scope) (at + 1 + names_width ns))
fault_from (Ints is p) scope at = first (items_fault is scope (at + 1)) (fault_from p (items_known is scope) (at + 1 + items_width is))

-- the first fault of a program's names
abbrev pub program_fault : ProgramPhrase → Option NameFault
program_fault p = fault_from p [] 0
