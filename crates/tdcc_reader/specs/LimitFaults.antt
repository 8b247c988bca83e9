-- The limits of a program of a dialect: how deep its units are, and how many tokens a constraint has. What goes past a
-- limit first, in the order of the terms, is refused at its first term. This project's own.
use Rattle.std.specs.Prelude.{ℕ, ◌+◌, nat_lt, if◌then◌else◌, Option, Some, None}
use Rattle.program_grammar.specs.Phrases.{ConstraintPhrase, One, Both, UnitPhrase, Tell, Braces, IfThen, IfElse, LocalSignal, LocalInt, AgentPhrase, Only, Par, ProgramPhrase, Runs, Signals, Ints}
use Rattle.program_grammar.specs.Phrases as phrase
use Rattle.tdcc_reader.specs.declared.dialect.Dialect.{Dialect}
use Rattle.tdcc_reader.specs.declared.limits.Limit.{Limit}
use Rattle.tdcc_reader.specs.declared.limits.Limit.TheVariants.{TooDeep, TooManyTokens}
use Rattle.tdcc_reader.specs.Dialects.{max_depth, max_tokens, token_count}
use Rattle.tdcc_reader.specs.Widths.{token_width, constraint_width, unit_width, agent_width, names_width, items_width}

-- the first of two
abbrev pub first : {A : Type 0} → Option A → Option A → Option A
first None b = b
first (Some a) b = Some a

-- so many tokens of a constraint, the last of which begins at this place
abbrev pub many_limit : Dialect → ℕ → ℕ → Option Limit
many_limit dialect n at = if nat_lt (max_tokens dialect) n then Some (TooManyTokens at) else None

-- the tokens of a constraint behind n others
abbrev pub constraint_limit : Dialect → ConstraintPhrase → ℕ → ℕ → Option Limit
constraint_limit dialect (One t) n at = many_limit dialect (n + token_count dialect t) at
constraint_limit dialect (Both t c) n at = first (many_limit dialect (n + token_count dialect t) at) (constraint_limit dialect c (n + token_count dialect t) (at + token_width t + 1))

-- a unit inside d others, at this place
abbrev pub deep_limit : Dialect → ℕ → ℕ → Option Limit
deep_limit dialect d at = if nat_lt (max_depth dialect) (d + 1) then Some (TooDeep at) else None

abbrev mutual
  -- a unit inside d others, and what is inside it
  pub unit_limit : Dialect → UnitPhrase → ℕ → ℕ → Option Limit
  unit_limit dialect phrase.Skip d at = deep_limit dialect d at
  unit_limit dialect (Tell c) d at = first (deep_limit dialect d at) (constraint_limit dialect c 0 at)
  unit_limit dialect (Braces a) d at = first (deep_limit dialect d at) (agent_limit dialect a (d + 1) (at + 1))
  unit_limit dialect (IfThen c u) d at = first (deep_limit dialect d at) (first (constraint_limit dialect c 0 (at + 1)) (unit_limit dialect u (d + 1) (at + 1 + constraint_width c + 1)))
  unit_limit dialect (IfElse c u) d at = first (deep_limit dialect d at) (first (constraint_limit dialect c 0 (at + 1)) (unit_limit dialect u (d + 1) (at + 1 + constraint_width c + 1)))
  unit_limit dialect (LocalSignal x u) d at = first (deep_limit dialect d at) (unit_limit dialect u (d + 1) (at + 4))
  unit_limit dialect (LocalInt x l h u) d at = first (deep_limit dialect d at) (unit_limit dialect u (d + 1) (at + 8))
  unit_limit dialect (phrase.Hence u) d at = first (deep_limit dialect d at) (unit_limit dialect u (d + 1) (at + 1))
  unit_limit dialect (phrase.Next u) d at = first (deep_limit dialect d at) (unit_limit dialect u (d + 1) (at + 1))
  unit_limit dialect (phrase.Always u) d at = first (deep_limit dialect d at) (unit_limit dialect u (d + 1) (at + 1))
  unit_limit dialect (phrase.When c u) d at = first (deep_limit dialect d at) (first (constraint_limit dialect c 0 (at + 1)) (unit_limit dialect u (d + 1) (at + 1 + constraint_width c + 1)))
  unit_limit dialect (phrase.Watching a c) d at = first (deep_limit dialect d at) (first (agent_limit dialect a (d + 1) (at + 1)) (constraint_limit dialect c 0 (at + 1 + agent_width a + 1)))
  unit_limit dialect (phrase.TimeOn a c) d at = first (deep_limit dialect d at) (first (agent_limit dialect a (d + 1) (at + 1)) (constraint_limit dialect c 0 (at + 1 + agent_width a + 1)))

  -- the units of an agent inside d units
  pub agent_limit : Dialect → AgentPhrase → ℕ → ℕ → Option Limit
  agent_limit dialect (Only u) d at = unit_limit dialect u d at
  agent_limit dialect (Par u a) d at = first (unit_limit dialect u d at) (agent_limit dialect a d (at + unit_width u + 1))

-- the agent of a program of which so many terms stand before this place
abbrev pub limit_from : Dialect → ProgramPhrase → ℕ → Option Limit
limit_from dialect (Runs a) at = agent_limit dialect a 0 at
limit_from dialect (Signals ns p) at = limit_from dialect p (at + 1 + names_width ns)
limit_from dialect (Ints is p) at = limit_from dialect p (at + 1 + items_width is)

-- what goes past a limit first in a program
abbrev pub program_limit : Dialect → ProgramPhrase → Option Limit
program_limit dialect p = limit_from dialect p 0
