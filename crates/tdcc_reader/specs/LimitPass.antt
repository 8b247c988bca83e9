-- The pass that looks for the limits: how many units are around, how many tokens the constraint at hand has so far, and
-- what went past a limit first.
use Rattle.std.specs.Prelude.{ℕ, ◌+◌, ◌-◌, Option}
use Rattle.program_grammar.specs.Terms.{class_of}
use Rattle.program_grammar.specs.declared.words.Word.{Word}
use Rattle.program_grammar.specs.declared.words.Word.TheVariants.{Name, Bang, Hash, Skip, Equal}
use Rattle.program_grammar.specs.declared.stack_symbols.StackSymbol.{StackSymbol}
use Rattle.program_grammar.specs.declared.stack_symbols.StackSymbol.TheVariants.{OneUnit, OneToken, MoreTokens, Bound, TheClose, TheWatching, TheOn, EndBody, EndLocal}
use Rattle.tdcc_reader.specs.declared.dialect.Dialect.{Dialect}
use Rattle.tdcc_reader.specs.declared.dialect.Dialect.TheVariants.{Program, Core}
use Rattle.tdcc_reader.specs.declared.limits.Limit.{Limit}
use Rattle.tdcc_reader.specs.declared.limits.Limits.{Limits}
use Rattle.tdcc_reader.specs.LimitFaults.{first, many_limit, deep_limit}
use Rattle.tdcc_reader.specs.Passes.{Pass}

abbrev pub limits : ℕ → ℕ → Option Limit → Limits
limits d n f = record { depth = d; tokens = n; found = f }

-- a unit begins at this place
abbrev pub unit_begins : Dialect → ℕ → Limits → Limits
unit_begins dialect at s = limits s.depth s.tokens (first s.found (deep_limit dialect s.depth at))

-- a token begins at this place
abbrev pub token_begins : Dialect → ℕ → Limits → Limits
token_begins dialect at s = limits s.depth (s.tokens + 1) (first s.found (many_limit dialect (s.tokens + 1) at))

abbrev pub deeper : Limits → Limits
deeper s = limits (s.depth + 1) s.tokens s.found

abbrev pub higher : Limits → Limits
higher s = limits (s.depth - 1) s.tokens s.found

abbrev pub no_tokens : Limits → Limits
no_tokens s = limits s.depth 0 s.found

-- by the first word of a unit
abbrev pub counts_unit : Dialect → ℕ → Word → Limits → Limits
counts_unit dialect at Skip s = unit_begins dialect at s
counts_unit dialect at Name s = token_begins dialect at (unit_begins dialect at s)
counts_unit dialect at Bang s = token_begins dialect at (unit_begins dialect at s)
counts_unit dialect at Hash s = token_begins dialect at (unit_begins dialect at s)
counts_unit dialect at _ s = deeper (unit_begins dialect at s)

-- an equation is at this place: in a core text it is a second token, which begins with the name in front
abbrev pub counts_equation : Dialect → ℕ → Limits → Limits
counts_equation Program at s = s
counts_equation Core at s = token_begins Core (at - 1) s

abbrev pub counts_bound : Dialect → ℕ → Word → Limits → Limits
counts_bound dialect at Equal s = counts_equation dialect at s
counts_bound dialect at _ s = s

abbrev pub counts_matched : Dialect → ℕ → StackSymbol → Word → Limits → Limits
counts_matched dialect at OneUnit w s = counts_unit dialect at w s
counts_matched dialect at OneToken w s = token_begins dialect at s
counts_matched dialect at Bound w s = counts_bound dialect at w s
counts_matched dialect at TheClose w s = higher s
counts_matched dialect at TheWatching w s = higher s
counts_matched dialect at TheOn w s = higher s
counts_matched dialect at _ w s = s

abbrev pub counts_skipped : StackSymbol → Limits → Limits
counts_skipped MoreTokens s = no_tokens s
counts_skipped EndBody s = higher s
counts_skipped EndLocal s = higher s
counts_skipped _ s = s

abbrev pub limit_pass : Dialect → Pass Limits
limit_pass dialect = record { matches = λ at p t s. counts_matched dialect at p (class_of t) s; skips = counts_skipped }
