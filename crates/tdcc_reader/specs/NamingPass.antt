-- The pass that looks at the naming_state: those in scope, what waits for a later term, and the first fault.
use Rattle.std.specs.Prelude.{ℕ, ℤ, List, [], ◌∷◌, map, Option}
use Rattle.token_system.specs.declared.cell.Kind.{Kind}
use Rattle.token_system.specs.declared.cell.Kind.TheVariants as kind
use Rattle.program_grammar.specs.Terms.{Term}
use Rattle.program_grammar.specs.declared.stack_symbols.StackSymbol.{StackSymbol}
use Rattle.program_grammar.specs.declared.stack_symbols.StackSymbol.TheVariants.{OneUnit, OneToken, Bound, DeniedName, ClashingName, DeclaredName, LocalName, DeclaredIntName, LocalIntName, LowNumber, HighNumber, EndLocal}
use Rattle.tdcc_reader.specs.declared.naming.NameFault.{NameFault}
use Rattle.tdcc_reader.specs.declared.naming.Waiting.{Waiting}
use Rattle.tdcc_reader.specs.declared.naming.Waiting.TheVariants as waiting
use Rattle.tdcc_reader.specs.declared.naming.Naming as pass
use Rattle.tdcc_reader.specs.LimitFaults.{first}
use Rattle.tdcc_reader.specs.Scope.{Known, known, kind_in_scope, signal_fault, number_fault, declared_fault, domain_fault, signal_use, any_use}
use Rattle.tdcc_reader.specs.Passes.{Pass, by_term, less_first}

pub record NamingState : Type 0 where
  pub scope : List Known
  pub waiting : Waiting
  pub found : Option NameFault

abbrev pub naming_state : List Known → Waiting → Option NameFault → NamingState
naming_state s w f = record { scope = s; waiting = w; found = f }

-- what the code has of it: a name, and the kind that it means
abbrev pub known_view : List ℕ × Kind → Known
known_view k = known k.0 k.1

abbrev pub names_view : pass.Naming → NamingState
names_view n = naming_state (map known_view n.scope) n.waiting n.found

-- a fault, if none was found before
abbrev pub note : Option NameFault → NamingState → NamingState
note fault s = naming_state s.scope s.waiting (first s.found fault)

-- a name stands as a token, with or without a bound behind it
abbrev pub uses_name : ℕ → List ℕ → NamingState → NamingState
uses_name at x s = naming_state s.scope (waiting.Name (kind_in_scope s.scope x) at) (first s.found (any_use s.scope x at))

-- what waits turns out to have no bound, or one
abbrev pub without_bound : Waiting → NamingState → NamingState
without_bound (waiting.Name k at) s = naming_state s.scope waiting.Nothing (first s.found (signal_fault k at))
without_bound _ s = s

abbrev pub with_bound : Waiting → NamingState → NamingState
with_bound (waiting.Name k at) s = naming_state s.scope waiting.Nothing (first s.found (number_fault k at))
with_bound _ s = s

abbrev pub resolves_declaration : Kind → ℕ → List ℕ → NamingState → NamingState
resolves_declaration k at x s = naming_state (known x k ∷ s.scope) s.waiting (first s.found (declared_fault x s.scope at))

abbrev pub resolves_low : ℕ → ℤ → NamingState → NamingState
resolves_low at n s = naming_state s.scope (waiting.Low n at) s.found

abbrev pub resolves_high : Waiting → ℤ → NamingState → NamingState
resolves_high (waiting.Low low at) high s = naming_state s.scope waiting.Nothing (first s.found (domain_fault low high at))
resolves_high _ high s = s

abbrev pub resolves_scope_end : NamingState → NamingState
resolves_scope_end s = naming_state (less_first s.scope) s.waiting s.found

-- a part matches a name
abbrev pub resolves_name : ℕ → StackSymbol → List ℕ → NamingState → NamingState
resolves_name at OneUnit x s = uses_name at x s
resolves_name at OneToken x s = uses_name at x s
resolves_name at DeniedName x s = note (signal_use s.scope x at) s
resolves_name at ClashingName x s = note (any_use s.scope x at) s
resolves_name at DeclaredName x s = resolves_declaration kind.Signal at x s
resolves_name at LocalName x s = resolves_declaration kind.Signal at x s
resolves_name at DeclaredIntName x s = resolves_declaration kind.Number at x s
resolves_name at LocalIntName x s = resolves_declaration kind.Number at x s
resolves_name at _ x s = s

-- a part matches a number
abbrev pub resolves_number : ℕ → StackSymbol → ℤ → NamingState → NamingState
resolves_number at LowNumber n s = resolves_low at n s
resolves_number at HighNumber n s = resolves_high s.waiting n s
resolves_number at _ n s = s

-- a part matches a keyword or symbol
abbrev pub resolves_fixed : StackSymbol → NamingState → NamingState
resolves_fixed Bound s = with_bound s.waiting s
resolves_fixed _ s = s

abbrev pub resolves_matched : ℕ → StackSymbol → Term → NamingState → NamingState
resolves_matched at p t s = by_term (λ x. resolves_name at p x s) (λ n. resolves_number at p n s) (λ w. resolves_fixed p s) t

abbrev pub resolves_skipped : StackSymbol → NamingState → NamingState
resolves_skipped Bound s = without_bound s.waiting s
resolves_skipped EndLocal s = resolves_scope_end s
resolves_skipped _ s = s

abbrev pub naming_pass : Pass NamingState
naming_pass = record { matches = resolves_matched; skips = resolves_skipped }
