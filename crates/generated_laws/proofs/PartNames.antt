-- The names of a generated program have no fault.
use Rattle.std.proofs.Common.{◌≡◌, ℕ, ◌+◌, ◌<◌, Bool, true, false, List, [], ◌∷◌, Option, Some, None, refl, ap, arith}
use Rattle.std.specs.Fmt.{digits}
use Rattle.token_system.specs.declared.cell.Kind.{Kind}
use Rattle.token_system.specs.declared.cell.Kind.TheVariants.{Signal, Number}
use Rattle.agent_core.specs.Strata.{Each}
use Rattle.tdcc_reader.specs.Widths.{unit_width, names_width, items_width}
use Rattle.tdcc_reader.specs.LimitFaults.{first}
use Rattle.tdcc_reader.specs.Scope.{Known, kind_in_scope, unknown_fault, signal_fault, number_fault, signal_use, number_use, unit_fault, agent_fault, names_known, items_known, names_fault, items_fault, program_fault}
use Rattle.trace_text.specs.Generated.{signal_name, number_name}
use Rattle.core_text_laws.proofs.CoreLimits.{none_both}
use Rattle.generated_laws.specs.GeneratedUnits.{GeneratedUnit, Follows, Defaults, Delays, Starts, Ends, Bounds}
use Rattle.generated_laws.proofs.Parts.{IsPart}
use Rattle.generated_laws.proofs.Rows.{row_passes}
use Rattle.generated_laws.proofs.PartPhrases.{part_phrase, agent_phrase, signals, numbers, program_phrase}

-- the names in scope
abbrev scope : List Known
scope = items_known numbers (names_known signals [])

-- KINDS

abbrev is_signal : Option Kind → Bool
is_signal (Some Signal) = true
is_signal _ = false

abbrev is_number : Option Kind → Bool
is_number (Some Number) = true
is_number _ = false

signal_kind : (o : Option Kind) → is_signal o ≡ true → o ≡ Some Signal
signal_kind (Some Signal) e = refl
signal_kind (Some Number) e = cc
signal_kind None e = cc

number_kind : (o : Option Kind) → is_number o ≡ true → o ≡ Some Number
number_kind (Some Number) e = refl
number_kind (Some Signal) e = cc
number_kind None e = cc

signal_known : (j : ℕ) → j < 32 → kind_in_scope scope (signal_name j) ≡ Some Signal
unfolding digits
signal_known j few = signal_kind (kind_in_scope scope (signal_name j)) (row_passes (λ k. is_signal (kind_in_scope scope (signal_name k))) 0 32 refl j (omega arith) (omega arith))

number_known : (i : ℕ) → i < 8 → kind_in_scope scope (number_name i) ≡ Some Number
unfolding digits
number_known i few = number_kind (kind_in_scope scope (number_name i)) (row_passes (λ k. is_number (kind_in_scope scope (number_name k))) 0 8 refl i (omega arith) (omega arith))

-- PARTS

signal_clean : (j at : ℕ) → j < 32 → signal_use scope (signal_name j) at ≡ None
signal_clean j at few = ap (λ (o : Option Kind). first (unknown_fault o at) (signal_fault o at)) (signal_known j few)

number_clean : (i at : ℕ) → i < 8 → number_use scope (number_name i) at ≡ None
number_clean i at few = ap (λ (o : Option Kind). first (unknown_fault o at) (number_fault o at)) (number_known i few)

two_clean : (i j a b : ℕ) → i < 32 → j < 32 → first (signal_use scope (signal_name i) a) (signal_use scope (signal_name j) b) ≡ None
two_clean i j a b fi fj = none_both (signal_use scope (signal_name i) a) (signal_use scope (signal_name j) b) (signal_clean i a fi) (signal_clean j b fj)

part_clean : (u : GeneratedUnit) → IsPart u → (at : ℕ) → unit_fault (part_phrase u) scope at ≡ None
part_clean (Follows i j) (few, less) at = two_clean i j _ _ (omega arith) few
part_clean (Defaults i j) (few, less) at = two_clean i j _ _ (omega arith) few
part_clean (Delays i j) (few, less) at = two_clean i j _ _ (omega arith) few
part_clean (Starts i j) (few, less) at = two_clean i j _ _ (omega arith) few
part_clean (Ends i j h) (few, less, stop) at = none_both (first (signal_use scope (signal_name i) _) (signal_use scope (signal_name j) _)) (signal_use scope (signal_name h) _) (two_clean i j _ _ (omega arith) few) (signal_clean h _ (omega arith))
part_clean (Bounds i n k) (fi, fn, fk) at = none_both (signal_use scope (signal_name i) _) (number_use scope (number_name n) _) (signal_clean i _ fi) (number_clean n _ fn)

agent_clean : (us : List GeneratedUnit) → Each IsPart us → (at : ℕ) → agent_fault (agent_phrase us) scope at ≡ None
agent_clean [] all at = refl
agent_clean (u ∷ []) all at = part_clean u all.0 at
agent_clean (u ∷ v ∷ vs) all at =
    let next : ℕ = at + unit_width (part_phrase u) + 1 in
    none_both (unit_fault (part_phrase u) scope at) (agent_fault (agent_phrase (v ∷ vs)) scope next) (part_clean u all.0 at) (agent_clean (v ∷ vs) all.1 next)

-- PROGRAMS

signals_clean : (at : ℕ) → names_fault signals [] at ≡ None
unfolding digits
signals_clean at = refl

numbers_clean : (at : ℕ) → items_fault numbers (names_known signals []) at ≡ None
unfolding digits
numbers_clean at = refl

-- No name of the program has a fault.
pub program_clean : (us : List GeneratedUnit) → Each IsPart us → program_fault (program_phrase us) ≡ None
program_clean us all =
    let agent : ℕ = 1 + names_width signals + 1 in
    none_both _ _ (signals_clean 1) (none_both _ _ (numbers_clean agent) (agent_clean us all (agent + items_width numbers)))
