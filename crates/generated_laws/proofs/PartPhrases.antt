-- The phrase that a generated program is, which goes past no limit.
use Rattle.std.proofs.Common.{◌≡◌, ℕ, ◌+◌, pos, List, [], ◌∷◌, ◌++◌, None, refl, ap, ◌∙◌}
use Rattle.std.specs.List.{range_with_len}
use Rattle.program_grammar.specs.Phrases as g
use Rattle.tdcc_reader.specs.declared.dialect.Dialect.TheVariants.{Program}
use Rattle.tdcc_reader.specs.LimitFaults.{unit_limit, agent_limit, program_limit}
use Rattle.tdcc_reader.specs.Widths.{unit_width}
use Rattle.tdcc_reader.specs.Surfaces.{Declared, unit_cells, agent_cells}
use Rattle.trace_text.specs.Generated.{signal_name, number_name}
use Rattle.core_text_laws.proofs.CoreLimits.{none_both}
use Rattle.generated_laws.specs.GeneratedUnits.{GeneratedUnit, Follows, Defaults, Delays, Starts, Ends, Bounds}

abbrev pub is_on : ℕ → g.ConstraintPhrase
is_on j = g.One (g.On (signal_name j))

abbrev pub part_phrase : GeneratedUnit → g.UnitPhrase
part_phrase (Follows i j) = g.Always (g.IfThen (is_on i) (g.Tell (is_on j)))
part_phrase (Defaults i j) = g.Always (g.IfElse (is_on i) (g.Tell (is_on j)))
part_phrase (Delays i j) = g.Always (g.IfThen (is_on i) (g.Next (g.Tell (is_on j))))
part_phrase (Starts i j) = g.When (is_on i) (g.Always (g.Tell (is_on j)))
part_phrase (Ends i j h) = g.Watching (g.Only (g.Always (g.IfElse (is_on i) (g.Tell (is_on j))))) (is_on h)
part_phrase (Bounds i n k) = g.Always (g.IfThen (is_on i) (g.Tell (g.One (g.AtLeast (number_name n) (pos k)))))

abbrev pub agent_phrase : List GeneratedUnit → g.AgentPhrase
agent_phrase [] = g.Only g.Skip
agent_phrase (u ∷ []) = g.Only (part_phrase u)
agent_phrase (u ∷ v ∷ vs) = g.Par (part_phrase u) (agent_phrase (v ∷ vs))

-- a signal and then some more; a number and then some more
abbrev pub signals_phrase : ℕ → List ℕ → g.NamesPhrase
signals_phrase x [] = g.LastName (signal_name x)
signals_phrase x (y ∷ ys) = g.MoreName (signal_name x) (signals_phrase y ys)

abbrev pub numbers_phrase : ℕ → List ℕ → g.ItemsPhrase
numbers_phrase x [] = g.LastItem (number_name x) (pos 0) (pos 99)
numbers_phrase x (y ∷ ys) = g.MoreItem (number_name x) (pos 0) (pos 99) (numbers_phrase y ys)

-- the declarations, and then an agent of these parts
abbrev pub signals : g.NamesPhrase
signals = signals_phrase 0 (range_with_len 1 31)

abbrev pub numbers : g.ItemsPhrase
numbers = numbers_phrase 0 (range_with_len 1 7)

abbrev pub program_phrase : List GeneratedUnit → g.ProgramPhrase
program_phrase us = g.Signals signals (g.Ints numbers (g.Runs (agent_phrase us)))

-- LIMITS

part_within : (u : GeneratedUnit) (at : ℕ) → unit_limit Program (part_phrase u) 0 at ≡ None
part_within (Follows i j) at = refl
part_within (Defaults i j) at = refl
part_within (Delays i j) at = refl
part_within (Starts i j) at = refl
part_within (Ends i j h) at = refl
part_within (Bounds i n k) at = refl

agent_within : (us : List GeneratedUnit) (at : ℕ) → agent_limit Program (agent_phrase us) 0 at ≡ None
agent_within [] at = refl
agent_within (u ∷ []) at = part_within u at
agent_within (u ∷ v ∷ vs) at =
    let next : ℕ = at + unit_width (part_phrase u) + 1 in
    none_both (unit_limit Program (part_phrase u) 0 at) (agent_limit Program (agent_phrase (v ∷ vs)) 0 next) (part_within u at) (agent_within (v ∷ vs) next)

pub program_within : (us : List GeneratedUnit) → program_limit Program (program_phrase us) ≡ None
program_within us = agent_within us _

-- LOCAL CELLS

part_bare : (u : GeneratedUnit) → unit_cells (part_phrase u) ≡ []
part_bare (Follows i j) = refl
part_bare (Defaults i j) = refl
part_bare (Delays i j) = refl
part_bare (Starts i j) = refl
part_bare (Ends i j h) = refl
part_bare (Bounds i n k) = refl

-- The parts have no local cells.
pub agent_bare : (us : List GeneratedUnit) → agent_cells (agent_phrase us) ≡ []
agent_bare [] = refl
agent_bare (u ∷ []) = part_bare u
agent_bare (u ∷ v ∷ vs) = ap (λ (cs : List Declared). cs ++ agent_cells (agent_phrase (v ∷ vs))) (part_bare u) ∙ agent_bare (v ∷ vs)
