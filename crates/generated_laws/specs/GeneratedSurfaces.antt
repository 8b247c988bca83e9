-- The surface of a generated program: 32 signals, 8 numbers from 0 to 99, and a par of its generated_units. This project's own.
use Rattle.std.specs.Prelude.{ℕ, ◌+◌, pos, refl, List, [], ◌∷◌, ◌++◌, map}
use Rattle.std.specs.List.{range_with_len}
use Rattle.token_system.specs.declared.cell.Kind.TheVariants as kind
use Rattle.token_system.specs.declared.cell.Token.TheVariants as token
use Rattle.agent_core.specs.declared.node.CellDecl.{CellDecl}
use Rattle.tdcc_reader.specs.Surfaces.{SurfaceProgram}
use Rattle.tdcc_reader.specs.Trees.{Tree, Skip, Tell, Then, Else, Par, Next, Always, When, Watch, form_listing}
use Rattle.agent_core.specs.Agents.{Constraint}
use Rattle.trace_text.specs.Generated.{signal_name, number_name}
use Rattle.generated_laws.specs.GeneratedUnits.{GeneratedUnit, Follows, Defaults, Delays, Starts, Ends, Bounds, generated_units}

-- CELLS

abbrev pub signal_cell : ℕ → CellDecl
signal_cell j = record { name = signal_name j; cell = record { kind = kind.Signal; lo = pos 0; hi = pos 0; lawful = refl } }

abbrev pub number_cell : ℕ → CellDecl
number_cell i = record { name = number_name i; cell = record { kind = kind.Number; lo = pos 0; hi = pos 99; lawful = refl } }

-- the signal j is cell j, and the number i is cell 32 + i
unfoldable pub cells : List CellDecl
cells = map signal_cell (range_with_len 0 32) ++ map number_cell (range_with_len 0 8)

-- FORMS

-- the signal j is drawn_signal_on
abbrev pub drawn_signal_on : ℕ → Constraint
drawn_signal_on j = (j, token.On) ∷ []

-- the number i is k or more
abbrev pub at_least : ℕ → ℕ → Constraint
at_least i k = (32 + i, token.AtLeast (pos k)) ∷ []

-- the forms of a part
abbrev pub part_tree : GeneratedUnit → Tree
part_tree (Follows g j) = Always (Then (drawn_signal_on g) (Tell (drawn_signal_on j)))
part_tree (Defaults g j) = Always (Else (drawn_signal_on g) (Tell (drawn_signal_on j)))
part_tree (Delays g j) = Always (Then (drawn_signal_on g) (Next (Tell (drawn_signal_on j))))
part_tree (Starts g j) = When (drawn_signal_on g) (Always (Tell (drawn_signal_on j)))
part_tree (Ends g j h) = Watch (Always (Else (drawn_signal_on g) (Tell (drawn_signal_on j)))) (drawn_signal_on h)
part_tree (Bounds g i k) = Always (Then (drawn_signal_on g) (Tell (at_least i k)))

-- the trees in a par that groups to the right
abbrev pub par_of : List Tree → Tree
par_of [] = Skip
par_of (t ∷ []) = t
par_of (t ∷ u ∷ us) = Par t (par_of (u ∷ us))

-- PROGRAMS

abbrev pub tree : ℕ → Tree
tree n = par_of (map part_tree (generated_units n))

abbrev pub surface : ℕ → SurfaceProgram
surface n = record { cells = cells; declared = 40; forms = form_listing 0 (tree n) }
