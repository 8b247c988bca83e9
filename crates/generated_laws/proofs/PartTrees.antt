-- The surface of a generated program: its phrase has the cells and the forms that its generated_units say.
use Rattle.std.proofs.Common.{◌≡◌, ℕ, ◌+◌, ◌<◌, pos, List, [], ◌∷◌, ◌++◌, length, refl, sym, ap, ◌∙◌, arith}
use Rattle.std.specs.Prelude.{map, nat_eq}
use Rattle.std.specs.Fmt.{digits}
use Rattle.std.proofs.lemmas.Bool.{eqb-true}
use Rattle.token_system.specs.declared.cell.Token.TheVariants as token
use Rattle.agent_core.specs.Strata.{Each}
use Rattle.tdcc_reader.specs.Surfaces.{Placed, Declared, cell_in_scope, cell_view, unit_cells, unit_tree, agent_tree, names_cells, items_cells, names_scope, items_scope, IsSurfaceOf}
use Rattle.tdcc_reader.specs.Trees.{Tree, Tell, Then, Par, Always, form_listing}
use Rattle.trace_text.specs.Generated.{signal_name, number_name}
use Rattle.generated_laws.specs.GeneratedUnits.{GeneratedUnit, Follows, Defaults, Delays, Starts, Ends, Bounds, generated_units}
use Rattle.generated_laws.specs.GeneratedSurfaces.{cells, drawn_signal_on, part_tree, par_of, surface}
use Rattle.generated_laws.proofs.Rows.{row_passes}
use Rattle.generated_laws.proofs.Parts.{IsPart, parts_are}
use Rattle.generated_laws.proofs.PartPhrases.{part_phrase, agent_phrase, signals, numbers, program_phrase, agent_bare}

-- the names in scope
abbrev scope : List Placed
scope = items_scope numbers (names_scope signals [] 0) 32

signal_placed : (j : ℕ) → j < 32 → cell_in_scope scope (signal_name j) ≡ j
unfolding digits
signal_placed j few = eqb-true (cell_in_scope scope (signal_name j)) j (row_passes (λ k. nat_eq (cell_in_scope scope (signal_name k)) k) 0 32 refl j (omega arith) (omega arith))

number_placed : (i : ℕ) → i < 8 → cell_in_scope scope (number_name i) ≡ 32 + i
unfolding digits
number_placed i few = eqb-true (cell_in_scope scope (number_name i)) (32 + i) (row_passes (λ k. nat_eq (cell_in_scope scope (number_name k)) (32 + k)) 0 8 refl i (omega arith) (omega arith))

-- TREES

-- what is planted drawn_signal_on the cells of names
two_planted : (f : ℕ → ℕ → Tree) (i j : ℕ) → j < 32 → i < j → f (cell_in_scope scope (signal_name i)) (cell_in_scope scope (signal_name j)) ≡ f i j
two_planted f i j few less = ap (λ (x : ℕ). f x (cell_in_scope scope (signal_name j))) (signal_placed i (omega arith)) ∙ ap (f i) (signal_placed j few)

part_planted : (u : GeneratedUnit) → IsPart u → (n : ℕ) → unit_tree (part_phrase u) scope n ≡ part_tree u
part_planted (Follows i j) (few, less) n = two_planted (λ x y. part_tree (Follows x y)) i j few less
part_planted (Defaults i j) (few, less) n = two_planted (λ x y. part_tree (Defaults x y)) i j few less
part_planted (Delays i j) (few, less) n = two_planted (λ x y. part_tree (Delays x y)) i j few less
part_planted (Starts i j) (few, less) n = two_planted (λ x y. part_tree (Starts x y)) i j few less
part_planted (Ends i j h) (few, less, stop) n =
    two_planted (λ x y. part_tree (Ends x y (cell_in_scope scope (signal_name h)))) i j few less ∙ ap (λ (x : ℕ). part_tree (Ends i j x)) (signal_placed h (omega arith))
part_planted (Bounds i m k) (fi, fm, fk) n =
    ap (λ (x : ℕ). Always (Then (drawn_signal_on x) (Tell ((cell_in_scope scope (number_name m), token.AtLeast (pos k)) ∷ [])))) (signal_placed i fi)
    ∙ ap (λ (x : ℕ). Always (Then (drawn_signal_on i) (Tell ((x, token.AtLeast (pos k)) ∷ [])))) (number_placed m fm)

agent_planted : (us : List GeneratedUnit) → Each IsPart us → (n : ℕ) → agent_tree (agent_phrase us) scope n ≡ par_of (map part_tree us)
agent_planted [] all n = refl
agent_planted (u ∷ []) all n = part_planted u all.0 n
agent_planted (u ∷ v ∷ vs) all n =
    let more : ℕ = n + length (unit_cells (part_phrase u)) in
    ap (λ (t : Tree). Par t (agent_tree (agent_phrase (v ∷ vs)) scope more)) (part_planted u all.0 n) ∙ ap (Par (part_tree u)) (agent_planted (v ∷ vs) all.1 more)

-- CELLS

cells_seen : map cell_view cells ≡ names_cells signals ++ (items_cells numbers ++ [])
unfolding cells
cells_seen = refl

-- The surface is that of the phrase.
pub surface_seen : (n : ℕ) → IsSurfaceOf (program_phrase (generated_units n)) (surface n)
surface_seen n = record {
  cells = cells_seen ∙ ap (λ (cs : List Declared). names_cells signals ++ (items_cells numbers ++ cs)) (sym (agent_bare (generated_units n)));
  declared = refl;
  forms = ap (form_listing 0) (sym (agent_planted (generated_units n) (parts_are n) 40));
}
