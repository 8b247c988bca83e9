-- The core program of a generated text is small and stratified.
use Rattle.std.proofs.Common.{◌≡◌, ℕ, ◌+◌, ◌<◌, List, [], ◌∷◌, length, refl, sym, ap, ◌∙◌, subst, arith, length-append}
use Rattle.std.specs.Prelude.{flat_map}
use Rattle.program_lexemes.specs.declared.bytes.TextForm.TheVariants.{Program}
use Rattle.agent_core.specs.Agents.{Agent, agent_at}
use Rattle.agent_core.specs.Programs.{CoreProgram}
use Rattle.agent_core.specs.Strata.{Each, Meets, agent_edges}
use Rattle.agent_core.proofs.ListingTrees.{root_tree}
use Rattle.surface_laws.specs.Surfaces.{IsWellFormedSurface}
use Rattle.surface_laws.proofs.WellFormed.{surface_formed}
use Rattle.trace_text.specs.Generated.{program_text}
use Rattle.expansion_laws.specs.SymbolicAgents.{SymbolicAgent, symbolic_size, binders}
use Rattle.expansion_laws.specs.Expanding.{symbolic_of}
use Rattle.expansion_laws.specs.Numbering.{bound_agent}
use Rattle.expansion_laws.specs.Expansions.{IsSymbolicOf, IsExpansion}
use Rattle.expansion_laws.proofs.OneTree.{one_tree}
use Rattle.expansion_laws.proofs.WholePrograms.{nodes_many, cells_many, expansion_program}
use Rattle.generated_laws.specs.GeneratedUnits.{GeneratedUnit, generated_units}
use Rattle.generated_laws.specs.GeneratedSurfaces.{cells, tree, surface}
use Rattle.generated_laws.specs.GeneratedTables.{part_levels, declared_levels, table, IsSmall}
use Rattle.generated_laws.proofs.Parts.{parts_are}
use Rattle.generated_laws.proofs.PartSketches.{parts_sketch, parts_small, parts_levels_many, levels_few}
use Rattle.generated_laws.proofs.PartStrata.{signal_level, number_level, parts_met}
use Rattle.generated_laws.proofs.Accepted.{text_read, parts_many}

-- the surface is well formed
formed : (n : ℕ) → IsWellFormedSurface Program (surface n)
formed n = surface_formed (surface n) (program_text n, text_read n)

cells_many_declared : length cells ≡ 40
unfolding cells
cells_many_declared = refl

levels_declared : length declared_levels ≡ 40
unfolding declared_levels
levels_declared = refl

-- its sketch is that of its generated_units
pub one_sketch : (n : ℕ) (d : SymbolicAgent) → IsSymbolicOf (surface n) d → d ≡ parts_sketch 0 (generated_units n)
one_sketch n d is =
    let same : is.tree ≡ tree n = one_tree is.tree (tree n) (sym is.written) in
    is.symbolic ∙ ap (λ (k : ℕ). symbolic_of k 0 is.tree) cells_many_declared ∙ ap (symbolic_of 40 0) same

some_small : (us : List GeneratedUnit) → length us ≡ 39 → symbolic_size (parts_sketch 0 us) < 900
some_small [] many = absurd (omega arith)
some_small (u ∷ us) many = let small = parts_small u us 0 in omega arith

-- the table meets the edges of the agent
agent_met : (n : ℕ) → Each (Meets (table n)) (agent_edges 0 (bound_agent [] 40 (parts_sketch 0 (generated_units n))) [])
agent_met n =
    let hidden : List ℕ = flat_map part_levels (generated_units n) in
    parts_met (table n) (signal_level hidden) (number_level hidden) (generated_units n) (parts_are n) declared_levels refl 0 40 0 (sym levels_declared)

-- The core program of the surface is small, and has the table.
pub small : (n : ℕ) (p : CoreProgram) → IsExpansion (surface n) p → IsSmall p (table n)
small n p (d, sketched, made) =
    let same : d ≡ parts_sketch 0 (generated_units n) = one_sketch n d sketched in
    let nodes : length p.nodes ≡ symbolic_size (parts_sketch 0 (generated_units n)) = nodes_many (surface n) d p made ∙ ap symbolic_size same in
    let hidden : List ℕ = flat_map part_levels (generated_units n) in
    let binders_many : length (binders d) ≡ length hidden = ap (λ (x : SymbolicAgent). length (binders x)) same ∙ parts_levels_many (generated_units n) 0 in
    let cells : length p.cells ≡ 40 + length (binders d) = cells_many (surface n) d p (formed n) made in
    let below = some_small (generated_units n) (parts_many n) in
    let few = levels_few (generated_units n) in
    let many = parts_many n in
    let root : agent_at p.nodes 0 ≡ bound_agent [] 40 d = root_tree p.nodes (bound_agent [] 40 d, made.nodes) in
    record {
      is = expansion_program (surface n) (formed n) d p made (omega arith) (omega arith) sketched;
      few_nodes = omega arith;
      few_cells = omega arith;
      stratified = record {
        long = let l = levels_declared in omega (arith, length-append declared_levels hidden);
        each = subst (λ (a : Agent). Each (Meets (table n)) (agent_edges 0 a [])) (sym (root ∙ ap (bound_agent [] 40) same)) (agent_met n);
      };
    }
