-- The surface is well formed, so the free watchings of its program stop for good.
use Rattle.std.proofs.Common.{◌≡◌, ◌-◌, [], length, sym, subst, ◌∙◌}
use Rattle.agent_core.specs.WellFormed.{count_up}
use Rattle.tdcc_reader.specs.Trees.{Tree}
use Rattle.surface_laws.specs.Surfaces.{IsScopedTree, bare, new_cells}
use Rattle.expansion_laws.proofs.OneTree.{one_tree}
use Rattle.expansion_laws.proofs.RunTells.{on_tree}
use Rattle.expansion_laws.proofs.StoppedRuns.{stops_for_good}
use Rattle.expansion_laws.proofs.laws.stops_law.Goals as goal

pub returns : goal.returns
returns c s p is made program tree forms =
    let well = c.surface_law.ensures s is in
    let same : well.tree ≡ tree = one_tree well.tree tree (sym well.forms ∙ forms) in
    stops_for_good s tree p program well.within
    (subst (λ (t : Tree). new_cells t ≡ count_up s.declared (length s.cells - s.declared)) same well.locals)
    (subst (λ (t : Tree). IsScopedTree (bare s) [] t) same well.scoped)
    (on_tree s tree p made forms)
