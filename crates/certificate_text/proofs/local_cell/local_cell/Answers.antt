use Rattle.std.proofs.Common.{List, ◌∙◌, ◌+◌, length, sym, ap}
use Rattle.agent_core.specs.declared.node.Node.{Node}
use Rattle.agent_core.specs.Names.{depth_of}
use Rattle.certificate_text.specs.LocalCells.{are_births}
use Rattle.certificate_text.proofs.LocalCellFacts.{local_cell_read}
use Rattle.certificate_text.proofs.local_cell.local_cell.Goals as goal

pub returns-clause-found : goal.returns-clause-found
returns-clause-found c =
    local_cell_read c.args.program.now c.args.instant c.args.name.now c.in-Local.node c.in-Local.births c.in-Some.decl.now
    c.in-Local.is
    (sym c.in-Some.ensures)
    (ap length (sym c.list.ensures) ∙ c.if-list-depth.false ∙ ap (λ k. k + 1) c.depth_of-depth.ensures.depth ∙ ap (λ (all : List Node). depth_of all c.in-Local.node + 1) c.nodes.ensures.all)
    (ap (are_births 0 c.args.instant) (sym c.list-else-list-depth.ensures) ∙ sym c.are_births.ensures ∙ c.if-not-are_births.false)
