use Rattle.std.proofs.Common.{List, sym, ◌∙◌, subst}
use Rattle.instant_net.specs.declared.locals.Local.{Local}
use Rattle.instant_net.specs.declared.parts.NetCell.{NetCell}
use Rattle.instant_net.specs.Collecting.{cell_names}
use Rattle.instant_net.specs.Covering.{RootsCovered}
use Rattle.instant_net.specs.Walks.{AreNamed}
use Rattle.instant_net.proofs.NetsMade.{cells-named}
use Rattle.instant_net.proofs.tests.making.guards_name_the_one_above_and_leaves_the_last_one.Goals as goal

pub net_parts-requires-clause-named : goal.net_parts-requires-clause-named
net_parts-requires-clause-named g c =
    subst (λ (locals : List Local). AreNamed c.in_ok-program.program locals c.deref-5.result.now) (sym c.deref-3.ensures.value)
    (subst (AreNamed c.in_ok-program.program c.in_ok-locals.locals.items) (sym c.deref-5.ensures.value)
    (cells-named c.in_ok-program.program _ _ _ _ c.in_ok-cells.ensures.cells c.in_ok-locals.ensures))

pub net_parts-requires-clause-covered : goal.net_parts-requires-clause-covered
net_parts-requires-clause-covered g c =
    subst (λ (cells : List NetCell). RootsCovered c.in_ok-program.program 7 (cell_names cells) c.deref-4.result.now) (sym c.deref-5.ensures.value)
    (subst (RootsCovered c.in_ok-program.program 7 (cell_names c.in_ok-cells.cells.items)) (c.deref-2.ensures.value ∙ sym c.deref-4.ensures.value) c.in_ok-cells.ensures.covered)
