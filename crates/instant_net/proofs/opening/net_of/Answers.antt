use Rattle.std.proofs.Common.{List, sym, subst, arith}
use Rattle.instant_net.specs.declared.locals.Local.{Local}
use Rattle.instant_net.specs.declared.parts.NetCell.{NetCell}
use Rattle.instant_net.specs.Opened.{IsNetOf}
use Rattle.instant_net.specs.Programs.{root_leaves}
use Rattle.instant_net.specs.Collecting.{cell_names}
use Rattle.instant_net.specs.Covering.{RootsCovered}
use Rattle.instant_net.specs.Walks.{AreNamed, AreListedFor}
use Rattle.instant_net.proofs.Rooms.{guards-few}
use Rattle.instant_net.proofs.NetsMade.{cells-named, net-is, net-fits}
use Rattle.instant_net.proofs.opening.net_of.Goals as goal

pub net_parts-requires-clause-named : goal.net_parts-requires-clause-named
net_parts-requires-clause-named c =
    subst (λ (locals : List Local). AreNamed c.args.program.now locals c.deref-3.result.now) (sym c.deref-2.ensures.value)
    (subst (AreNamed c.args.program.now c.in_ok-locals.locals.items) (sym c.deref-3.ensures.value)
    (cells-named c.args.program.now c.args.levels.now (root_leaves c.args.program.now c.args.roots.now c.args.t) c.in_ok-cells.cells.items c.in_ok-locals.locals.items c.in_ok-cells.ensures.cells c.in_ok-locals.ensures))

pub net_parts-requires-clause-covered : goal.net_parts-requires-clause-covered
net_parts-requires-clause-covered c =
    subst (λ (cells : List NetCell). RootsCovered c.args.program.now c.args.t (cell_names cells) c.args.roots.now) (sym c.deref-3.ensures.value) c.in_ok-cells.ensures.covered

pub make-requires : goal.make-requires
make-requires c =
    let listed : AreListedFor c.args.program.now c.in_ok-cells.cells.items c.args.t c.args.roots.now c.in_ok-parts.parts.guards.items c.in_ok-parts.parts.leaves.items =
    subst (λ (cells : List NetCell). AreListedFor c.args.program.now cells c.args.t c.args.roots.now c.in_ok-parts.parts.guards.items c.in_ok-parts.parts.leaves.items) c.deref-3.ensures.value c.in_ok-parts.ensures in
    net-fits c.args.program.now c.args.levels.now c.args.roots.now c.args.t c.strata.result c.in_ok-cells.cells.items c.in_ok-parts.parts.guards.items c.in_ok-parts.parts.leaves.items c.in_ok-cells.ensures.cells.program c.requires.closures c.requires.levels
    c.in_ok-cells.ensures.cells listed c.strata.ensures c.requires.few_leaves
    (guards-few c.args.program.now c.in_ok-cells.ensures.cells.program c.args.roots.now c.in_ok-parts.parts.guards.items c.in_ok-parts.parts.leaves.items c.requires.closures c.requires.few listed.linked)

pub returns : goal.returns
returns c =
    let listed : AreListedFor c.args.program.now c.in_ok-cells.cells.items c.args.t c.args.roots.now c.in_ok-parts.parts.guards.items c.in_ok-parts.parts.leaves.items =
    subst (λ (cells : List NetCell). AreListedFor c.args.program.now cells c.args.t c.args.roots.now c.in_ok-parts.parts.guards.items c.in_ok-parts.parts.leaves.items) c.deref-3.ensures.value c.in_ok-parts.ensures in
    subst (IsNetOf c.args.program.now c.args.levels.now c.args.roots.now c.args.t) (sym c.make.ensures)
    (net-is c.args.program.now c.args.levels.now c.args.roots.now c.args.t c.strata.result c.in_ok-cells.cells.items c.in_ok-parts.parts.guards.items c.in_ok-parts.parts.leaves.items c.in_ok-cells.ensures.cells.program c.requires.closures c.requires.levels
    c.in_ok-cells.ensures.cells listed c.strata.ensures)
