use Rattle.std.proofs.Common.{◌≡◌, length, ap, sym, ◌∙◌}
use Rattle.instant_net.proofs.SpokenNames.{names-next}
use Rattle.instant_net.proofs.Covering.{roots-covered-next, roots-covered-all, none-needed}
use Rattle.instant_net.proofs.collecting.local_names.Goals as goal

pub loop-root-preserved : goal.loop-root-preserved
loop-root-preserved c = record {
  spoken =
      names-next c.args.program.now c.args.t c.args.roots.now c.loop-root.root-index c.root-item.result c.list.result.now c.loop-root.names.keys c.add_node.new.names.keys
      c.loop-root-test.true c.root-item.is c.list.ensures c.loop-root.invariant.spoken c.in_ok-add_node.ensures.spoken;
  covered =
      roots-covered-next c.args.program.now c.args.t c.args.roots.now c.loop-root.root-index c.root-item.result c.list.result.now c.loop-root.names.keys c.add_node.new.names.keys
      c.loop-root-test.true c.root-item.is c.list.ensures c.loop-root.invariant.covered c.in_ok-add_node.ensures.covered;
}

pub returns-then-cells-declared-clause-covered : goal.returns-then-cells-declared-clause-covered
returns-then-cells-declared-clause-covered c =
    let none : length c.args.program.now.cells ≡ c.args.program.now.declared = sym (ap length c.cells.ensures.all) ∙ c.if-cells-declared.true ∙ c.declared.ensures.number in
    none-needed c.args.program.now c.args.t c.declared.ensures.program none c.new-names.result.keys c.args.roots.now c.requires.closures

pub returns-clause-covered : goal.returns-clause-covered
returns-clause-covered c = roots-covered-all c.args.program.now c.args.t c.args.roots.now c.loop-root.root-index c.loop-root.names.keys c.loop-root-test.false c.loop-root.invariant.covered
