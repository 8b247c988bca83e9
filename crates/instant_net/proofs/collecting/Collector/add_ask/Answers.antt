use Rattle.std.proofs.Common.{◌≤◌, ◌+◌, take, get_or, ap, ◌∙◌, arith, subst, sym}
use Rattle.std.specs.BTreeSet.{BTreeSet}
use Rattle.token_system.specs.declared.name.CellName.{CellName}
use Rattle.token_system.specs.declared.cell.Token.TheVariants.{On}
use Rattle.agent_core.specs.Scope.{ConstraintFits}
use Rattle.instant_net.specs.Collecting.{AddsAsked}
use Rattle.instant_net.specs.Covering.{CoversAsk}
use Rattle.instant_net.proofs.Covering.{asks-none, asks-declared, asks-local}
use Rattle.instant_net.proofs.Atoms.{next-fits}
use Rattle.instant_net.proofs.LocalCells.{fitting_cell, its_name}
use Rattle.instant_net.proofs.SpokenNames.{asked-none, asked-next}
use Rattle.instant_net.proofs.collecting.Collector.add_ask.Goals as goal
use Rattle.instant_net.proofs.collecting.Collector.add_ask.Goals.{then-cell-declared+in_ok-name+in_ok-insert, else-cell-declared}

pub loop-cell-init : goal.loop-cell-init
loop-cell-init c = record {
  added = asked-none c.args.self.now.program.now c.args.births.now c.args.ask.now c.args.names.now.keys;
  covered = asks-none c.args.self.now.program.now c.args.births.now c.list-cell-items.result.now c.args.names.now.keys;
  fits = subst (ConstraintFits c.args.self.now.program.now c.args.births.now) (sym c.list-cell-items.ensures.all) c.requires.fits;
}

pub local_of-local-requires-clause-cell : goal.local_of-local-requires-clause-cell
local_of-local-requires-clause-cell c =
    let f = (next-fits c.args.self.now.program.now c.args.births.now c.list-cell-items.result.now c.loop-cell.cell-index (0, On) c.loop-cell-test.true c.loop-cell.invariant.fits).0 in
    fitting_cell c.args.self.now.program.now c.args.births.now (get_or c.list-cell-items.result.now c.loop-cell.cell-index (0, On)) f

pub name-requires : goal.name-requires
name-requires c =
    let f = (next-fits c.args.self.now.program.now c.args.births.now c.list-cell-items.result.now c.loop-cell.cell-index (0, On) c.loop-cell-test.true c.loop-cell.invariant.fits).0 in
    let most : c.args.self.now.program.now.declared ≤ (get_or c.list-cell-items.result.now c.loop-cell.cell-index (0, On)).0 = let n = c.declared.ensures.number in let le = c.if-cell-declared.true in omega arith in
    (its_name c.args.self.now.program.now c.args.births.now (get_or c.list-cell-items.result.now c.loop-cell.cell-index (0, On)) f most c.local_of-local.result c.local_of-local.ensures).long

pub loop-cell-preserved : goal.loop-cell-preserved
loop-cell-preserved c =
    let f = next-fits c.args.self.now.program.now c.args.births.now c.list-cell-items.result.now c.loop-cell.cell-index (0, On) c.loop-cell-test.true c.loop-cell.invariant.fits in
    let p = c.args.self.now.program.now in
    record {
      added = elim c.if-cell-declared.branch [
        | then-cell-declared+in_ok-name+in_ok-insert w ↦
            let most : p.declared ≤ (get_or c.list-cell-items.result.now c.loop-cell.cell-index (0, On)).0 = let n = c.declared.ensures.number in let le = w.if-cell-declared.true in omega arith in
            asked-next p c.args.births.now c.args.ask.now c.list-cell-items.result.now c.loop-cell.cell-index (0, On) c.args.names.now.keys c.loop-cell.names.keys c.if-cell-declared.names.keys w.in_ok-name.field-0
            c.list-cell-items.ensures.all c.loop-cell-test.true f.0 most (w.in_ok-name.ensures ∙ (its_name p c.args.births.now (get_or c.list-cell-items.result.now c.loop-cell.cell-index (0, On)) f.0 most w.local_of-local.result w.local_of-local.ensures).name) c.loop-cell.invariant.added (ap (λ (x : BTreeSet CellName). x.keys) w.names-is ∙ w.in_ok-insert.ensures.keys)
        | else-cell-declared w ↦
            subst (AddsAsked p c.args.births.now c.args.ask.now c.args.names.now.keys) (sym (ap (λ (x : BTreeSet CellName). x.keys) w.names-is)) c.loop-cell.invariant.added
      ];
      covered = elim c.if-cell-declared.branch [
        | then-cell-declared+in_ok-name+in_ok-insert w ↦
            let most : p.declared ≤ (get_or c.list-cell-items.result.now c.loop-cell.cell-index (0, On)).0 = let n = c.declared.ensures.number in let le = w.if-cell-declared.true in omega arith in
            asks-local p c.args.births.now c.list-cell-items.result.now c.loop-cell.cell-index (0, On) c.args.names.now.keys c.loop-cell.names.keys c.if-cell-declared.names.keys w.in_ok-name.field-0 c.loop-cell-test.true
            (w.in_ok-name.ensures ∙ (its_name p c.args.births.now (get_or c.list-cell-items.result.now c.loop-cell.cell-index (0, On)) f.0 most w.local_of-local.result w.local_of-local.ensures).name) (ap (λ (x : BTreeSet CellName). x.keys) w.names-is ∙ w.in_ok-insert.ensures.keys) c.loop-cell.invariant.covered
        | else-cell-declared w ↦
            subst (CoversAsk p c.args.births.now (take (c.loop-cell.cell-index + 1) c.list-cell-items.result.now) c.args.names.now.keys) (sym (ap (λ (x : BTreeSet CellName). x.keys) w.names-is))
            (asks-declared p c.args.births.now c.list-cell-items.result.now c.loop-cell.cell-index (0, On) c.args.names.now.keys c.loop-cell.names.keys c.loop-cell-test.true
            (let n = c.declared.ensures.number in let lt = w.if-cell-declared.false in omega arith) c.loop-cell.invariant.covered)
      ];
      fits = f.1;
    }
