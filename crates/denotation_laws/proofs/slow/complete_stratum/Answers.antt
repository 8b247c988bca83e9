use Rattle.token_system.proofs.Alike.{true_false}
use Rattle.denotation_laws.specs.Dues.{leaves_now}
use Rattle.denotation_laws.proofs.Completed.{untold, told-store, told-fewer, fewer-left, told-on_way, stratum-done, calm-after}
use Rattle.denotation_laws.proofs.slow.complete_stratum.Goals as goal

pub loop-told-init : goal.loop-told-init
loop-told-init c = record { store = c.requires.store; way = λ i v out h. h; calm = λ e. absurd (true_false e) }

pub loop-told-preserved : goal.loop-told-preserved
loop-told-preserved c = record {
  store = told-store c.args.program.now c.args.levels.now c.requires.program c.requires.stratified c.args.closed.now c.args.stratum c.loop-told.store c.tell_first.new.store c.in_ok-told.told c.loop-told.invariant.store c.in_ok-told.ensures;
  way = λ i v out h. told-on_way c.args.program.now c.args.levels.now c.requires.program c.requires.stratified c.args.closed.now c.args.stratum c.loop-told.store c.tell_first.new.store c.in_ok-told.told i v out c.in_ok-told.ensures (c.loop-told.invariant.way i v out h);
  calm = calm-after c.args.program.now c.args.levels.now c.args.closed.now c.args.stratum c.loop-told.store c.tell_first.new.store c.in_ok-told.told c.in_ok-told.ensures;
}

pub loop-told-smaller : goal.loop-told-smaller
loop-told-smaller c =
    fewer-left (untold c.args.program.now c.tell_first.new.store (leaves_now c.args.program.now c.args.closed.now)) (untold c.args.program.now c.loop-told.store (leaves_now c.args.program.now c.args.closed.now)) c.in_ok-told.told c.loop-told.told c.loop-told-test.true
    (told-fewer c.args.program.now c.args.levels.now c.requires.program c.requires.stratified c.args.closed.now c.args.stratum c.loop-told.store c.tell_first.new.store c.in_ok-told.told c.loop-told.invariant.store c.in_ok-told.ensures)

pub returns-clause-store : goal.returns-clause-store
returns-clause-store c = c.loop-told.invariant.store

pub returns-clause-completed : goal.returns-clause-completed
returns-clause-completed c i v out h =
    stratum-done c.args.program.now c.args.levels.now c.requires.program c.requires.stratified c.args.closed.now c.args.stratum c.loop-told.store i v out (c.loop-told.invariant.calm c.loop-told-test.false) (c.loop-told.invariant.way i v out h)
