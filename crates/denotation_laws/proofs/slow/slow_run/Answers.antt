use Rattle.std.proofs.Common.{List, [], ◌+◌, length, take, All, sym, ap, subst, arith}
use Rattle.std.proofs.lemmas.List.Elements.{All-push, All-nil}
use Rattle.token_system.specs.Stores.{StoreMap}
use Rattle.agent_core.specs.Outputs.{IsOutput, IsRun}
use Rattle.agent_core.specs.Stores.{IsStore}
use Rattle.agent_laws.proofs.Runs.{one_run}
use Rattle.denotation_laws.proofs.Runs.{no_run, input-store, run-more, run-whole, run-few}
use Rattle.denotation_laws.proofs.slow.slow_run.Goals as goal

pub loop-input-init : goal.loop-input-init
loop-input-init c = record {
  run = subst (IsRun c.args.program.now []) (sym c.new-outs.ensures.items) (no_run c.args.program.now);
  stores = subst (All (IsStore c.args.program.now)) (sym c.new-outs.ensures.items) (All-nil (IsStore c.args.program.now));
}

pub output-requires-clause-closed : goal.output-requires-clause-closed
output-requires-clause-closed c = subst (All (IsStore c.args.program.now)) (sym c.deref.ensures.value) c.loop-input.invariant.stores

pub output-requires-clause-few : goal.output-requires-clause-few
output-requires-clause-few c =
    let few = c.requires.few in
    let same = ap (λ (z : List StoreMap). length z) c.deref.ensures.value in
    let long = run-few c.args.program.now c.args.ins.now c.loop-input.outs.items c.loop-input.input-index c.loop-input.invariant.run in
    omega arith

pub output-requires-clause-input : goal.output-requires-clause-input
output-requires-clause-input c = input-store c.args.program.now c.args.ins.now c.loop-input.input-index c.requires.inputs c.loop-input-test.true c.input-item.result c.input-item.is

pub loop-input-preserved : goal.loop-input-preserved
loop-input-preserved c =
    let out = subst (λ (z : List StoreMap). IsOutput c.args.program.now z c.input-item.result c.in_ok-store.store) c.deref.ensures.value c.in_ok-store.ensures in
    record {
      run = subst (IsRun c.args.program.now (take (c.loop-input.input-index + 1) c.args.ins.now)) (sym c.in_ok-push.ensures.items)
          (run-more c.args.program.now c.args.ins.now c.loop-input.outs.items c.loop-input.input-index c.loop-input-test.true c.input-item.result c.input-item.is c.in_ok-store.store c.loop-input.invariant.run out);
      stores = subst (All (IsStore c.args.program.now)) (sym c.in_ok-push.ensures.items) (All-push (IsStore c.args.program.now) c.loop-input.outs.items c.in_ok-store.store c.loop-input.invariant.stores out.store);
    }

pub returns-clause-complete : goal.returns-clause-complete
returns-clause-complete c = λ others run.
    one_run c.args.program.now c.args.levels.now c.strata_of-strata.ensures.program c.requires.stratified c.args.ins.now others c.loop-input.outs.items run
    (run-whole c.args.program.now c.args.ins.now c.loop-input.outs.items c.loop-input.input-index c.loop-input-test.false c.loop-input.invariant.run)

pub returns-clause-run : goal.returns-clause-run
returns-clause-run c = run-whole c.args.program.now c.args.ins.now c.loop-input.outs.items c.loop-input.input-index c.loop-input-test.false c.loop-input.invariant.run
