use Rattle.std.proofs.Common.{◌≡◌, ℕ, sym, subst, arith}
use Rattle.agent_core.specs.Outputs.{IsOutput}
use Rattle.agent_core.specs.Stores.{IsStore}
use Rattle.agent_laws.specs.Ways.{IsOnWay}
use Rattle.agent_laws.proofs.ProgramOutputs.{has_output}
use Rattle.denotation_laws.proofs.Completed.{way-start, way-end}
use Rattle.denotation_laws.proofs.slow.output.Goals as goal

pub loop-stratum-init : goal.loop-stratum-init
loop-stratum-init c = record {
  store = subst (IsStore c.args.program.now) (sym c.in_ok-store.ensures) c.requires.input;
  way = λ v out. subst (IsOnWay c.args.program.now c.args.levels.now c.args.input.now v 0) (sym c.in_ok-store.ensures) (way-start c.args.program.now c.args.levels.now c.requires.program c.requires.stratified c.args.closed.now c.args.input.now v out);
}

pub loop-stratum-preserved : goal.loop-stratum-preserved
loop-stratum-preserved c = record {
  store = c.in_ok-complete_stratum.ensures.store;
  way = λ v out. c.in_ok-complete_stratum.ensures.completed c.args.input.now v out (c.loop-stratum.invariant.way v out);
}

pub returns : goal.returns
returns c =
    let one = has_output c.args.program.now c.args.levels.now c.requires.program c.requires.stratified c.args.closed.now c.args.input.now c.requires.input in
    let all : c.loop-stratum.stratum ≡ c.args.strata = omega arith in
    let way : IsOnWay c.args.program.now c.args.levels.now c.args.input.now one.0 c.args.strata c.loop-stratum.store =
    subst (λ (k : ℕ). IsOnWay c.args.program.now c.args.levels.now c.args.input.now one.0 k c.loop-stratum.store) all (c.loop-stratum.invariant.way one.0 one.1) in
    subst (IsOutput c.args.program.now c.args.closed.now c.args.input.now)
    (sym (way-end c.args.program.now c.args.levels.now c.requires.program c.requires.stratified c.args.closed.now c.args.strata c.requires.strata c.loop-stratum.store c.args.input.now one.0 one.1 way))
    one.1
