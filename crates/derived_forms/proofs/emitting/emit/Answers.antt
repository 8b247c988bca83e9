use Rattle.std.proofs.Common.{◌≡◌, ◌+◌, ◌-◌, ◌<◌, ◌≤◌, length, take, ap, arith}
use Rattle.std.proofs.lemmas.List.{take_all}
use Rattle.expansion_laws.specs.Expanding.{symbolic_of}
use Rattle.expansion_laws.specs.SymbolicAgents.{symbolic_size}
use Rattle.derived_forms.specs.Emitters.{emitted_nodes}
use Rattle.derived_forms.proofs.Faults.{handed_on}
use Rattle.derived_forms.proofs.EmittedSteps.{emit_start, emit_step, emit_end}
use Rattle.derived_forms.proofs.emitting.emit.Goals as goal

pub loop-left-init : goal.loop-left-init
loop-left-init c = record {
  within = omega arith;
  room = let e = ap length c.new-emitter.ensures in omega arith;
  back = λ t e. let le : length c.args.forms.now ≤ length c.args.forms.now = omega arith in emit_start c.args.cells t c.args.forms.now (take (length c.args.forms.now) c.args.forms.now) (emitted_nodes c.new-emitter.result) e (take_all (length c.args.forms.now) c.args.forms.now le) c.new-emitter.ensures;
}

pub loop-left-preserved : goal.loop-left-preserved
loop-left-preserved c =
    let within = c.loop-left.invariant.within in
    let some = c.loop-left-test.true in record {
      within = omega arith;
      room = c.in_ok-put_form.ensures.room;
      back = λ t e.
          let lt : c.loop-left.left - 1 < length c.args.forms.now = omega arith in
          let one : c.loop-left.left ≡ (c.loop-left.left - 1) + 1 = omega arith in
          let g = emit_step c.args.cells t c.args.forms.now c.loop-left.left (c.loop-left.left - 1) c.index-forms-left.result (emitted_nodes c.loop-left.emitter) lt one c.index-forms-left.is (c.loop-left.invariant.back t e) in
          g.next (emitted_nodes c.put_form.new.emitter) (c.in_ok-put_form.ensures.emitted g.tree g.later g.form g.parts);
    }

pub returns-in_err-put_form-clause-fault : goal.returns-in_err-put_form-clause-fault
returns-in_err-put_form-clause-fault c = λ t e.
    let within = c.loop-left.invariant.within in
    let some = c.loop-left-test.true in
    let lt : c.loop-left.left - 1 < length c.args.forms.now = omega arith in
    let one : c.loop-left.left ≡ (c.loop-left.left - 1) + 1 = omega arith in
    let g = emit_step c.args.cells t c.args.forms.now c.loop-left.left (c.loop-left.left - 1) c.index-forms-left.result (emitted_nodes c.loop-left.emitter) lt one c.index-forms-left.is (c.loop-left.invariant.back t e) in
    handed_on c.from_residual.result c.in_err-put_form.field-0.0 (symbolic_size (symbolic_of c.args.cells (c.loop-left.left - 1) g.tree) + length g.later) (symbolic_size (symbolic_of c.args.cells 0 t))
    c.from_residual.ensures.1 g.fits (c.in_err-put_form.ensures.fault g.tree g.later g.form g.parts)

pub returns-clause-emitted : goal.returns-clause-emitted
returns-clause-emitted c = λ t e.
    let none = c.loop-left-test.false in
    let zero : c.loop-left.left ≡ 0 = omega arith in
    emit_end c.args.cells t (take c.loop-left.left c.args.forms.now) (emitted_nodes c.loop-left.emitter) (ap (λ k. take k c.args.forms.now) zero) (c.loop-left.invariant.back t e)
