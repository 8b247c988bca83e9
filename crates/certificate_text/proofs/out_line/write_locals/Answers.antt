use Rattle.std.proofs.Common.{arith, Ok, Err}
use Rattle.std.specs.Prelude.{Result, OnErr}
use Rattle.trace_text.proofs.Written.{Grows-trans}
use Rattle.certificate_text.proofs.OutTexts.{locals-start, locals-step, locals-end}
use Rattle.certificate_text.proofs.out_line.write_locals.Goals as goal

whatever_failed : {T E P : Type 0} (r : Result T E) → P → OnErr r P
whatever_failed (Ok x) p = tt
whatever_failed (Err e) p = p

pub loop-place-init : goal.loop-place-init
loop-place-init c = locals-start c.args.program.now c.args.store.now c.args.into.now.items

pub returns-in_err-write_local-clause-err : goal.returns-in_err-write_local-clause-err
returns-in_err-write_local-clause-err c =
    whatever_failed c.from_residual.result (Grows-trans c.args.into.now.items c.loop-place.into.items c.write_local.new.into.items c.loop-place.invariant.grown c.in_err-write_local.ensures.err)

pub loop-place-preserved : goal.loop-place-preserved
loop-place-preserved c =
    locals-step c.args.program.now c.args.store.now c.loop-place.place c.args.into.now.items c.loop-place.into.items c.loop-place.invariant c.name_at.result.now
    c.kept_at.result c.write_local.new.into.items c.name_at.ensures c.kept_at.ensures.kept c.in_ok-write_local.ensures.ok

pub returns-clause-ok : goal.returns-clause-ok
returns-clause-ok c =
    locals-end c.args.program.now c.args.store.now c.loop-place.place c.args.into.now.items c.loop-place.into.items c.loop-place.invariant
    (omega (arith, c.len-place-end.ensures, c.loop-place-test.false))
