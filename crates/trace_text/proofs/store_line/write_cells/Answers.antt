use Rattle.std.proofs.Common.{take, sym, arith, Ok, Err}
use Rattle.std.specs.Prelude.{Result, OnErr}
use Rattle.trace_text.proofs.Written.{Grows-trans, cells-start, cells-step, cells-beyond, cells-end}
use Rattle.trace_text.proofs.store_line.write_cells.Goals as goal

whatever_failed : {T E P : Type 0} (r : Result T E) → P → OnErr r P
whatever_failed (Ok x) p = tt
whatever_failed (Err e) p = p

pub loop-place-init : goal.loop-place-init
loop-place-init c = cells-start (take c.args.program.now.declared c.args.program.now.cells) c.args.store.now c.args.into.now.items

-- the name is that of no declared cell
pub returns-in_default-clause-ok : goal.returns-in_default-clause-ok
returns-in_default-clause-ok c =
    cells-beyond (take c.args.program.now.declared c.args.program.now.cells) c.args.store.now c.loop-place.place c.args.into.now.items c.loop-place.into.items c.loop-place.invariant c.name_at.result.now
    c.name_at.ensures (sym (rw (c.declared.ensures.number, c.cells.ensures.all) at c.in_default.ensures))

pub returns-in_err-write_cell-clause-err : goal.returns-in_err-write_cell-clause-err
returns-in_err-write_cell-clause-err c =
    whatever_failed c.from_residual.result (Grows-trans c.args.into.now.items c.loop-place.into.items c.write_cell.new.into.items c.loop-place.invariant.grown c.in_err-write_cell.ensures.err)

pub loop-place-preserved : goal.loop-place-preserved
loop-place-preserved c =
    cells-step (take c.args.program.now.declared c.args.program.now.cells) c.args.store.now c.loop-place.place c.args.into.now.items c.loop-place.into.items c.loop-place.invariant c.name_at.result.now
    c.in-Some.decl.now c.kept_at.result c.write_cell.new.into.items c.name_at.ensures c.kept_at.ensures.kept (sym (rw (c.declared.ensures.number, c.cells.ensures.all) at c.in-Some.ensures))
    c.in_ok-write_cell.ensures.ok

pub returns-clause-ok : goal.returns-clause-ok
returns-clause-ok c =
    cells-end (take c.args.program.now.declared c.args.program.now.cells) c.args.store.now c.loop-place.place c.args.into.now.items c.loop-place.into.items c.loop-place.invariant
    (omega (arith, c.len-place-end.ensures, c.loop-place-test.false))
