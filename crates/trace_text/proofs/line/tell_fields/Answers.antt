use Rattle.std.proofs.Common.{◌+◌, length, drop, sym, subst, rules, tests, arith}
use Rattle.std.specs.List.{slice_split}
use Rattle.std.proofs.lemmas.Iterator.Consumers.{YieldsList-turn, YieldsList-end}
use Rattle.std.proofs.lemmas.Iterator.Splits.{YieldsList-from_slice_split}
use Rattle.std.proofs.lemmas.Result.{err_from_is_err_and}
use Rattle.trace_text.specs.Fields.{is_blank}
use Rattle.trace_text.proofs.LineWalks.{ReadSoFar, read-start, read-store, read-end, read-skip, read-tell, read-refused, read-at, read-past, read-pushed, some_part, empty_part}
use Rattle.trace_text.proofs.line.tell_fields.Goals as goal
use Rattle.trace_text.proofs.line.tell_fields.Goals.{then-not-is_empty+in_ok-tell_field, else-not-is_empty}

pub loop-part-init : goal.loop-part-init
loop-part-init c = read-start c.args.program.now c.args.line.now c.args.store.now c.requires.nothing_told

pub tell_field-requires : goal.tell_field-requires
tell_field-requires c = record { store = read-store c.args.program.now c.args.line.now _ c.loop-part.offset c.loop-part.store c.loop-part.invariant }

pub returns-in_err-tell_field-clause-refused : goal.returns-in_err-tell_field-clause-refused
returns-in_err-tell_field-clause-refused c =
    let turn = YieldsList-turn (YieldsList-from_slice_split _ is_blank c.args.line.now (cc) (cc) (cc) (λ x r q k. search (rules, tests))) c.loop-part.yielded _ c.loop-part.yielded_by _ _ c.in-Some.part c.in-Some.is c.next.ensures.steps in
    let here = read-at c.args.program.now c.args.line.now (slice_split is_blank c.args.line.now) (length c.loop-part.yielded) c.loop-part.offset c.loop-part.store c.in-Some.part.now turn c.loop-part.invariant in
    let failed = err_from_is_err_and c.from_residual.result c.from_residual.ensures.1 in
    rw (failed.1, failed.2)
    (read-refused c.args.program.now c.args.line.now c.in-Some.part.now (drop (length c.loop-part.yielded + 1) (slice_split is_blank c.args.line.now)) c.loop-part.offset c.loop-part.store here
    (some_part c.in-Some.part.now c.is_empty.result c.is_empty.ensures c.if-not-is_empty.true) c.in_err-tell_field.field-0.0 c.in_err-tell_field.ensures.refused)

pub loop-part-preserved : goal.loop-part-preserved
loop-part-preserved c =
    let turn = YieldsList-turn (YieldsList-from_slice_split _ is_blank c.args.line.now (cc) (cc) (cc) (λ x r q k. search (rules, tests))) c.loop-part.yielded _ c.loop-part.yielded_by _ _ c.in-Some.part c.in-Some.is c.next.ensures.steps in
    let here = read-at c.args.program.now c.args.line.now (slice_split is_blank c.args.line.now) (length c.loop-part.yielded) c.loop-part.offset c.loop-part.store c.in-Some.part.now turn c.loop-part.invariant in
    read-pushed c.args.program.now c.args.line.now (slice_split is_blank c.args.line.now) c.loop-part.yielded c.in-Some.part (c.loop-part.offset + (length c.in-Some.part.now + 1)) c.if-not-is_empty.store
    (elim c.if-not-is_empty.branch [
      | then-not-is_empty+in_ok-tell_field w ↦
          subst (ReadSoFar c.args.program.now c.args.line.now (drop (length c.loop-part.yielded + 1) (slice_split is_blank c.args.line.now)) (c.loop-part.offset + (length c.in-Some.part.now + 1))) (sym w.store-is)
          (read-tell c.args.program.now c.args.line.now c.in-Some.part.now (drop (length c.loop-part.yielded + 1) (slice_split is_blank c.args.line.now)) c.loop-part.offset c.loop-part.store here
          (some_part c.in-Some.part.now c.is_empty.result c.is_empty.ensures w.if-not-is_empty.true) w.tell_field.new.store w.in_ok-tell_field.ensures.told)
      | else-not-is_empty w ↦
          subst (ReadSoFar c.args.program.now c.args.line.now (drop (length c.loop-part.yielded + 1) (slice_split is_blank c.args.line.now)) (c.loop-part.offset + (length c.in-Some.part.now + 1))) (sym w.store-is)
          (read-skip c.args.program.now c.args.line.now c.in-Some.part.now (drop (length c.loop-part.yielded + 1) (slice_split is_blank c.args.line.now)) c.loop-part.offset c.loop-part.store here
          (empty_part c.in-Some.part.now c.is_empty.result c.is_empty.ensures w.if-not-is_empty.false))
    ])

pub returns-clause-told : goal.returns-clause-told
returns-clause-told c =
    let over = YieldsList-end (YieldsList-from_slice_split _ is_blank c.args.line.now (cc) (cc) (cc) (λ x r q k. search (rules, tests))) c.loop-part.yielded _ c.loop-part.yielded_by _ _ c.in-None.is c.next.ensures.steps in
    read-end c.args.program.now c.args.line.now c.loop-part.offset c.args.store.now c.loop-part.store c.requires.nothing_told
    (read-past c.args.program.now c.args.line.now (slice_split is_blank c.args.line.now) (length c.loop-part.yielded) c.loop-part.offset c.loop-part.store (omega (arith, over.1)) c.loop-part.invariant)
