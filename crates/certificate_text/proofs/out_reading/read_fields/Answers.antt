use Rattle.std.proofs.Common.{◌+◌, List, false, refl, length, drop, sym, subst, rules, tests, arith}
use Rattle.std.specs.List.{slice_split}
use Rattle.std.proofs.lemmas.Iterator.Consumers.{YieldsList-turn, YieldsList-end}
use Rattle.std.proofs.lemmas.Iterator.Splits.{YieldsList-from_slice_split}
use Rattle.std.proofs.lemmas.Result.{err_from_is_err_and}
use Rattle.trace_text.specs.Fields.{Field, fields, is_blank}
use Rattle.trace_text.proofs.LineWalks.{fields_from, some_part, empty_part}
use Rattle.certificate_text.proofs.PartWalks.{PartsLeft, parts-start, parts-skip, parts-here, parts-field, parts-at, parts-past, parts-pushed}
use Rattle.certificate_text.specs.OutReadings.{IsOutReadUpTo}
use Rattle.certificate_text.proofs.OutWalks.{out_store}
use Rattle.certificate_text.proofs.out_reading.read_fields.Goals as goal
use Rattle.certificate_text.proofs.out_reading.read_fields.Goals.{then-not-is_empty+in_ok-read_field, else-not-is_empty}

pub loop-part-init : goal.loop-part-init
loop-part-init c = parts-start c.args.line.now (IsOutReadUpTo c.args.program.now c.args.instant (fields c.args.line.now) false c.new.result) (refl, c.new.ensures)

pub read_field-requires : goal.read_field-requires
read_field-requires c = record {
  store = out_store c.args.program.now c.args.instant (fields c.args.line.now) (fields_from c.loop-part.offset (drop (length c.loop-part.yielded) (slice_split is_blank c.args.line.now))) c.loop-part.read.worded c.loop-part.read.store c.loop-part.invariant.holds;
}

pub returns-in_err-read_field-clause-bad : goal.returns-in_err-read_field-clause-bad
returns-in_err-read_field-clause-bad c =
    let turn = YieldsList-turn (YieldsList-from_slice_split _ is_blank c.args.line.now (cc) (cc) (cc) (λ x r q k. search (rules, tests))) c.loop-part.yielded _ c.loop-part.yielded_by _ _ c.in-Some.part c.in-Some.is c.next.ensures.steps in
    let rest = drop (length c.loop-part.yielded + 1) (slice_split is_blank c.args.line.now) in
    let Holds : List Field → Type 0 = IsOutReadUpTo c.args.program.now c.args.instant (fields c.args.line.now) c.loop-part.read.worded c.loop-part.read.store in
    let here = parts-at c.args.line.now Holds (slice_split is_blank c.args.line.now) (length c.loop-part.yielded) c.loop-part.offset c.in-Some.part.now turn c.loop-part.invariant in
    let field = parts-here c.args.line.now Holds c.in-Some.part.now rest c.loop-part.offset here (some_part c.in-Some.part.now c.is_empty.result c.is_empty.ensures c.if-not-is_empty.true) in
    let failed = err_from_is_err_and c.from_residual.result c.from_residual.ensures.1 in
    rw (failed.1, failed.2)
    (c.in_err-read_field.ensures.bad (fields c.args.line.now) (fields_from (c.loop-part.offset + (length c.in-Some.part.now + 1)) rest) field)

pub loop-part-preserved : goal.loop-part-preserved
loop-part-preserved c =
    let turn = YieldsList-turn (YieldsList-from_slice_split _ is_blank c.args.line.now (cc) (cc) (cc) (λ x r q k. search (rules, tests))) c.loop-part.yielded _ c.loop-part.yielded_by _ _ c.in-Some.part c.in-Some.is c.next.ensures.steps in
    let all = slice_split is_blank c.args.line.now in
    let rest = drop (length c.loop-part.yielded + 1) all in
    let next = c.loop-part.offset + (length c.in-Some.part.now + 1) in
    let Holds : List Field → Type 0 = IsOutReadUpTo c.args.program.now c.args.instant (fields c.args.line.now) c.loop-part.read.worded c.loop-part.read.store in
    let here = parts-at c.args.line.now Holds all (length c.loop-part.yielded) c.loop-part.offset c.in-Some.part.now turn c.loop-part.invariant in
    parts-pushed c.args.line.now (IsOutReadUpTo c.args.program.now c.args.instant (fields c.args.line.now) c.if-not-is_empty.read.worded c.if-not-is_empty.read.store) all c.loop-part.yielded c.in-Some.part next
    (elim c.if-not-is_empty.branch [
      | then-not-is_empty+in_ok-read_field w ↦
          subst (λ read. PartsLeft c.args.line.now (IsOutReadUpTo c.args.program.now c.args.instant (fields c.args.line.now) read.worded read.store) rest next) (sym w.read-is)
          (parts-field c.args.line.now Holds c.in-Some.part.now rest c.loop-part.offset here (some_part c.in-Some.part.now c.is_empty.result c.is_empty.ensures w.if-not-is_empty.true)
          (IsOutReadUpTo c.args.program.now c.args.instant (fields c.args.line.now) w.read_field.new.self.worded w.read_field.new.self.store) (w.in_ok-read_field.ensures.read (fields c.args.line.now)))
      | else-not-is_empty w ↦
          subst (λ read. PartsLeft c.args.line.now (IsOutReadUpTo c.args.program.now c.args.instant (fields c.args.line.now) read.worded read.store) rest next) (sym w.read-is)
          (parts-skip c.args.line.now Holds c.in-Some.part.now rest c.loop-part.offset here (empty_part c.in-Some.part.now c.is_empty.result c.is_empty.ensures w.if-not-is_empty.false))
    ])

pub returns-clause-read : goal.returns-clause-read
returns-clause-read c =
    let over = YieldsList-end (YieldsList-from_slice_split _ is_blank c.args.line.now (cc) (cc) (cc) (λ x r q k. search (rules, tests))) c.loop-part.yielded _ c.loop-part.yielded_by _ _ c.in-None.is c.next.ensures.steps in
    parts-past c.args.line.now (IsOutReadUpTo c.args.program.now c.args.instant (fields c.args.line.now) c.loop-part.read.worded c.loop-part.read.store) (slice_split is_blank c.args.line.now) (length c.loop-part.yielded) c.loop-part.offset (omega (arith, over.1)) c.loop-part.invariant
