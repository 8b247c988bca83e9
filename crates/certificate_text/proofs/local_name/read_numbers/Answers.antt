use Rattle.std.proofs.Common.{length, drop, ◌+◌, sym, subst, rules, tests, arith}
use Rattle.std.specs.List.{slice_split}
use Rattle.std.proofs.lemmas.Iterator.Consumers.{YieldsList-turn, YieldsList-end}
use Rattle.std.proofs.lemmas.Iterator.Splits.{YieldsList-from_slice_split}
use Rattle.certificate_text.specs.LocalNames.{is_dot}
use Rattle.certificate_text.proofs.NameTexts.{ReadUpTo, read-none, read-more, read-stopped, read-next, read-pushed, read-past}
use Rattle.certificate_text.proofs.local_name.read_numbers.Goals as goal

pub loop-part-init : goal.loop-part-init
loop-part-init c = rw (c.new-numbers.ensures.items) (read-none (slice_split is_dot c.args.text.now))

-- a part that is no number
pub returns-in_default-clause-none : goal.returns-in_default-clause-none
returns-in_default-clause-none c =
    let turn = YieldsList-turn (YieldsList-from_slice_split _ is_dot c.args.text.now (cc) (cc) (cc) (λ x r q k. search (rules, tests))) c.loop-part.yielded _ c.loop-part.yielded_by _ _ c.in-Some.part c.in-Some.is c.next.ensures.steps in
    let all = slice_split is_dot c.args.text.now in
    let here = read-next all c.loop-part.numbers.items (length c.loop-part.yielded) c.in-Some.part.now turn c.loop-part.invariant in
    λ none. read-stopped all c.loop-part.numbers.items c.in-Some.part.now (drop (length c.loop-part.yielded + 1) all) here (sym c.in_default.ensures.value)

pub loop-part-preserved : goal.loop-part-preserved
loop-part-preserved c =
    let turn = YieldsList-turn (YieldsList-from_slice_split _ is_dot c.args.text.now (cc) (cc) (cc) (λ x r q k. search (rules, tests))) c.loop-part.yielded _ c.loop-part.yielded_by _ _ c.in-Some.part c.in-Some.is c.next.ensures.steps in
    let all = slice_split is_dot c.args.text.now in
    let here = read-next all c.loop-part.numbers.items (length c.loop-part.yielded) c.in-Some.part.now turn c.loop-part.invariant in
    read-pushed all c.push.new.self.items c.loop-part.yielded c.in-Some.part
    (subst (λ numbers. ReadUpTo all numbers (drop (length c.loop-part.yielded + 1) all)) (sym c.in_ok-push.ensures.items)
    (read-more all c.loop-part.numbers.items c.in-Some.part.now (drop (length c.loop-part.yielded + 1) all) here c.in-Some-read_natural.number (sym c.in-Some-read_natural.ensures.value)))

pub returns-clause-read : goal.returns-clause-read
returns-clause-read c =
    let over = YieldsList-end (YieldsList-from_slice_split _ is_dot c.args.text.now (cc) (cc) (cc) (λ x r q k. search (rules, tests))) c.loop-part.yielded _ c.loop-part.yielded_by _ _ c.in-None.is c.next.ensures.steps in
    read-past (slice_split is_dot c.args.text.now) c.loop-part.numbers.items (length c.loop-part.yielded) (omega (arith, over.1)) c.loop-part.invariant
