use Rattle.std.proofs.Common.{◌+◌, arith}
use Rattle.names_and_numbers.proofs.Decimals.{digits_all, value_short, value_more}
use Rattle.names_and_numbers.proofs.numbers.digits_value.Goals as goal

pub overflow_mul-value : goal.overflow_mul-value
overflow_mul-value c =
    let all = digits_all c.args.digits.now c.requires.all in
    let more = value_more c.args.digits.now c.loop-digit.digit-index all c.loop-digit-test.true in
    let short = value_short c.args.digits.now (c.loop-digit.digit-index + 1) all c.requires.few in
    omega (arith, more, short, c.loop-digit.invariant)

pub overflow_add-value : goal.overflow_add-value
overflow_add-value c =
    let all = digits_all c.args.digits.now c.requires.all in
    let more = value_more c.args.digits.now c.loop-digit.digit-index all c.loop-digit-test.true in
    let short = value_short c.args.digits.now (c.loop-digit.digit-index + 1) all c.requires.few in
    omega (arith, more, short, c.loop-digit.invariant, c.from.ensures)

pub loop-digit-preserved : goal.loop-digit-preserved
loop-digit-preserved c =
    let all = digits_all c.args.digits.now c.requires.all in
    let more = value_more c.args.digits.now c.loop-digit.digit-index all c.loop-digit-test.true in
    omega (arith, more, c.loop-digit.invariant, c.from.ensures)

pub returns-clause-bound : goal.returns-clause-bound
returns-clause-bound c =
    let short = value_short c.args.digits.now c.loop-digit.digit-index (digits_all c.args.digits.now c.requires.all) c.requires.few in
    omega (arith, short, c.loop-digit.invariant)
