use Rattle.std.proofs.Common.{arith}
use Rattle.instant_net.proofs.WordPlaces.{few_signals, hows_count}
use Rattle.instant_net.proofs.layout.count_words.Goals as goal

pub overflow_sub-numbers : goal.overflow_sub-numbers
overflow_sub-numbers c =
    let few = few_signals c.args.cells.now in
    let count = c.count_signals-signals.ensures in
    omega arith

pub overflow_mul-result : goal.overflow_mul-result
overflow_mul-result c =
    let few = few_signals c.args.cells.now in
    let all = hows_count c.args.cells.now in
    let count = c.count_signals-signals.ensures in
    let small = c.requires.words in
    omega arith

pub overflow_add-result : goal.overflow_add-result
overflow_add-result c =
    let few = few_signals c.args.cells.now in
    let all = hows_count c.args.cells.now in
    let count = c.count_signals-signals.ensures in
    let words = c.signal_words.ensures in
    let small = c.requires.words in
    omega arith

pub returns : goal.returns
returns c =
    let few = few_signals c.args.cells.now in
    let all = hows_count c.args.cells.now in
    let count = c.count_signals-signals.ensures in
    let words = c.signal_words.ensures in
    omega arith
