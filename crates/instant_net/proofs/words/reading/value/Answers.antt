use Rattle.std.proofs.Common.{ap, ◌∙◌, sym, arith}
use Rattle.instant_net.specs.WordParts.{pair_of}
use Rattle.instant_net.specs.Words.{bits_value, number_value}
use Rattle.instant_net.proofs.CellReads.{word_read, second_read, second_small, upper_small, signal_is, number_is, value_said}
use Rattle.instant_net.proofs.words.reading.value.Goals as goal

pub at-word-requires : goal.at-word-requires
at-word-requires c =
    word_read c.args.net.now c.whole_cell-place.ensures.net c.args.words.now c.requires.words c.args.cell c.whole_cell-place.result.now c.whole_cell-place.ensures.cell

pub overflow_add-place : goal.overflow_add-place
overflow_add-place c =
    let small = second_small c.args.net.now c.whole_cell-place.ensures.net c.args.words.now c.requires.words c.args.cell c.whole_cell-place.result.now c.whole_cell-place.ensures.cell c.in-Number.is in
    omega arith

pub at-requires : goal.at-requires
at-requires c =
    second_read c.args.net.now c.whole_cell-place.ensures.net c.args.words.now c.requires.words c.args.cell c.whole_cell-place.result.now c.whole_cell-place.ensures.cell c.in-Number.is

pub number-requires : goal.number-requires
number-requires c =
    let small = upper_small c.args.net.now c.whole_cell-place.ensures.net c.args.words.now c.requires.words c.args.cell c.whole_cell-place.result.now c.whole_cell-place.ensures.cell c.in-Number.is in
    let same = c.at.ensures in
    omega arith

pub returns-in-Signal : goal.returns-in-Signal
returns-in-Signal c =
    let said = value_said c.args.net.now c.whole_cell-place.ensures.net c.args.words.now c.requires.words c.args.cell c.whole_cell-place.result.now c.whole_cell-place.ensures.cell c.signal.result
    (
    c.signal.ensures ∙ ap bits_value (c.pair_of.ensures ∙ ap (pair_of c.whole_cell-place.result.now.first) c.at-word.ensures)
    ∙ sym (signal_is c.args.net.now c.whole_cell-place.ensures.net c.args.words.now c.requires.words c.args.cell c.whole_cell-place.result.now c.whole_cell-place.ensures.cell c.in-Signal.is)
    ) in
    record { value = said.value; of_cell = said.of_cell; in_store = said.in_store }

pub returns-in-Number : goal.returns-in-Number
returns-in-Number c =
    let said = value_said c.args.net.now c.whole_cell-place.ensures.net c.args.words.now c.requires.words c.args.cell c.whole_cell-place.result.now c.whole_cell-place.ensures.cell c.number.result
    (
    c.number.ensures ∙ ap (λ x. number_value x c.at.result) c.at-word.ensures ∙ ap (number_value _) c.at.ensures
    ∙ sym (number_is c.args.net.now c.whole_cell-place.ensures.net c.args.words.now c.requires.words c.args.cell c.whole_cell-place.result.now c.whole_cell-place.ensures.cell c.in-Number.is)
    ) in
    record { value = said.value; of_cell = said.of_cell; in_store = said.in_store }
