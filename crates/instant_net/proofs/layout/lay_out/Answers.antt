use Rattle.std.proofs.Common.{◌≡◌, ℕ, ◌+◌, ◌*◌, ◌<◌, List, drop, length, length-drop, sym, ap, ◌∙◌, subst, arith}
use Rattle.std.specs.Prelude.{map}
use Rattle.instant_net.specs.declared.parts.NetCell.{NetCell}
use Rattle.instant_net.specs.Collecting.{unplaced}
use Rattle.instant_net.specs.Words.{signals, AreLaidOut}
use Rattle.instant_net.proofs.WordPlaces.{few_signals}
use Rattle.instant_net.proofs.Layouts.{placed_from, placed-AreLaidOut, placed-same, all-placed}
use Rattle.instant_net.proofs.layout.lay_out.Goals as goal

-- where a number is placed there is room behind the signals
room : (s q r k : ℕ) (cells : List NetCell) → q + signals (drop k cells) ≡ s → r + 2 * q ≡ 2 * k → k < length cells → length cells < 2147483648 → s + r < 4294967296
room s q r k cells left even within few =
    let rest = few_signals (drop k cells) in
    omega (arith, length-drop k cells)

pub overflow_add-cell : goal.overflow_add-cell
overflow_add-cell c =
    let few = c.requires.few in
    let all = c.len-place-end.ensures in
    let long = c.loop-place.invariant.long in
    let test = c.loop-place-test.true in
    let sum = room c.count_signals-signals.result c.loop-place.signal c.loop-place.others c.loop-place.place c.loop-place.cells.items c.loop-place.invariant.left c.loop-place.invariant.room (omega arith) (omega arith) in
    omega arith

pub overflow_add-cell-in-Number : goal.overflow_add-cell-in-Number
overflow_add-cell-in-Number c =
    let few = c.requires.few in
    let all = c.len-place-end.ensures in
    let long = c.loop-place.invariant.long in
    let test = c.loop-place-test.true in
    let words = c.signal_words-words.ensures in
    let sum = room c.count_signals-signals.result c.loop-place.signal c.loop-place.others c.loop-place.place c.loop-place.cells.items c.loop-place.invariant.left c.loop-place.invariant.room (omega arith) (omega arith) in
    omega arith

pub returns-clause-laid_out : goal.returns-clause-laid_out
returns-clause-laid_out c =
    let counted : c.count_signals-signals.result ≡ signals c.args.cells.now.items = c.count_signals-signals.ensures ∙ ap signals c.as_slice.ensures.value in
    let past = c.loop-place-test.false in
    let all = c.len-place-end.ensures in
    let long = c.loop-place.invariant.long in
    let end = all-placed c.count_signals-signals.result c.loop-place.signal (c.count_signals-signals.result + c.loop-place.others) c.loop-place.place c.loop-place.cells.items (omega arith) in
    subst AreLaidOut (sym (sym end ∙ c.loop-place.invariant.laid ∙ ap (λ n. placed_from n 0 n c.args.cells.now.items) counted)) (placed-AreLaidOut c.args.cells.now.items)

pub returns-clause-same : goal.returns-clause-same
returns-clause-same c =
    let past = c.loop-place-test.false in
    let all = c.len-place-end.ensures in
    let long = c.loop-place.invariant.long in
    let end = all-placed c.count_signals-signals.result c.loop-place.signal (c.count_signals-signals.result + c.loop-place.others) c.loop-place.place c.loop-place.cells.items (omega arith) in
    ap (map unplaced) (sym end ∙ c.loop-place.invariant.laid) ∙ placed-same c.count_signals-signals.result 0 c.count_signals-signals.result c.args.cells.now.items
