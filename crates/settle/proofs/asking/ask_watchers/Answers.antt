use Rattle.std.proofs.Common.{◌≡◌, ◌∙◌, length, List, ℕ, ap, arith, get_or}
use Rattle.parked_asks.proofs.Numbers.{number-read}
use Rattle.parked_asks.specs.Watches.{names_cell, watchers}
use Rattle.settle.proofs.Noting.{notes-then, held-next, held-all}
use Rattle.settle.proofs.asking.ask_watchers.Goals as goal

pub ask-requires-clause-guard : goal.ask-requires-clause-guard
ask-requires-clause-guard g c =
    number-read (names_cell c.args.cell) c.args.net.now.guards c.of.result.now c.of-place-end.result.now c.loop-place.place
    (c.of.ensures ∙ c.loop-place.invariant.watch.guards.each c.args.cell c.requires.cell) (c.of-place-end.ensures ∙ c.requires.watch.guards.each c.args.cell c.requires.cell) c.loop-place-test.true

pub loop-place-preserved : goal.loop-place-preserved
loop-place-preserved g c =
    let same = c.of.ensures ∙ c.loop-place.invariant.watch.guards.each c.args.cell c.requires.cell in
    record {
      watch = record { guards = c.loop-place.invariant.watch.guards; leaves = c.loop-place.invariant.watch.leaves; asks = c.ask.ensures.notes.long ∙ c.loop-place.invariant.watch.asks };
      notes = notes-then c.args.net.now c.args.words.now c.args.watch.now.asks c.loop-place.watch.asks c.ask.new.asks c.loop-place.invariant.notes c.ask.ensures.notes;
      held = held-next c.args.net.now c.args.words.now (watchers c.args.net.now c.args.cell) c.loop-place.watch.asks c.ask.new.asks c.loop-place.place _ c.ask.ensures.notes (ap (λ (ns : List ℕ). get_or ns c.loop-place.place 0) same) c.ask.ensures.held
          c.loop-place.invariant.held;
      count = (let a = c.loop-place.invariant.count in let b = c.ask.ensures.steps in omega arith);
    }

pub returns-clause-held : goal.returns-clause-held
returns-clause-held g c =
    let same : length c.of-place-end.result.now ≡ length (watchers c.args.net.now c.args.cell) = ap (λ (ns : List ℕ). length ns) (c.of-place-end.ensures ∙ c.requires.watch.guards.each c.args.cell c.requires.cell) in
    let le = c.loop-place-test.false in
    held-all c.args.net.now c.args.words.now (watchers c.args.net.now c.args.cell) c.loop-place.watch.asks c.loop-place.place (omega arith) c.loop-place.invariant.held
