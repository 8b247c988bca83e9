use Rattle.std.proofs.Common.{◌≡◌, ◌∙◌, ◌+◌, ℕ, List, length, get_or, ap, subst, arith}
use Rattle.std.proofs.lemmas.List.{get_or_default}
use Rattle.parked_asks.specs.Numbers.{numbers_of}
use Rattle.parked_asks.specs.Watches.{has_level}
use Rattle.parked_asks.proofs.Numbers.{number-read, has-number}
use Rattle.settle.specs.Looking.{IsSeenTo}
use Rattle.settle.proofs.Evaluating.{evaluates-then}
use Rattle.settle.proofs.Looks.{looks-then, listed-next}
use Rattle.settle.proofs.looking.look_at_level.Goals as goal

pub look_at-requires-clause-leaf : goal.look_at-requires-clause-leaf
look_at-requires-clause-leaf g c =
    number-read (has_level c.args.net.now.cells c.args.level) c.args.net.now.leaves c.of.result.now c.of-place-end.result.now c.loop-place.place
    (c.of.ensures ∙ c.loop-place.invariant.watch.leaves.each c.args.level c.requires.level) (c.of-place-end.ensures ∙ c.requires.watch.leaves.each c.args.level c.requires.level) c.loop-place-test.true

pub loop-place-preserved : goal.loop-place-preserved
loop-place-preserved g c =
    let had = c.loop-place.invariant in
    let now = c.look_at.ensures in
    record {
      watch = now.watch;
      looks = looks-then c.args.net.now c.args.stratum c.args.words.now c.loop-place.words c.look_at.new.words c.args.watch.now.asks c.loop-place.watch.asks c.look_at.new.watch.asks had.looks now.looks;
      seen = listed-next c.args.net.now c.requires.net c.args.stratum c.loop-place.words c.look_at.new.words c.loop-place.watch.asks c.look_at.new.watch.asks now.looks (numbers_of (has_level c.args.net.now.cells c.args.level) c.args.net.now.leaves)
          c.loop-place.place _ (ap (λ (ns : List ℕ). get_or ns c.loop-place.place 0) (c.of.ensures ∙ had.watch.leaves.each c.args.level c.requires.level)) now.seen had.seen;
      steps = evaluates-then c.args.net.now c.requires.net c.args.stratum c.args.stratum c.args.words.now c.loop-place.words c.look_at.new.words c.args.steps.now c.loop-place.steps c.look_at.new.steps had.looks.way had.steps now.steps;
    }

pub returns-clause-seen : goal.returns-clause-seen
returns-clause-seen g c n l at is_level =
    let all : length c.of-place-end.result.now ≡ length (numbers_of (has_level c.args.net.now.cells c.args.level) c.args.net.now.leaves) =
    ap (λ (ns : List ℕ). length ns) (c.of-place-end.ensures ∙ c.requires.watch.leaves.each c.args.level c.requires.level) in
    let le = c.loop-place-test.false in
    let found = has-number (has_level c.args.net.now.cells c.args.level) 0 c.args.net.now.leaves n l at is_level in
    let lt = found.1 in
    subst (λ (m : ℕ). IsSeenTo c.args.net.now c.args.stratum c.loop-place.words c.loop-place.watch.asks.due m)
    (get_or_default (numbers_of (has_level c.args.net.now.cells c.args.level) c.args.net.now.leaves) found.0 0 (0 + n) found.1 ∙ found.2 ∙ omega arith) (c.loop-place.invariant.seen found.0 (omega arith))
