use Rattle.std.proofs.Common.{arith}
use Rattle.std.proofs.lemmas.Option.{slice_get_within}
use Rattle.std.specs.Prelude.{slice_get}
use Rattle.instant_net.specs.Readers.{first_of_guard}
use Rattle.settle.proofs.Evaluating.{evaluates-then}
use Rattle.settle.proofs.Looks.{looks-then, range-next}
use Rattle.settle.proofs.looking.look_below.Goals as goal

pub look_at-requires-clause-leaf : goal.look_at-requires-clause-leaf
look_at-requires-clause-leaf g c =
    let lt = c.loop-leaf-test.true in
    let least = c.min-leaf-end.ensures in
    let count = c.leaves.ensures.count in
    omega arith

pub loop-leaf-preserved : goal.loop-leaf-preserved
loop-leaf-preserved g c =
    let had = c.loop-leaf.invariant in
    let now = c.look_at.ensures in
    record {
      watch = now.watch;
      looks = looks-then c.args.net.now c.args.stratum c.args.words.now c.loop-leaf.words c.look_at.new.words c.args.watch.now.asks c.loop-leaf.watch.asks c.look_at.new.watch.asks had.looks now.looks;
      seen = range-next c.args.net.now c.requires.net c.args.stratum c.loop-leaf.words c.look_at.new.words c.loop-leaf.watch.asks c.look_at.new.watch.asks now.looks (first_of_guard (slice_get c.args.net.now.guards c.args.guard)) c.loop-leaf.leaf now.seen had.seen;
      steps = evaluates-then c.args.net.now c.requires.net c.args.stratum c.args.stratum c.args.words.now c.loop-leaf.words c.look_at.new.words c.args.steps.now c.loop-leaf.steps c.look_at.new.steps had.looks.way had.steps now.steps;
    }

pub returns-clause-seen : goal.returns-clause-seen
returns-clause-seen g c n ge lt l level at =
    let within = slice_get_within c.args.net.now.leaves n l at in
    let past = c.loop-leaf-test.false in
    let least = c.min-leaf-end.ensures in
    let most = c.past_under.ensures in
    let count = c.leaves.ensures.count in
    c.loop-leaf.invariant.seen n ge (omega arith) l level at
