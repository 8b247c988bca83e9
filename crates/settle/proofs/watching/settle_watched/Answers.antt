use Rattle.std.proofs.Common.{◌≤◌, ◌+◌, ℕ, List, max, length, sym, subst, arith}
use Rattle.instant_net.specs.Words.{store_in}
use Rattle.settle.specs.Looking.{AreSeenTo}
use Rattle.net_laws.specs.Ways.{IsOnNetWay}
use Rattle.settle.specs.Ways.{Advances}
use Rattle.settle.proofs.Evaluating.{evaluates-then, left-most}
use Rattle.settle.proofs.Looks.{level-seen}
use Rattle.net_laws.proofs.Settling.{end-on_way}
use Rattle.settle.proofs.WatchedLevels.{way-next}
use Rattle.settle.proofs.watching.settle_watched.Goals as goal

pub look_below_due-requires-clause-seen : goal.look_below_due-requires-clause-seen
look_below_due-requires-clause-seen g c =
    let had = c.loop-level.invariant in
    let now = c.look_at_level.ensures in
    let stratum = c.max-stratum.ensures in
    level-seen c.args.net.now c.strata-level-end.ensures.net c.max-stratum.result c.loop-level.words c.look_at_level.new.words c.loop-level.watch.asks c.look_at_level.new.watch.asks now.looks c.loop-level.level (omega arith)
    (subst (λ (ds : List ℕ). AreSeenTo c.args.net.now c.loop-level.level c.loop-level.words ds) (sym had.due) had.seen) now.seen

pub loop-level-preserved : goal.loop-level-preserved
loop-level-preserved g c =
    let net = c.args.net.now in
    let had = c.loop-level.invariant in
    let level = c.look_at_level.ensures in
    let due = c.look_below_due.ensures in
    let start : Advances net c.args.from c.max-stratum.result c.args.words.now c.loop-level.words =
    λ input output strat out h. subst (λ (k : ℕ). IsOnNetWay c.args.net.now input output k (store_in c.args.net.now.cells c.loop-level.words)) (sym c.max-stratum.ensures) (had.way input output strat out h) in
    let looked : Advances net c.args.from c.max-stratum.result c.args.words.now c.look_at_level.new.words = λ input output strat out h. level.looks.way input output strat out (start input output strat out h) in
    record {
      words = due.words;
      watch = due.watch;
      noted = due.noted;
      due = due.due;
      way = way-next net c.strata-level-end.ensures.net c.args.from c.loop-level.level c.args.words.now c.look_below_due.new.words
          (λ input output strat out h. subst (λ (k : ℕ). IsOnNetWay c.args.net.now input output k (store_in c.args.net.now.cells c.look_below_due.new.words)) c.max-stratum.ensures (due.way input output strat out (looked input output strat out h)))
          due.seen;
      seen = due.seen;
      steps = evaluates-then net c.strata-level-end.ensures.net c.args.from c.max-stratum.result c.args.words.now c.look_at_level.new.words c.look_below_due.new.words (c.args.steps.now + length net.guards) c.look_at_level.new.steps c.look_below_due.new.steps looked
          (evaluates-then net c.strata-level-end.ensures.net c.args.from c.max-stratum.result c.args.words.now c.loop-level.words c.look_at_level.new.words (c.args.steps.now + length net.guards) c.loop-level.steps c.look_at_level.new.steps start had.steps level.steps) due.steps;
    }

pub returns-clause-settled : goal.returns-clause-settled
returns-clause-settled g c input output strat out h =
    let count = c.strata-level-end.ensures.count in
    let le = c.loop-level-test.false in
    end-on_way c.args.net.now c.strata-level-end.ensures.net strat input output out (max c.loop-level.level c.args.from) (store_in c.args.net.now.cells c.loop-level.words) (omega arith) (c.loop-level.invariant.way input output strat out h)

pub returns-clause-steps : goal.returns-clause-steps
returns-clause-steps g c input output strat out h =
    let made = c.loop-level.invariant.steps input output strat out h in
    let most = left-most c.args.net.now output (store_in c.args.net.now.cells c.args.words.now) c.args.net.now.leaves in
    omega arith
