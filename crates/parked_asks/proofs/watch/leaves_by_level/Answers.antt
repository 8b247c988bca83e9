use Rattle.std.proofs.Common.{◌+◌, ◌∙◌, ℕ, List, [], replicate, sym, ap, subst, arith}
use Rattle.instant_net.proofs.LevelBounds.{level-below}
use Rattle.parked_asks.proofs.Listings.{LeavesUpto, leaves-next, leaves-skip, leaves-all, lists-none}
use Rattle.parked_asks.specs.Watches.{has_level}
use Rattle.parked_asks.proofs.watch.leaves_by_level.Goals as goal
use Rattle.parked_asks.proofs.watch.leaves_by_level.Goals.{in-Some+in_ok-push, in_default}

pub loop-leaf-init : goal.loop-leaf-init
loop-leaf-init c = lists-none (has_level c.args.net.now.cells) c.args.net.now.strata c.args.net.now.leaves c.in_ok-index.index (c.in_ok-index.ensures ∙ ap (λ (n : ℕ). replicate n []) c.strata.ensures.count)

pub push-requires : goal.push-requires
push-requires c =
    let low = level-below c.args.net.now c.strata.ensures.net c.loop-leaf.leaf c.in-Some.level (sym c.level.ensures ∙ c.in-Some.is) in
    let keys = c.loop-leaf.invariant.keys_are in
    omega arith

pub loop-leaf-preserved : goal.loop-leaf-preserved
loop-leaf-preserved c =
    let n = c.leaves-leaf-end.ensures.count in
    let lt = c.loop-leaf-test.true in
    elim c.match-level.branch [
      | in-Some+in_ok-push w ↦
          subst (λ (x : List (List ℕ)). LeavesUpto c.args.net.now (c.loop-leaf.leaf + 1) x) (sym w.index-is)
          (leaves-next c.args.net.now c.loop-leaf.leaf c.loop-leaf.index (omega arith) c.level.result c.level.ensures c.loop-leaf.invariant w.in-Some.level w.push.new.self w.in-Some.is
          (level-below c.args.net.now c.strata.ensures.net c.loop-leaf.leaf w.in-Some.level (sym c.level.ensures ∙ w.in-Some.is)) w.in_ok-push.ensures)
      | in_default w ↦
          subst (λ (x : List (List ℕ)). LeavesUpto c.args.net.now (c.loop-leaf.leaf + 1) x) (sym w.index-is)
          (leaves-skip c.args.net.now c.loop-leaf.leaf c.loop-leaf.index (omega arith) c.level.result c.level.ensures c.loop-leaf.invariant w.in_default.is)
    ]

pub returns : goal.returns
returns c =
    let n = c.leaves-leaf-end.ensures.count in
    let le = c.loop-leaf-test.false in
    leaves-all c.args.net.now c.loop-leaf.leaf c.loop-leaf.index (omega arith) c.loop-leaf.invariant
