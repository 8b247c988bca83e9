use Rattle.std.proofs.Common.{◌≡◌, ◌+◌, Bool, cond, sym, ap, ◌∙◌, arith}
use Rattle.token_system.specs.Stores.{StoreMap}
use Rattle.instant_net.specs.declared.parts.NetLeaf.{NetLeaf}
use Rattle.instant_net.specs.NamedLeaves.{runs_named}
use Rattle.instant_net.specs.Nets.{named_leaf}
use Rattle.instant_net.specs.Words.{store_in}
use Rattle.residuals.proofs.Passing.{passed-more, passed-all}
use Rattle.residuals.proofs.RanLeaves.{net-ran}
use Rattle.residuals.proofs.counting.ran.Goals as goal
use Rattle.residuals.proofs.counting.ran.Goals.{then-runs, else-runs}

pub loop-leaf-preserved : goal.loop-leaf-preserved
loop-leaf-preserved c =
    let net = c.args.net.now in
    let w : StoreMap = store_in c.args.net.now.cells c.args.words.now in
    let ran : c.if-runs.ran ≡ c.loop-leaf.ran + cond c.runs.result 1 0 =
    elim c.if-runs.branch [
      | then-runs v ↦ v.ran-is ∙ ap (λ (b : Bool). c.loop-leaf.ran + cond b 1 0) (sym v.if-runs.true)
      | else-runs v ↦ v.ran-is ∙ (let same : c.loop-leaf.ran ≡ c.loop-leaf.ran + 0 = omega arith in same) ∙ ap (λ (b : Bool). c.loop-leaf.ran + cond b 1 0) (sym v.if-runs.false)
    ] in
    passed-more (λ (x : NetLeaf). runs_named w (named_leaf net x)) net.leaves c.loop-leaf.leaf c.loop-leaf.ran c.if-runs.ran c.runs.result (omega arith) c.runs.ensures ran c.loop-leaf.invariant

pub returns-clause-counts : goal.returns-clause-counts
returns-clause-counts c = λ p table rs t of.
    let net = c.args.net.now in
    let w : StoreMap = store_in c.args.net.now.cells c.args.words.now in
    passed-all (λ (x : NetLeaf). runs_named w (named_leaf net x)) net.leaves c.loop-leaf.leaf c.loop-leaf.ran (omega arith) c.loop-leaf.invariant ∙ net-ran p table rs t net of w
