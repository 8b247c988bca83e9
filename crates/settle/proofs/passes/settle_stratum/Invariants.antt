use Rattle.std.proofs.Common.{◌≡◌, ◌+◌, false, cond, All}
use Rattle.instant_net.specs.Opened.{IsNet}
use Rattle.instant_net.specs.Words.{store_in, AreWords}
use Rattle.settle.specs.Ways.{untold, Advances, is_leaf_due}
use Rattle.settle.proofs.passes.settle_stratum.Given as goal

abbrev pub invariant-loop-told : goal.invariant-loop-told
invariant-loop-told l = record {
  words : AreWords l.net.cells l.words;
  way : Advances l.net l.stratum l.stratum l.fn.words l.words;
  calm : l.told ≡ false → IsNet l.net × All (λ x. is_leaf_due l.net l.stratum (store_in l.net.cells l.words) x ≡ false) l.net.leaves;
}

abbrev pub decreases-loop-told : goal.decreases-loop-told
decreases-loop-told l = untold l.net (store_in l.net.cells l.words) l.net.leaves + cond l.told 1 0
