use Rattle.std.proofs.Common.{arith}
use Rattle.instant_net.specs.Words.{store_in}
use Rattle.net_laws.proofs.Settling.{end-on_way}
use Rattle.settle.proofs.passes.settle.Goals as goal

pub loop-stratum-preserved : goal.loop-stratum-preserved
loop-stratum-preserved c = record {
  words = c.settle_stratum.ensures.words;
  way = λ input output strat out h. c.settle_stratum.ensures.settled input output strat out (c.loop-stratum.invariant.way input output strat out h);
}

pub returns-clause-settled : goal.returns-clause-settled
returns-clause-settled c input output strat out h =
    end-on_way c.args.net.now c.strata-stratum-end.ensures.net strat input output out c.loop-stratum.stratum (store_in c.args.net.now.cells c.loop-stratum.words)
    (let n = c.strata-stratum-end.ensures.count in let le = c.loop-stratum-test.false in omega arith) (c.loop-stratum.invariant.way input output strat out h)
