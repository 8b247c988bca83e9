use Rattle.settle.proofs.LeafPasses.{stratum-done}
use Rattle.settle.proofs.passes.settle_stratum.Goals as goal

pub loop-told-preserved : goal.loop-told-preserved
loop-told-preserved c = record {
  words = c.tell_due-told.ensures.words;
  way = λ input output strat out h. c.tell_due-told.ensures.way input output strat out (c.loop-told.invariant.way input output strat out h);
  calm = λ e. (c.tell_due-told.ensures.net, c.tell_due-told.ensures.at_rest e);
}

pub returns-clause-settled : goal.returns-clause-settled
returns-clause-settled c =
    let calm = c.loop-told.invariant.calm c.loop-told-test.false in
    stratum-done c.args.net.now c.args.stratum c.args.words.now c.loop-told.words calm.0 c.loop-told.invariant.way calm.1
