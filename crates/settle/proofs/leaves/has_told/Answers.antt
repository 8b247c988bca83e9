use Rattle.std.proofs.Common.{ap, ◌∙◌}
use Rattle.token_system.specs.declared.cell.Token.TheVariants.{On}
use Rattle.instant_net.specs.NamedLeaves.{named_entails}
use Rattle.instant_net.specs.Nets.{named_atoms}
use Rattle.instant_net.specs.Words.{store_in}
use Rattle.instant_net.proofs.NetParts.{tells_fit, atom_read}
use Rattle.instant_net.proofs.AskWalks.{left_next, left_fails, left_ends}
use Rattle.settle.proofs.leaves.has_told.Goals as goal

pub has-requires-clause-fits : goal.has-requires-clause-fits
has-requires-clause-fits c =
    atom_read c.args.net.now.cells _ c.tells-atom-items.result.now c.loop-atom.atom-index (record { cell = 0; token = On }) (tells_fit c.args.net.now c.tells-atom-items.ensures.net c.args.leaf) c.tells-atom-items.ensures.tells c.loop-atom-test.true

pub returns-then-not-has : goal.returns-then-not-has
returns-then-not-has c =
    left_fails c.args.net.now.cells (store_in c.args.net.now.cells c.args.words.now) c.tells-atom-items.result.now c.loop-atom.atom-index (record { cell = 0; token = On }) c.loop-atom.invariant c.loop-atom-test.true c.has.result c.has.ensures c.if-not-has.true
    ∙ ap (λ xs. named_entails (store_in c.args.net.now.cells c.args.words.now) (named_atoms c.args.net.now.cells xs)) c.tells-atom-items.ensures.tells

pub loop-atom-preserved : goal.loop-atom-preserved
loop-atom-preserved c =
    left_next c.args.net.now.cells (store_in c.args.net.now.cells c.args.words.now) c.tells-atom-items.result.now c.loop-atom.atom-index (record { cell = 0; token = On }) c.loop-atom.invariant c.loop-atom-test.true c.has.result c.has.ensures c.if-not-has.false

pub returns : goal.returns
returns c =
    left_ends c.args.net.now.cells (store_in c.args.net.now.cells c.args.words.now) c.tells-atom-items.result.now c.loop-atom.atom-index c.loop-atom.invariant c.loop-atom-test.false
    ∙ ap (λ xs. named_entails (store_in c.args.net.now.cells c.args.words.now) (named_atoms c.args.net.now.cells xs)) c.tells-atom-items.ensures.tells
