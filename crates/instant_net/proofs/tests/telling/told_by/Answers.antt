use Rattle.token_system.specs.declared.cell.Token.TheVariants.{On}
use Rattle.instant_net.proofs.NetParts.{tells_fit, atom_read}
use Rattle.instant_net.proofs.tests.telling.told_by.Goals as goal

pub told-requires : goal.told-requires
told-requires c =
    atom_read c.args.net.now.cells _ c.tells-atom-items.result.now c.loop-atom.atom-index (record { cell = 0; token = On }) (tells_fit c.args.net.now c.tells-atom-items.ensures.net c.args.leaf) c.tells-atom-items.ensures.tells c.loop-atom-test.true
