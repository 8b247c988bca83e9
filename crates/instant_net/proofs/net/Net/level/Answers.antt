use Rattle.std.proofs.Common.{sym, ap, ◌∙◌, Some}
use Rattle.token_system.specs.declared.cell.Token.TheVariants.{On}
use Rattle.instant_net.specs.Readers.{least_stratum, lesser}
use Rattle.instant_net.proofs.NetParts.{tells_fit, atom_read, cell_there, least_more, least_all}
use Rattle.instant_net.proofs.net.Net.level.Goals as goal

pub stratum-requires : goal.stratum-requires
stratum-requires c =
    cell_there c.args.self.now.cells _
    (atom_read c.args.self.now.cells _ c.tells-atom-items.result.now c.loop-atom.atom-index (record { cell = 0; token = On }) (tells_fit c.args.self.now c.tells-atom-items.ensures.net c.args.leaf) c.tells-atom-items.ensures.tells c.loop-atom-test.true)

pub loop-atom-preserved : goal.loop-atom-preserved
loop-atom-preserved c =
    ap Some (c.lesser.ensures ∙ ap (λ n. lesser n c.loop-atom.least) c.stratum.ensures ∙ ap (lesser _) c.loop-atom.invariant)
    ∙ sym (least_more c.args.self.now.cells c.tells-atom-items.result.now c.loop-atom.atom-index (record { cell = 0; token = On }) c.loop-atom-test.true)

pub returns : goal.returns
returns c =
    c.loop-atom.invariant ∙ least_all c.args.self.now.cells c.tells-atom-items.result.now c.loop-atom.atom-index c.loop-atom-test.false ∙ ap (least_stratum c.args.self.now.cells) c.tells-atom-items.ensures.tells
