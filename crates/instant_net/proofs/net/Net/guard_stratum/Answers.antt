use Rattle.std.proofs.Common.{sym, ap, ◌∙◌}
use Rattle.std.specs.Prelude.{max}
use Rattle.token_system.specs.declared.cell.Token.TheVariants.{On}
use Rattle.instant_net.specs.Readers.{greatest_stratum}
use Rattle.instant_net.proofs.NetParts.{ask_fits, atom_read, cell_there, greatest_more, greatest_all}
use Rattle.instant_net.proofs.net.Net.guard_stratum.Goals as goal

pub stratum-requires : goal.stratum-requires
stratum-requires c =
    cell_there c.args.self.now.cells _
    (atom_read c.args.self.now.cells _ c.ask-atom-items.result.now c.loop-atom.atom-index (record { cell = 0; token = On }) (ask_fits c.args.self.now c.ask-atom-items.ensures.net c.args.guard) c.ask-atom-items.ensures.ask c.loop-atom-test.true)

pub loop-atom-preserved : goal.loop-atom-preserved
loop-atom-preserved c =
    c.max-greatest.ensures ∙ ap (λ n. max n c.loop-atom.greatest) c.stratum.ensures ∙ ap (max _) c.loop-atom.invariant
    ∙ sym (greatest_more c.args.self.now.cells c.ask-atom-items.result.now c.loop-atom.atom-index (record { cell = 0; token = On }) c.loop-atom-test.true)

pub returns : goal.returns
returns c =
    c.loop-atom.invariant ∙ greatest_all c.args.self.now.cells c.ask-atom-items.result.now c.loop-atom.atom-index c.loop-atom-test.false ∙ ap (greatest_stratum c.args.self.now.cells) c.ask-atom-items.ensures.ask
