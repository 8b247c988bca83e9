use Rattle.std.proofs.Common.{◌&&◌, sym, ap, ◌∙◌, get_or}
use Rattle.std.specs.List.{list_all}
use Rattle.std.proofs.lemmas.List.{take_all}
use Rattle.std.proofs.lemmas.List.Folds.{list_all_at, list_all_more}
use Rattle.token_system.specs.declared.cell.Token.TheVariants.{On}
use Rattle.instant_net.specs.Seen.{is_settled}
use Rattle.instant_net.proofs.NetParts.{ask_fits, atom_read, cell_there}
use Rattle.instant_net.proofs.net.deciding.is_ask_settled.Goals as goal

pub is_settled-requires-clause-cell : goal.is_settled-requires-clause-cell
is_settled-requires-clause-cell c =
    cell_there c.args.net.now.cells _
    (atom_read c.args.net.now.cells _ c.ask-atom-items.result.now c.loop-atom.atom-index (record { cell = 0; token = On }) (ask_fits c.args.net.now c.ask-atom-items.ensures.net c.args.guard) c.ask-atom-items.ensures.ask c.loop-atom-test.true)

pub returns-then-not-is_settled : goal.returns-then-not-is_settled
returns-then-not-is_settled c =
    sym (list_all_at (is_settled c.args.net.now.cells c.args.seen.now) c.ask-atom-items.result.now c.loop-atom.atom-index (record { cell = 0; token = On }) c.loop-atom-test.true (sym c.is_settled.ensures ∙ c.if-not-is_settled.true))
    ∙ ap (list_all (is_settled c.args.net.now.cells c.args.seen.now)) c.ask-atom-items.ensures.ask

pub loop-atom-preserved : goal.loop-atom-preserved
loop-atom-preserved c =
    list_all_more (is_settled c.args.net.now.cells c.args.seen.now) c.ask-atom-items.result.now c.loop-atom.atom-index (record { cell = 0; token = On }) c.loop-atom-test.true
    ∙ ap (λ b. b && is_settled c.args.net.now.cells c.args.seen.now (get_or c.ask-atom-items.result.now c.loop-atom.atom-index (record { cell = 0; token = On }))) c.loop-atom.invariant
    ∙ sym c.is_settled.ensures ∙ c.if-not-is_settled.false

pub returns : goal.returns
returns c =
    sym c.loop-atom.invariant
    ∙ ap (list_all (is_settled c.args.net.now.cells c.args.seen.now)) (take_all c.loop-atom.atom-index c.ask-atom-items.result.now c.loop-atom-test.false ∙ c.ask-atom-items.ensures.ask)
