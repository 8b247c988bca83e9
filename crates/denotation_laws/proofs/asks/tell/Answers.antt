use Rattle.std.proofs.Common.{subst}
use Rattle.std.specs.Prelude.{◌≡◌, OnOk}
use Rattle.token_system.specs.Stores.{StoreMap}
use Rattle.agent_core.proofs.AskTests.{read-can_hold}
use Rattle.denotation_laws.proofs.Tellings.{read-told}
use Rattle.denotation_laws.proofs.asks.tell.Goals as goal

pub tell-requires : goal.tell-requires
tell-requires c =
    read-can_hold c.args.program.now c.args.births.now c.args.store.now c.args.cell c.args.token c.requires.store c.requires.fits c.in_ok-name.name c.in_ok-name.ensures
    c.cells.result.now c.cells.ensures.all c.index-cells-cell.result c.index-cells-cell.is

pub returns : goal.returns
returns c =
    subst (λ (x : StoreMap). OnOk c.tell.result (c.tell.new.self ≡ x))
    (read-told c.args.program.now c.args.births.now c.args.store.now c.args.cell c.args.token c.requires.fits c.in_ok-name.name c.in_ok-name.ensures
    c.cells.result.now c.cells.ensures.all c.index-cells-cell.result c.index-cells-cell.is)
    c.tell.ensures.ok
