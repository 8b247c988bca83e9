use Rattle.std.proofs.Common.{◌≡◌, Some, sym, subst}
use Rattle.std.specs.Prelude.{slice_get}
use Rattle.token_system.specs.declared.cell.Kind.TheVariants.{Signal}
use Rattle.token_system.specs.declared.name.CellName.{CellName}
use Rattle.agent_core.specs.declared.node.CellDecl.{CellDecl}
use Rattle.agent_core.specs.Names.{Names}
use Rattle.agent_core.proofs.tests.local_on.Goals as goal

pub only_on-requires : goal.only_on-requires
only_on-requires c =
    subst (λ (n : CellName). (d : CellDecl) × Names c.args.program.now n d × (slice_get c.args.program.now.cells 0 ≡ Some d) × (d.cell.kind ≡ Signal))
    (sym c.in_ok-made_at.ensures) (c.requires c.args.birth)
