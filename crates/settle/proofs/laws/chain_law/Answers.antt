use Rattle.std.proofs.Common.{refl}
use Rattle.std.specs.FinMap.{get-empty, get-insert}
use Rattle.token_system.specs.declared.cell.Value.{Value}
use Rattle.token_system.specs.Names.{name_cmp, name_total}
use Rattle.settle.proofs.laws.chain_law.Goals as goal

pub returns : goal.returns
returns c = simp (get-insert {X = Value} name_total, get-empty {X = Value} name_cmp) (refl {a = 6})
