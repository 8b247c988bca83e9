use Rattle.std.proofs.Common.{true, false, refl}
use Rattle.std.specs.FinMap.{get-empty, get-insert}
use Rattle.token_system.specs.declared.cell.Value.{Value}
use Rattle.token_system.specs.Names.{name_cmp, name_total}
use Rattle.agent_core.proofs.laws.worked_law.Goals as goal

pub returns-clause-within : goal.returns-clause-within
returns-clause-within c = record {
  without = simp (get-empty {X = Value} name_cmp) (refl {a = false});
  guessed = simp (get-insert {X = Value} name_total, get-empty {X = Value} name_cmp) (refl {a = true});
  told = simp (get-insert {X = Value} name_total) (refl {a = true});
}

pub returns-clause-later : goal.returns-clause-later
returns-clause-later c = record {
  before = simp (get-empty {X = Value} name_cmp) (refl {a = false});
  after = simp (get-insert {X = Value} name_total, get-empty {X = Value} name_cmp) (refl {a = true});
}
