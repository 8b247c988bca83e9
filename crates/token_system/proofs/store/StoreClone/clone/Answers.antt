use Rattle.std.proofs.Common.{◌≡◌, ap, ◌∙◌}
use Rattle.token_system.specs.declared.name.CellName.{CellName}
use Rattle.token_system.specs.declared.name.CellName.TheVariants.{Declared, Local}
use Rattle.token_system.specs.contracts.name.CellNameClone.TheImpl as copied
use Rattle.token_system.proofs.KeptEntries.{entries-copied}
use Rattle.token_system.proofs.store.StoreClone.clone.Goals as goal

-- a name's copy is that name
same_name : (m n : CellName) → copied.ghosts.is_clone m n → n ≡ m
same_name (Declared a) (Declared b) h = ap Declared h
same_name (Local a x) (Local b y) h = ap (λ n. Local n y) h.0 ∙ ap (Local a) h.1
same_name (Declared a) (Local b y) h = absurd h
same_name (Local a x) (Declared b) h = absurd h

pub invariant_of-result : goal.invariant_of-result
invariant_of-result c = entries-copied _ c.self.inside.entries.items c.in_ok-clone.field-0.items c.in_ok-clone.ensures.cases.0 (λ d e h. (same_name d.0 e.0 h.0, h.1)) c.self.invariant
