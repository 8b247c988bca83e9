-- The names that a store keeps stay of one sort where tokens of such names are told.
use Rattle.std.proofs.Common.{◌≡◌, ℕ, Bool, true, false, cond, [], ◌∷◌, Option, Some, None, refl, sym, ap, ◌∙◌, subst}
use Rattle.std.specs.Prelude.{slice_get}
use Rattle.std.specs.FinMap.{get, empty, insert, get-empty, get-insert}
use Rattle.std.specs.Ordering.{eq_by_cmp}
use Rattle.token_system.specs.declared.cell.Cell.{Cell}
use Rattle.token_system.specs.declared.cell.Token.{Token}
use Rattle.token_system.specs.declared.cell.Value.{Value}
use Rattle.token_system.specs.declared.name.CellName.{CellName}
use Rattle.token_system.specs.declared.name.CellName.TheVariants.{Declared}
use Rattle.token_system.specs.Names.{name_cmp, name_total}
use Rattle.token_system.specs.Stores.{StoreMap, value_at, after_tell}
use Rattle.token_system.specs.Values.{value_eq, value_with, bottom_of}
use Rattle.token_system.proofs.Telling.{equal_names}
use Rattle.agent_core.specs.declared.node.CellDecl.{CellDecl}
use Rattle.agent_core.specs.Agents.{Constraint}
use Rattle.agent_core.specs.Programs.{CoreProgram}
use Rattle.agent_core.specs.Scope.{ConstraintFits}
use Rattle.agent_core.specs.Tellings.{tell_at, tell_all}
use Rattle.trace_text.proofs.DeclaredTokens.{in_scope}

-- each name that the store keeps is of this sort
abbrev pub KeepsOnly : (CellName → Type 0) → StoreMap → Type 0
KeepsOnly Sort s = (n : CellName) (v : Value) → get s n ≡ Some v → Sort n

module _ (Sort : CellName → Type 0) where
  pub only-empty : KeepsOnly Sort empty
  only-empty n v e = absurd (let h : None ≡ Some v = sym (get-empty name_cmp n) ∙ e in cc)

  pub only-insert : (s : StoreMap) (m : CellName) (v : Value) → Sort m → KeepsOnly Sort s → KeepsOnly Sort (insert s m v)
  only-insert s m v own only n w e = go (eq_by_cmp name_cmp n m) refl
    where
      go : (b : Bool) → eq_by_cmp name_cmp n m ≡ b → Sort n
      go true t = subst Sort (sym (equal_names n m t)) own
      go false t = only n w (sym (get-insert name_total s m v n ∙ ap (λ b. cond b (Some v) (get s n)) t) ∙ e)

  pub only-told : (s : StoreMap) (m : CellName) (c : Cell) (t : Token) → Sort m → KeepsOnly Sort s → KeepsOnly Sort (after_tell s m c t)
  only-told s m c t own only = go (value_eq (value_with (value_at s m c) t) (bottom_of c))
    where
      go : (b : Bool) → KeepsOnly Sort (cond b s (insert s m (value_with (value_at s m c) t)))
      go true = only
      go false = only-insert s m (value_with (value_at s m c) t) own only

  pub only-declared : (p : CoreProgram) → ((k : ℕ) → Sort (Declared k)) → (ask : Constraint) (s : StoreMap) → ConstraintFits p [] ask → KeepsOnly Sort s → KeepsOnly Sort (tell_all p [] ask s)
  only-declared p own [] s fits only = only
  only-declared p own (pair ∷ ask) s fits only = only-declared p own ask (tell_at (slice_get p.cells pair.0) p [] s pair.0 pair.1) fits.1 (go (slice_get p.cells pair.0))
    where
      go : (o : Option CellDecl) → KeepsOnly Sort (tell_at o p [] s pair.0 pair.1)
      go None = only
      go (Some d) = subst (λ (n : CellName). KeepsOnly Sort (after_tell s n d.cell pair.1)) (sym (in_scope p pair fits.0)) (only-told s (Declared pair.0) d.cell pair.1 (own pair.0) only)
