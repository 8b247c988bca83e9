-- Telling a constraint, token by token.
use Rattle.std.proofs.Common.{◌≡◌, ℕ, ◌+◌, ◌<◌, ◌≤◌, List, length, drop, get_or, sym, ap, ◌∙◌, subst}
use Rattle.std.specs.Prelude.{Option, slice_get}
use Rattle.std.proofs.lemmas.List.{drop_more, drop_all}
use Rattle.std.proofs.lemmas.Option.{get_or_from_slice_get}
use Rattle.token_system.specs.declared.cell.Token.{Token}
use Rattle.token_system.specs.declared.name.CellName.{CellName}
use Rattle.token_system.specs.Stores.{StoreMap, after_tell}
use Rattle.agent_core.specs.declared.node.CellDecl.{CellDecl}
use Rattle.agent_core.specs.Programs.{CoreProgram}
use Rattle.agent_core.specs.Agents.{Constraint}
use Rattle.agent_core.specs.Names.{name_of}
use Rattle.agent_core.specs.Stores.{IsStore}
use Rattle.agent_core.specs.Scope.{TokenFits, ConstraintFits}
use Rattle.agent_core.specs.Tellings.{tell_at, tell_all}
use Rattle.agent_core.proofs.Tellings.{tells_one}

-- where a cell's name and declaration were read, what is after_tell of them is after_tell of the cell
pub read-told : (p : CoreProgram) (b : List ℕ) (u : StoreMap) (cell : ℕ) (t : Token) → TokenFits p b (cell, t) → (n : CellName) → n ≡ name_of p b cell
    → (all : List CellDecl) → all ≡ p.cells → (d : CellDecl) → d ≡ get_or all cell d → after_tell u n d.cell t ≡ tell_at (slice_get p.cells cell) p b u cell t
read-told p b u cell t f n named all same d read =
    let is : d ≡ f.decl = read ∙ ap (λ (xs : List CellDecl). get_or xs cell d) same ∙ get_or_from_slice_get p.cells cell f.decl d f.found in
    ap (λ (m : CellName). after_tell u m d.cell t) named
    ∙ ap (λ (x : CellDecl). after_tell u (name_of p b cell) x.cell t) is
    ∙ ap (λ (o : Option CellDecl). tell_at o p b u cell t) (sym f.found)

-- what is left of the tokens is still to be after_tell, from w on
pub record IsLeftToTell (p : CoreProgram) (b : List ℕ) (items : Constraint) (u : StoreMap) (i : ℕ) (w : StoreMap) : Type 0 where
  pub same : tell_all p b (drop i items) w ≡ tell_all p b items u
  pub fits : ConstraintFits p b (drop i items)
  pub store : IsStore p w

module _ (p : CoreProgram) (b : List ℕ) (items : Constraint) (u : StoreMap) (i : ℕ) (w : StoreMap) (left : IsLeftToTell p b items u i w) where
  first_fits : (pair : ℕ × Token) → i < length items → TokenFits p b (get_or items i pair) × ConstraintFits p b (drop (i + 1) items)
  first_fits pair lt = subst (ConstraintFits p b) (drop_more items i pair lt) left.fits

  pub token_fits : (pair : ℕ × Token) → i < length items → TokenFits p b (get_or items i pair)
  token_fits pair lt = (first_fits pair lt).0

  pub token-told : (pair : ℕ × Token) → i < length items → (x : StoreMap) → x ≡ tell_at (slice_get p.cells (get_or items i pair).0) p b w (get_or items i pair).0 (get_or items i pair).1
      → IsLeftToTell p b items u (i + 1) x
  token-told pair lt x e = record {
    same = ap (λ (y : StoreMap). tell_all p b (drop (i + 1) items) y) e ∙ ap (λ (xs : Constraint). tell_all p b xs w) (sym (drop_more items i pair lt)) ∙ left.same;
    fits = (first_fits pair lt).1;
    store = subst (IsStore p) (sym e) (tells_one p b w (get_or items i pair) left.store (first_fits pair lt).0).store;
  }

  pub all-told : length items ≤ i → (c : Constraint) → items ≡ c → w ≡ tell_all p b c u
  all-told le c same = ap (λ (xs : Constraint). tell_all p b xs w) (sym (drop_all i items le)) ∙ left.same ∙ ap (λ (xs : Constraint). tell_all p b xs u) same
