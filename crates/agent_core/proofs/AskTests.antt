-- The test of a constraint, token by token.
use Rattle.std.proofs.Common.{◌≡◌, ℕ, ◌+◌, ◌<◌, ◌≤◌, Bool, true, false, ◌&&◌, List, length, drop, get_or, sym, ap, ◌∙◌, subst}
use Rattle.std.specs.Prelude.{Option}
use Rattle.std.proofs.lemmas.List.{drop_more, drop_all}
use Rattle.std.proofs.lemmas.Option.{get_or_from_slice_get}
use Rattle.token_system.specs.declared.cell.Token.{Token}
use Rattle.token_system.specs.declared.name.CellName.{CellName}
use Rattle.token_system.specs.Tokens.{Fits}
use Rattle.token_system.specs.Stores.{StoreMap, value_at, store_entails, CanHold}
use Rattle.token_system.proofs.Adding.{kinds_agree}
use Rattle.agent_core.specs.declared.node.CellDecl.{CellDecl}
use Rattle.agent_core.specs.Programs.{CoreProgram}
use Rattle.agent_core.specs.Agents.{Constraint}
use Rattle.agent_core.specs.Names.{Names, name_of}
use Rattle.agent_core.specs.Stores.{IsStore}
use Rattle.agent_core.specs.Scope.{TokenFits, ConstraintFits}
use Rattle.agent_core.specs.Rests.{holds_at, holds, entails}
use Rattle.agent_core.proofs.OneStore.{value_at-fits}

-- a store of a program can hold each token that fits
pub can_hold : (p : CoreProgram) (u : StoreMap) (n : CellName) (d : CellDecl) (t : Token) → IsStore p u → Names p n d → Fits d.cell t → CanHold u n d.cell t
can_hold p u n d t is named fits =
    let value = value_at-fits p u n d is named in
    record { fits = fits; kind = kinds_agree d.cell.kind d.cell.lo d.cell.hi (value_at u n d.cell) t value.0 fits }

-- where a cell's name and declaration were read
module _ (p : CoreProgram) (b : List ℕ) (u : StoreMap) (cell : ℕ) (t : Token) (is : IsStore p u) (f : TokenFits p b (cell, t)) (n : CellName) (named : n ≡ name_of p b cell)
    (all : List CellDecl) (same : all ≡ p.cells) (d : CellDecl) (read : d ≡ get_or all cell d) where
  decl_is : d ≡ f.decl
  decl_is = read ∙ ap (λ (xs : List CellDecl). get_or xs cell d) same ∙ get_or_from_slice_get p.cells cell f.decl d f.found

  pub read-can_hold : CanHold u n d.cell t
  read-can_hold =
      subst (λ (m : CellName). CanHold u m d.cell t) (sym named)
      (subst (λ (x : CellDecl). CanHold u (name_of p b cell) x.cell t) (sym decl_is) (can_hold p u (name_of p b cell) f.decl t is f.named f.fits))

  pub read-holds : store_entails u n d.cell t ≡ holds p b u (cell, t)
  read-holds =
      ap (λ (m : CellName). store_entails u m d.cell t) named
      ∙ ap (λ (x : CellDecl). store_entails u (name_of p b cell) x.cell t) decl_is
      ∙ ap (λ (o : Option CellDecl). holds_at o p b u cell t) (sym f.found)

-- what is left of the tokens decides the test of all
pub record IsLeft (p : CoreProgram) (b : List ℕ) (u : StoreMap) (items : Constraint) (i : ℕ) : Type 0 where
  pub same : entails p b u (drop i items) ≡ entails p b u items
  pub fits : ConstraintFits p b (drop i items)

module _ (p : CoreProgram) (b : List ℕ) (u : StoreMap) (items : Constraint) (i : ℕ) (left : IsLeft p b u items i) where
  first_fits : (pair : ℕ × Token) → i < length items → TokenFits p b (get_or items i pair) × ConstraintFits p b (drop (i + 1) items)
  first_fits pair lt = subst (ConstraintFits p b) (drop_more items i pair lt) left.fits

  first_tested : (pair : ℕ × Token) → i < length items → holds p b u (get_or items i pair) && entails p b u (drop (i + 1) items) ≡ entails p b u items
  first_tested pair lt = ap (entails p b u) (sym (drop_more items i pair lt)) ∙ left.same

  pub next_fits : (pair : ℕ × Token) → i < length items → TokenFits p b (get_or items i pair)
  next_fits pair lt = (first_fits pair lt).0

  pub IsLeft-next : (pair : ℕ × Token) → i < length items → (r : Bool) → r ≡ holds p b u (get_or items i pair) → r ≡ true → IsLeft p b u items (i + 1)
  IsLeft-next pair lt r e h = record {
    same = ap (λ (x : Bool). x && entails p b u (drop (i + 1) items)) (sym h ∙ e) ∙ first_tested pair lt;
    fits = (first_fits pair lt).1;
  }

  pub one_fails : (pair : ℕ × Token) → i < length items → (r : Bool) → r ≡ holds p b u (get_or items i pair) → r ≡ false → (c : Constraint) → items ≡ c → false ≡ entails p b u c
  one_fails pair lt r e h c same = ap (λ (x : Bool). x && entails p b u (drop (i + 1) items)) (sym h ∙ e) ∙ first_tested pair lt ∙ ap (entails p b u) same

  pub all_hold : length items ≤ i → (c : Constraint) → items ≡ c → true ≡ entails p b u c
  all_hold le c same = ap (entails p b u) (sym (drop_all i items le)) ∙ left.same ∙ ap (entails p b u) same
