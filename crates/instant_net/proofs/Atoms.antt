-- The atoms of a constraint, by the places of cells among those of a net.
use Rattle.std.proofs.Common.{◌≡◌, ℕ, ◌+◌, ◌<◌, ◌≤◌, List, [], ◌∷◌, ◌++◌, length, take, drop, get_or, Result, Ok, Err, IfOk, refl, sym, ap, ◌∙◌, subst}
use Rattle.std.specs.Prelude.{Option, All, slice_get}
use Rattle.std.proofs.lemmas.List.{append_assoc, take_more, take_all, drop_more}
use Rattle.std.proofs.lemmas.List.Elements.{All-contains, All-push, All-nil}
use Rattle.token_system.specs.declared.cell.Cell.{Cell}
use Rattle.token_system.specs.declared.cell.Token.{Token}
use Rattle.token_system.specs.declared.name.CellName.{CellName}
use Rattle.token_system.specs.Tokens.{Fits}
use Rattle.agent_core.specs.declared.node.CellDecl.{CellDecl}
use Rattle.agent_core.specs.Agents.{Constraint}
use Rattle.agent_core.specs.Programs.{CoreProgram}
use Rattle.agent_core.specs.Names.{Names, name_of}
use Rattle.agent_core.specs.Scope.{TokenFits, ConstraintFits}
use Rattle.agent_core.proofs.OneStore.{Names-one}
use Rattle.instant_net.specs.declared.parts.Atom.{Atom}
use Rattle.instant_net.specs.declared.parts.NetCell.{NetCell}
use Rattle.instant_net.specs.Nets.{AtomFits, named_at, named_atoms}
use Rattle.instant_net.specs.Programs.{token_named, constraint_named}
use Rattle.instant_net.specs.Walks.{IsCellOfName, IsPlaceOfName, IsAtomOf, AreAtomsOf}
use Rattle.instant_net.proofs.Lists.{same-elements}

-- what holds of the value of an answer
pub if_ok : {X E : Type 0} (P Q : X → Type 0) (r : Result X E) → ((x : X) → P x → Q x) → IfOk r P → IfOk r Q
if_ok P Q (Ok x) f h = f x h
if_ok P Q (Err e) f h = tt

pub if_both : {X E : Type 0} (P Q R : X → Type 0) (r : Result X E) → ((x : X) → P x → Q x → R x) → IfOk r P → IfOk r Q → IfOk r R
if_both P Q R (Ok x) f h g = f x h g
if_both P Q R (Err e) f h g = tt

module _ (p : CoreProgram) (cells : List NetCell) (b : List ℕ) where
  -- the token at the place that was found for its name
  pub atom-at : All (IsCellOfName p) cells → (x : ℕ × Token) → TokenFits p b x → (n : CellName) → n ≡ name_of p b x.0 → (place : ℕ) → IsPlaceOfName cells n place → IsAtomOf p cells b x (record { cell = place; token = x.1 })
  atom-at each x f n is place at =
      let found : IsCellOfName p at.found = All-contains (IsCellOfName p) cells at.found each (same-elements cells at.found place at.stands) in
      let called : at.found.name ≡ name_of p b x.0 = at.named ∙ is in
      let decl : found.decl ≡ f.decl = Names-one p (name_of p b x.0) found.decl f.decl (subst (λ (q : CellName). Names p q found.decl) called found.named) f.named in
      let cell : at.found.cell ≡ f.decl.cell = found.cell ∙ ap (λ (d : CellDecl). d.cell) decl in
      record {
        same =
            ap (λ (o : Option NetCell). named_at o (record { cell = place; token = x.1 })) at.stands
            ∙ ap (λ (q : CellName). record { name = q; cell = at.found.cell; token = x.1 } ∷ []) called
            ∙ ap (λ (c : Cell). record { name = name_of p b x.0; cell = c; token = x.1 } ∷ []) cell
            ∙ ap (λ (o : Option CellDecl). token_named p b x.0 x.1 o) (sym f.found);
        fits = (at.found, at.stands, subst (λ (c : Cell). Fits c x.1) (sym cell) f.fits);
      }

  named-append : (xs ys : List Atom) → named_atoms cells (xs ++ ys) ≡ named_atoms cells xs ++ named_atoms cells ys
  named-append [] ys = refl
  named-append (x ∷ xs) ys = ap (λ zs. named_at (slice_get cells x.cell) x ++ zs) (named-append xs ys) ∙ sym (append_assoc (named_at (slice_get cells x.cell) x) (named_atoms cells xs) (named_atoms cells ys))

  ask_named-append : (xs ys : Constraint) → constraint_named p b (xs ++ ys) ≡ constraint_named p b xs ++ constraint_named p b ys
  ask_named-append [] ys = refl
  ask_named-append (x ∷ xs) ys =
      ap (λ zs. token_named p b x.0 x.1 (slice_get p.cells x.0) ++ zs) (ask_named-append xs ys)
      ∙ sym (append_assoc (token_named p b x.0 x.1 (slice_get p.cells x.0)) (constraint_named p b xs) (constraint_named p b ys))

  pub atoms-none : (items : Constraint) (atoms : List Atom) → atoms ≡ [] → AreAtomsOf p cells b (take 0 items) atoms
  atoms-none items atoms e = record { same = ap (named_atoms cells) e; fit = subst (All (AtomFits cells)) (sym e) (All-nil (AtomFits cells)) }

  pub atoms-next : (items : Constraint) (i : ℕ) (x : ℕ × Token) (atoms atoms' : List Atom) (a : Atom) → i < length items → AreAtomsOf p cells b (take i items) atoms → IsAtomOf p cells b (get_or items i x) a → atoms' ≡ atoms ++ a ∷ []
      → AreAtomsOf p cells b (take (i + 1) items) atoms'
  atoms-next items i x atoms atoms' a lt h one e =
      let y : ℕ × Token = get_or items i x in
      record {
        same =
            ap (named_atoms cells) e ∙ named-append atoms (a ∷ [])
            ∙ ap (λ zs. zs ++ (named_at (slice_get cells a.cell) a ++ [])) h.same
            ∙ ap (λ zs. constraint_named p b (take i items) ++ (zs ++ [])) one.same
            ∙ sym (ask_named-append (take i items) (y ∷ []))
            ∙ ap (constraint_named p b) (sym (take_more items i x lt));
        fit = subst (All (AtomFits cells)) (sym e) (All-push (AtomFits cells) atoms a h.fit one.fits);
      }

  pub atoms-all : (items ask : Constraint) (i : ℕ) (atoms : List Atom) → length items ≤ i → items ≡ ask → AreAtomsOf p cells b (take i items) atoms → AreAtomsOf p cells b ask atoms
  atoms-all items ask i atoms le e h = subst (λ (xs : Constraint). AreAtomsOf p cells b xs atoms) (take_all i items le ∙ e) h

-- the tokens from one on fit
pub next-fits : (p : CoreProgram) (b : List ℕ) (items : Constraint) (i : ℕ) (x : ℕ × Token) → i < length items → ConstraintFits p b (drop i items) → TokenFits p b (get_or items i x) × ConstraintFits p b (drop (i + 1) items)
next-fits p b items i x lt h = subst (ConstraintFits p b) (drop_more items i x lt) h
