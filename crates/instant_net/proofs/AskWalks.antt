-- Whether a store entails the atoms of an ask, one after the other.
use Rattle.std.proofs.Common.{◌≡◌, ℕ, ◌+◌, ◌<◌, ◌≤◌, List, [], ◌∷◌, ◌++◌, length, get_or, drop, Bool, true, false, ◌&&◌, Option, Some, None, refl, sym, ap, ◌∙◌, add-one, drop-cons}
use Rattle.std.specs.Prelude.{slice_get}
use Rattle.std.proofs.lemmas.List.{drop_all}
use Rattle.token_system.specs.Stores.{StoreMap, value_at, store_entails}
use Rattle.token_system.specs.declared.cell.Value.{Value}
use Rattle.token_system.specs.Values.{value_entails, OfOneKind, IsValueOf}
use Rattle.token_system.proofs.Adding.{kinds_agree}
use Rattle.instant_net.specs.declared.parts.Atom.{Atom}
use Rattle.instant_net.specs.declared.parts.NetCell.{NetCell}
use Rattle.instant_net.specs.NamedLeaves.{named_entails}
use Rattle.instant_net.specs.Nets.{named_atoms, named_at, AtomFits}

-- one more token of the ask
pub entails_next : (cells : List NetCell) (u : StoreMap) (a : Atom) (atoms : List Atom) → named_entails u (named_atoms cells (a ∷ atoms)) ≡ (named_entails u (named_atoms cells (a ∷ [])) && named_entails u (named_atoms cells atoms))
entails_next cells u a atoms = go (slice_get cells a.cell)
  where
    both : (b c : Bool) → (b && c) ≡ ((b && true) && c)
    both true c = refl
    both false c = refl

    go : (o : Option NetCell) → named_entails u (named_at o a ++ named_atoms cells atoms) ≡ (named_entails u (named_at o a ++ []) && named_entails u (named_atoms cells atoms))
    go None = refl
    go (Some c) = both (store_entails u c.name c.cell a.token) (named_entails u (named_atoms cells atoms))

-- one token alone
pub entails_one : (cells : List NetCell) (u : StoreMap) (a : Atom) (f : AtomFits cells a) → named_entails u (named_atoms cells (a ∷ [])) ≡ value_entails (value_at u f.0.name f.0.cell) a.token
entails_one cells u a f = ap (λ o. named_entails u (named_at o a ++ [])) f.1 ∙ alone (store_entails u f.0.name f.0.cell a.token)
  where
    alone : (b : Bool) → (b && true) ≡ b
    alone true = refl
    alone false = refl

pub of_one_kind : (cells : List NetCell) (a : Atom) (v : Value) (f : AtomFits cells a) → IsValueOf f.0.cell v → OfOneKind v a.token
of_one_kind cells a v f is = kinds_agree f.0.cell.kind f.0.cell.lo f.0.cell.hi v a.token is.domain f.2

-- the answer for the whole is that for the atoms from place i on
abbrev pub IsLeft : List NetCell → StoreMap → List Atom → ℕ → Type 0
IsLeft cells u items i = named_entails u (named_atoms cells (drop i items)) ≡ named_entails u (named_atoms cells items)

module _ (cells : List NetCell) (u : StoreMap) (items : List Atom) (i : ℕ) (d : Atom) (left : IsLeft cells u items i) where
  here : i < length items → named_entails u (named_atoms cells items) ≡ (named_entails u (named_atoms cells (get_or items i d ∷ [])) && named_entails u (named_atoms cells (drop (i + 1) items)))
  here h =
      sym left
      ∙ ap (λ xs. named_entails u (named_atoms cells xs)) (drop-cons items i d h ∙ ap (λ n. get_or items i d ∷ drop n items) (sym (add-one i)))
      ∙ entails_next cells u (get_or items i d) (drop (i + 1) items)

  pub left_next : i < length items → (b : Bool) → b ≡ named_entails u (named_atoms cells (get_or items i d ∷ [])) → b ≡ true → IsLeft cells u items (i + 1)
  left_next h b e t = sym (here h ∙ ap (λ x. x && named_entails u (named_atoms cells (drop (i + 1) items))) (sym e ∙ t))

  pub left_fails : i < length items → (b : Bool) → b ≡ named_entails u (named_atoms cells (get_or items i d ∷ [])) → b ≡ false → false ≡ named_entails u (named_atoms cells items)
  left_fails h b e f = sym (here h ∙ ap (λ x. x && named_entails u (named_atoms cells (drop (i + 1) items))) (sym e ∙ f))

pub left_ends : (cells : List NetCell) (u : StoreMap) (items : List Atom) (i : ℕ) → IsLeft cells u items i → length items ≤ i → true ≡ named_entails u (named_atoms cells items)
left_ends cells u items i left h = ap (λ xs. named_entails u (named_atoms cells xs)) (sym (drop_all i items h)) ∙ left
