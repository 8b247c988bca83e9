-- What stores entail goes up with them, and a constraint that is told gives the least store above that entails it.
use Rattle.std.proofs.Common.{◌≡◌, ℕ, List, [], ◌∷◌, Some, None, refl, sym, ap, ◌∙◌, subst}
use Rattle.std.specs.Prelude.{Option, IsTrue, slice_get, unwrap_or}
use Rattle.token_system.specs.declared.cell.Token.{Token}
use Rattle.std.specs.FinMap.{empty, get-empty}
use Rattle.token_system.specs.declared.cell.Value.{Value}
use Rattle.token_system.specs.Names.{name_cmp}
use Rattle.token_system.specs.Values.{bottom_of, value_entails}
use Rattle.token_system.specs.Stores.{StoreMap, value_at}
use Rattle.agent_core.specs.declared.node.CellDecl.{CellDecl}
use Rattle.agent_core.specs.Programs.{CoreProgram}
use Rattle.agent_core.specs.Agents.{Constraint}
use Rattle.agent_core.specs.Names.{name_of}
use Rattle.agent_core.specs.Stores.{IsStore, Below}
use Rattle.agent_core.specs.Scope.{TokenFits, ConstraintFits}
use Rattle.agent_core.specs.Rests.{holds_at, holds, entails}
use Rattle.agent_core.specs.Tellings.{tell_at, tell_all}
use Rattle.agent_core.proofs.OneStore.{value_at-fits}
use Rattle.token_system.proofs.Adding.{bottom_covered}
use Rattle.agent_core.proofs.Told.{Tells, told-Tells}
use Rattle.agent_core.proofs.Bools.{both, first_of_both, second_of_both}

-- the store of which nothing is told
pub empty-IsStore : (p : CoreProgram) → IsStore p empty
empty-IsStore p n v e = let f : None ≡ Some v = sym (get-empty name_cmp n) ∙ e in absurd (cc)

-- it is below every store
pub empty-Below : (p : CoreProgram) (v : StoreMap) → IsStore p v → Below p empty v
empty-Below p v is n d t named f h =
    let value = value_at-fits p v n d is named in
    let at_bottom : value_at empty n d.cell ≡ bottom_of d.cell = ap (λ o. unwrap_or o (bottom_of d.cell)) (get-empty name_cmp n) in
    bottom_covered d.cell.kind d.cell.lo d.cell.hi (value_at v n d.cell) value.0 t f (subst (λ (x : Value). IsTrue (value_entails x t)) at_bottom h)

pub Below-refl : (p : CoreProgram) (u : StoreMap) → Below p u u
Below-refl p u n d t named f h = h

pub Below-trans : (p : CoreProgram) (u v w : StoreMap) → Below p u v → Below p v w → Below p u w
Below-trans p u v w a b n d t named f h = b n d t named f (a n d t named f h)

-- a store that is above entails what one below it does
pub holds-above : (p : CoreProgram) (b : List ℕ) (u v : StoreMap) (pair : ℕ × Token) → TokenFits p b pair → Below p u v → IsTrue (holds p b u pair) → IsTrue (holds p b v pair)
holds-above p b u v pair f below h =
    subst (λ (o : Option CellDecl). IsTrue (holds_at o p b v pair.0 pair.1)) (sym f.found)
    (below (name_of p b pair.0) f.decl pair.1 f.named f.fits (subst (λ (o : Option CellDecl). IsTrue (holds_at o p b u pair.0 pair.1)) f.found h))

pub entails-above : (p : CoreProgram) (b : List ℕ) (u v : StoreMap) (ask : Constraint) → ConstraintFits p b ask → Below p u v → IsTrue (entails p b u ask) → IsTrue (entails p b v ask)
entails-above p b u v [] f below h = refl
entails-above p b u v (pair ∷ ask) f below h =
    both _ _ (holds-above p b u v pair f.0 below (first_of_both (holds p b u pair) (entails p b u ask) h)) (entails-above p b u v ask f.1 below (second_of_both (holds p b u pair) (entails p b u ask) h))

-- one token told
pub tells_one : (p : CoreProgram) (b : List ℕ) (u : StoreMap) (pair : ℕ × Token) → IsStore p u → (f : TokenFits p b pair) → Tells p u (name_of p b pair.0) f.decl pair.1 (tell_at (slice_get p.cells pair.0) p b u pair.0 pair.1)
tells_one p b u pair is f = subst (λ (o : Option CellDecl). Tells p u (name_of p b pair.0) f.decl pair.1 (tell_at o p b u pair.0 pair.1)) (sym f.found) (told-Tells p u (name_of p b pair.0) f.decl pair.1 is f.named f.fits)

-- the least store of those that are above u and have what is asked for
pub record IsLeast (p : CoreProgram) (u : StoreMap) (Has : StoreMap → Type 0) (after : StoreMap) : Type 0 where
  pub store : IsStore p after
  pub above : Below p u after
  pub least : (x : StoreMap) → IsStore p x → Below p u x → Has x → Below p after x

pub tell_all-least : (p : CoreProgram) (b : List ℕ) (ask : Constraint) (u : StoreMap) → IsStore p u → ConstraintFits p b ask → IsLeast p u (λ x. IsTrue (entails p b x ask)) (tell_all p b ask u)
tell_all-least p b [] u is f = record { store = is; above = Below-refl p u; least = λ x ix below h. below }
tell_all-least p b (pair ∷ ask) u is f =
    let one = tells_one p b u pair is f.0 in
    let next : StoreMap = tell_at (slice_get p.cells pair.0) p b u pair.0 pair.1 in
    let rest = tell_all-least p b ask next one.store f.1 in
    record {
      store = rest.store;
      above = Below-trans p u next _ one.above rest.above;
      least = λ x ix below h. rest.least x ix
          (one.least x ix below (subst (λ (o : Option CellDecl). IsTrue (holds_at o p b x pair.0 pair.1)) f.0.found (first_of_both (holds p b x pair) (entails p b x ask) h)))
          (second_of_both (holds p b x pair) (entails p b x ask) h);
    }

pub tell_all-entails : (p : CoreProgram) (b : List ℕ) (ask : Constraint) (u : StoreMap) → IsStore p u → ConstraintFits p b ask → IsTrue (entails p b (tell_all p b ask u) ask)
tell_all-entails p b [] u is f = refl
tell_all-entails p b (pair ∷ ask) u is f =
    let one = tells_one p b u pair is f.0 in
    let next : StoreMap = tell_at (slice_get p.cells pair.0) p b u pair.0 pair.1 in
    let rest = tell_all-least p b ask next one.store f.1 in
    let here : IsTrue (holds p b next pair) = subst (λ (o : Option CellDecl). IsTrue (holds_at o p b next pair.0 pair.1)) (sym f.0.found) one.entails in
    both _ _ (holds-above p b next (tell_all p b ask next) pair f.0 rest.above here) (tell_all-entails p b ask next one.store f.1)
