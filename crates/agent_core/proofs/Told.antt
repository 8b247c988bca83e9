-- A store in which a token is after_tell is the least that entails the token and all that the store entails.
use Rattle.std.proofs.Common.{◌≡◌, ◌⊎◌, inl, inr, Bool, true, false, cond, Some, refl, sym, ap, ◌∙◌, subst}
use Rattle.std.specs.Prelude.{IsTrue, unwrap_or}
use Rattle.std.specs.FinMap.{get, insert, get-insert}
use Rattle.std.specs.Ordering.{eq_by_cmp}
use Rattle.std.specs.Cmp.{eq_by_cmp_equiv}
use Rattle.token_system.specs.declared.cell.Cell.{Cell}
use Rattle.token_system.specs.declared.cell.Token.{Token}
use Rattle.token_system.specs.declared.cell.Value.{Value}
use Rattle.token_system.specs.declared.name.CellName.{CellName}
use Rattle.token_system.specs.Tokens.{Fits}
use Rattle.token_system.specs.Values.{bottom_of, value_with, value_entails, value_eq}
use Rattle.token_system.specs.Names.{name_cmp, name_total}
use Rattle.token_system.specs.Stores.{StoreMap, value_at, store_entails, after_tell, IsKeptFor}
use Rattle.token_system.proofs.Alike.{true_false}
use Rattle.token_system.proofs.Adding.{Added, added, bottom_covered, value_eq-true, value_eq-itself}
use Rattle.token_system.proofs.Telling.{equal_names}
use Rattle.agent_core.specs.declared.node.CellDecl.{CellDecl}
use Rattle.agent_core.specs.Programs.{CoreProgram}
use Rattle.agent_core.specs.Names.{Names}
use Rattle.agent_core.specs.Stores.{IsStore, Below}
use Rattle.agent_core.proofs.OneStore.{Names-one, value_at-fits}

-- at one name, w entails what u does
abbrev pub BelowAt : CoreProgram → StoreMap → StoreMap → CellName → Type 0
BelowAt p u w q = (d : CellDecl) (t : Token) → Names p q d → Fits d.cell t → IsTrue (store_entails u q d.cell t) → IsTrue (store_entails w q d.cell t)

-- s with one value more
pub record Tells (p : CoreProgram) (s : StoreMap) (n : CellName) (d : CellDecl) (t : Token) (after : StoreMap) : Type 0 where
  pub store : IsStore p after
  pub above : Below p s after
  pub entails : IsTrue (store_entails after n d.cell t)
  pub least : (x : StoreMap) → IsStore p x → Below p s x → IsTrue (store_entails x n d.cell t) → Below p after x

-- what holds at a name and its cell holds at an equal name
at_name : (p : CoreProgram) (q n : CellName) (e d : CellDecl) (P : CellName → CellDecl → Type 0) → q ≡ n → Names p q e → Names p n d → P n d → P q e
at_name p q n e d P same named_q named h =
    let one : e ≡ d = Names-one p n e d (subst (λ (m : CellName). Names p m e) same named_q) named in
    subst (λ (m : CellName). P m e) (sym same) (subst (P n) (sym one) h)

value_self : (s : StoreMap) (n : CellName) (c : Cell) (w : Value) → value_at (insert s n w) n c ≡ w
value_self s n c w = ap (λ o. unwrap_or o (bottom_of c)) (get-insert name_total s n w n ∙ ap (λ b. cond b (Some w) (get s n)) ((eq_by_cmp_equiv name_total).refl n))

module _ (p : CoreProgram) (s : StoreMap) (n : CellName) (d : CellDecl) (t : Token) (is : IsStore p s) (named : Names p n d) (fits : Fits d.cell t) where
  -- what is after_tell is after_tell at its name, and nothing changes elsewhere
  told_at : (b : Bool) → value_eq (value_with (value_at s n d.cell) t) (bottom_of d.cell) ≡ b → (q : CellName) (e : CellDecl) → Names p q e
      → ((q ≡ n) × (value_at (cond b s (insert s n (value_with (value_at s n d.cell) t))) n d.cell ≡ value_with (value_at s n d.cell) t))
      ⊎ (value_at (cond b s (insert s n (value_with (value_at s n d.cell) t))) q e.cell ≡ value_at s q e.cell)
  told_at true is_bottom q e named_q = inr refl
  told_at false not_bottom q e named_q = go (eq_by_cmp name_cmp q n) refl
    where
      go : (r : Bool) → eq_by_cmp name_cmp q n ≡ r → ((q ≡ n) × (value_at (insert s n (value_with (value_at s n d.cell) t)) n d.cell ≡ value_with (value_at s n d.cell) t)) ⊎ (value_at (insert s n (value_with (value_at s n d.cell) t)) q e.cell ≡ value_at s q e.cell)
      go true r =
          let same : q ≡ n = equal_names q n r in
          inl (
            same,
            subst (λ (m : CellName). unwrap_or (get (insert s n (value_with (value_at s n d.cell) t)) m) (bottom_of d.cell) ≡ value_with (value_at s n d.cell) t) same
                (ap (λ o. unwrap_or o (bottom_of d.cell)) (get-insert name_total s n (value_with (value_at s n d.cell) t) q ∙ ap (λ b. cond b (Some (value_with (value_at s n d.cell) t)) (get s q)) r)),
          )
      go false r = inr (ap (λ o. unwrap_or o (bottom_of e.cell)) (get-insert name_total s n (value_with (value_at s n d.cell) t) q ∙ ap (λ b. cond b (Some (value_with (value_at s n d.cell) t)) (get s q)) r))

  added_here : Added d.cell.lo d.cell.hi d.cell.kind (value_at s n d.cell) t (value_with (value_at s n d.cell) t)
  added_here =
      let fit = value_at-fits p s n d is named in
      added d.cell.lo d.cell.hi d.cell.kind (value_at s n d.cell) t d.cell.lawful fit.0 fit.1 fits

  is_store : (b : Bool) → value_eq (value_with (value_at s n d.cell) t) (bottom_of d.cell) ≡ b → IsStore p (cond b s (insert s n (value_with (value_at s n d.cell) t)))
  is_store true eb q y e = is q y e
  is_store false eb q y e = go (eq_by_cmp name_cmp q n) refl
    where
      go : (r : Bool) → eq_by_cmp name_cmp q n ≡ r → (f : CellDecl) × Names p q f × IsKeptFor f.cell y
      go true r =
          let got : Some (value_with (value_at s n d.cell) t) ≡ Some y = sym (get-insert name_total s n (value_with (value_at s n d.cell) t) q ∙ ap (λ b. cond b (Some (value_with (value_at s n d.cell) t)) (get s q)) r) ∙ e in
          let same : value_with (value_at s n d.cell) t ≡ y = cc in (
            d,
            subst (λ (m : CellName). Names p m d) (sym (equal_names q n r)) named,
            subst (IsKeptFor d.cell) same (record {
              value = record { domain = added_here.domain; proper = added_here.proper };
              not_bottom = λ h. true_false (sym (subst (λ (z : Value). value_eq z (bottom_of d.cell) ≡ true) (sym h) (value_eq-itself (bottom_of d.cell))) ∙ eb);
            }),
          )
      go false r = is q y (sym (get-insert name_total s n (value_with (value_at s n d.cell) t) q ∙ ap (λ b. cond b (Some (value_with (value_at s n d.cell) t)) (get s q)) r) ∙ e)

  is_above : (b : Bool) → value_eq (value_with (value_at s n d.cell) t) (bottom_of d.cell) ≡ b → Below p s (cond b s (insert s n (value_with (value_at s n d.cell) t)))
  is_above b eb q e t' named_q f h = go (told_at b eb q e named_q)
    where
      go : ((q ≡ n) × (value_at (cond b s (insert s n (value_with (value_at s n d.cell) t))) n d.cell ≡ value_with (value_at s n d.cell) t))
          ⊎ (value_at (cond b s (insert s n (value_with (value_at s n d.cell) t))) q e.cell ≡ value_at s q e.cell)
          → IsTrue (store_entails (cond b s (insert s n (value_with (value_at s n d.cell) t))) q e.cell t')
      go (inl w) = at_name p q n e d (λ m c. Fits c.cell t' → IsTrue (store_entails s m c.cell t') → IsTrue (store_entails (cond b s (insert s n (value_with (value_at s n d.cell) t))) m c.cell t')) w.0 named_q named
          (λ f h. subst (λ (z : Value). IsTrue (value_entails z t')) (sym w.1) (added_here.above t' f h)) f h
      go (inr w) = subst (λ (z : Value). IsTrue (value_entails z t')) (sym w) h

  entails_it : (b : Bool) → value_eq (value_with (value_at s n d.cell) t) (bottom_of d.cell) ≡ b → IsTrue (store_entails (cond b s (insert s n (value_with (value_at s n d.cell) t))) n d.cell t)
  entails_it true eb =
      let fit = value_at-fits p s n d is named in
      let low : value_with (value_at s n d.cell) t ≡ bottom_of d.cell = value_eq-true _ _ eb in
      bottom_covered d.cell.kind d.cell.lo d.cell.hi (value_at s n d.cell) fit.0 t fits (subst (λ (z : Value). IsTrue (value_entails z t)) low added_here.entails)
  entails_it false eb = subst (λ (z : Value). IsTrue (value_entails z t)) (sym (value_self s n d.cell (value_with (value_at s n d.cell) t))) added_here.entails

  is_least : (b : Bool) → value_eq (value_with (value_at s n d.cell) t) (bottom_of d.cell) ≡ b → (x : StoreMap) → IsStore p x → Below p s x → IsTrue (store_entails x n d.cell t)
      → Below p (cond b s (insert s n (value_with (value_at s n d.cell) t))) x
  is_least b eb x ix below ex q e t' named_q f h = go (told_at b eb q e named_q)
    where
      go : ((q ≡ n) × (value_at (cond b s (insert s n (value_with (value_at s n d.cell) t))) n d.cell ≡ value_with (value_at s n d.cell) t))
          ⊎ (value_at (cond b s (insert s n (value_with (value_at s n d.cell) t))) q e.cell ≡ value_at s q e.cell)
          → IsTrue (store_entails x q e.cell t')
      go (inl w) = at_name p q n e d (λ m c. Fits c.cell t' → IsTrue (store_entails (cond b s (insert s n (value_with (value_at s n d.cell) t))) m c.cell t') → IsTrue (store_entails x m c.cell t')) w.0 named_q named
          (λ f h.
          let fx = value_at-fits p x n d ix named in
          added_here.least_such (value_at x n d.cell) fx.0 fx.1 (λ t f h. below n d t named f h) ex t' f (subst (λ (z : Value). IsTrue (value_entails z t')) w.1 h)) f h
      go (inr w) = below q e t' named_q f (subst (λ (z : Value). IsTrue (value_entails z t')) w h)

  pub told-Tells : Tells p s n d t (after_tell s n d.cell t)
  told-Tells =
      let b : Bool = value_eq (value_with (value_at s n d.cell) t) (bottom_of d.cell) in
      record { store = is_store b refl; above = is_above b refl; entails = entails_it b refl; least = is_least b refl }

  -- nothing changes but at the name, and there no more than needed
  pub told-at : (x : StoreMap) → IsStore p x → (q : CellName) → BelowAt p s x q → (q ≡ n → IsTrue (store_entails x n d.cell t)) → BelowAt p (after_tell s n d.cell t) x q
  told-at x ix q below ex e t' named_q f h = go (told_at (value_eq (value_with (value_at s n d.cell) t) (bottom_of d.cell)) refl q e named_q)
    where
      go : ((q ≡ n) × (value_at (after_tell s n d.cell t) n d.cell ≡ value_with (value_at s n d.cell) t)) ⊎ (value_at (after_tell s n d.cell t) q e.cell ≡ value_at s q e.cell) → IsTrue (store_entails x q e.cell t')
      go (inl w) = at_name p q n e d (λ m c. Fits c.cell t' → IsTrue (store_entails (after_tell s n d.cell t) m c.cell t') → IsTrue (store_entails x m c.cell t')) w.0 named_q named
          (λ f h.
          let fx = value_at-fits p x n d ix named in
          let here : BelowAt p s x n = subst (BelowAt p s x) w.0 below in
          added_here.least_such (value_at x n d.cell) fx.0 fx.1 (λ t f h. here d t named f h) (ex w.0) t' f (subst (λ (z : Value). IsTrue (value_entails z t')) w.1 h)) f h
      go (inr w) = below e t' named_q f (subst (λ (z : Value). IsTrue (value_entails z t')) w h)
