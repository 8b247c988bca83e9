-- What telling tokens of a net's cells does to their store: it is the least above that entails them, cell by cell.
use Rattle.std.proofs.Common.{◌≡◌, ◌≢◌, ◌⊎◌, inl, inr, List, [], ◌∷◌, ◌++◌, Some, refl, sym, ◌∙◌, subst}
use Rattle.std.specs.Prelude.{Option, IsTrue, Contains, slice_get}
use Rattle.token_system.specs.declared.cell.Cell.{Cell}
use Rattle.token_system.specs.declared.cell.Token.{Token}
use Rattle.token_system.specs.declared.name.CellName.{CellName}
use Rattle.token_system.specs.Tokens.{Fits}
use Rattle.token_system.specs.Stores.{StoreMap, store_entails, after_tell, IsKeptFor}
use Rattle.token_system.proofs.Telling.{get-told_other}
use Rattle.agent_core.specs.declared.node.CellDecl.{CellDecl}
use Rattle.agent_core.specs.Programs.{CoreProgram}
use Rattle.agent_core.specs.Names.{Names}
use Rattle.agent_core.specs.Stores.{IsStore}
use Rattle.agent_core.specs.Strata.{Each}
use Rattle.agent_core.proofs.Bools.{both, first_of_both, second_of_both}
use Rattle.agent_core.proofs.Told.{BelowAt, Tells, told-Tells, told-at}
use Rattle.instant_net.specs.declared.parts.Atom.{Atom}
use Rattle.instant_net.specs.declared.parts.NetCell.{NetCell}
use Rattle.instant_net.specs.NamedLeaves.{Named, named_holds, named_entails, tell_named}
use Rattle.instant_net.specs.Nets.{Flat, named_atoms, named_at, AtomFits}
use Rattle.instant_net.specs.Opened.{IsCellOf, IsNet}
use Rattle.instant_net.specs.Outputs.{IsStoreOf, IsNetStoreBelow}
use Rattle.instant_net.proofs.Lists.{same-elements}
use Rattle.instant_net.proofs.NetOutputs as outputs
use Rattle.instant_net.proofs.StoreLookups.{same_or_not}

-- at one cell, w entails what u does
abbrev pub BelowCell : StoreMap → StoreMap → NetCell → Type 0
BelowCell u w c = (t : Token) → Fits c.cell t → IsTrue (store_entails u c.name c.cell t) → IsTrue (store_entails w c.name c.cell t)

-- the token is one of a cell of the net
pub record NamedFits (cells : List NetCell) (x : Named) : Type 0 where
  pub cell : NetCell
  pub there : Contains cells cell
  pub fits : Fits cell.cell x.token
  pub same : record { name = cell.name; cell = cell.cell; token = x.token } ≡ x

-- what a store is after a token of a named cell is after_tell
record TellsOne (cells : List NetCell) (u : StoreMap) (n : CellName) (x : Cell) (t : Token) (after : StoreMap) : Type 0 where
  store : IsStoreOf cells after
  above : IsNetStoreBelow cells u after
  entails : IsTrue (store_entails after n x t)
  least : (y : StoreMap) → IsStoreOf cells y → (d : NetCell) → Contains cells d → BelowCell u y d → (d.name ≡ n → IsTrue (store_entails y n x t)) → BelowCell after y d

-- and after these are after_tell
pub record TellsAll (cells : List NetCell) (u : StoreMap) (xs : List Named) (after : StoreMap) : Type 0 where
  pub store : IsStoreOf cells after
  pub above : IsNetStoreBelow cells u after
  pub entails : IsTrue (named_entails after xs)
  pub least : (y : StoreMap) → IsStoreOf cells y → (d : NetCell) → Contains cells d → BelowCell u y d → Each (λ x. d.name ≡ x.name → IsTrue (named_holds y x)) xs → BelowCell after y d

-- a store that is above at the cell of the token entails it too
pub holds-up : (cells : List NetCell) (u w : StoreMap) (x : Named) (f : NamedFits cells x) → BelowCell u w f.cell → IsTrue (named_holds u x) → IsTrue (named_holds w x)
holds-up cells u w x f below = subst (λ (y : Named). IsTrue (named_holds u y) → IsTrue (named_holds w y)) f.same (below x.token f.fits)

pub entails-up : (u w : StoreMap) (xs : List Named) → Each (λ x. IsTrue (named_holds u x) → IsTrue (named_holds w x)) xs → IsTrue (named_entails u xs) → IsTrue (named_entails w xs)
entails-up u w [] f h = refl
entails-up u w (x ∷ xs) f h = both _ _ (f.0 (first_of_both (named_holds u x) (named_entails u xs) h)) (entails-up u w xs f.1 (second_of_both (named_holds u x) (named_entails u xs) h))

pub entails-above : (cells : List NetCell) (u w : StoreMap) (xs : List Named) → Each (NamedFits cells) xs → IsNetStoreBelow cells u w → IsTrue (named_entails u xs) → IsTrue (named_entails w xs)
entails-above cells u w xs fits below = entails-up u w xs (go xs fits)
  where
    go : (xs : List Named) → Each (NamedFits cells) xs → Each (λ x. IsTrue (named_holds u x) → IsTrue (named_holds w x)) xs
    go [] f = tt
    go (x ∷ xs) f = (holds-up cells u w x f.0 (λ t fits. below f.0.cell t f.0.there fits), go xs f.1)

-- what holds of the token of each atom's cell holds of each named token
pub named-each : (cells : List NetCell) (Q : Named → Type 0) (atoms : List Atom)
    → Each (λ a. (c : NetCell) × (slice_get cells a.cell ≡ Some c) × Q (record { name = c.name; cell = c.cell; token = a.token })) atoms → Each Q (named_atoms cells atoms)
named-each cells Q [] h = tt
named-each cells Q (a ∷ atoms) h = subst (λ (o : Option NetCell). Each Q (named_at o a ++ named_atoms cells atoms)) (sym h.0.1) (h.0.2, named-each cells Q atoms h.1)

pub named-fits : (cells : List NetCell) (atoms : List Atom) → Each (AtomFits cells) atoms → Each (NamedFits cells) (named_atoms cells atoms)
named-fits cells atoms h = named-each cells (NamedFits cells) atoms (go atoms h)
  where
    go : (atoms : List Atom) → Each (AtomFits cells) atoms → Each (λ a. (c : NetCell) × (slice_get cells a.cell ≡ Some c) × NamedFits cells (record { name = c.name; cell = c.cell; token = a.token })) atoms
    go [] h = tt
    go (a ∷ atoms) h = ((h.0.0, h.0.1, record { cell = h.0.0; there = same-elements cells h.0.0 a.cell h.0.1; fits = h.0.2; same = refl }), go atoms h.1)

module _ (net : Flat) (is : IsNet net) where
  abbrev program : CoreProgram
  program = is.program

  store-up : (s : StoreMap) → IsStoreOf net.cells s → IsStore program s
  store-up = outputs.store-up program is.table is.roots net.instant net is.of

  cell-same : (c : NetCell) (n : CellName) (d : CellDecl) → Contains net.cells c → c.name ≡ n → Names program n d → c.cell ≡ d.cell
  cell-same = outputs.cell-same program is.table is.roots net.instant net is.of

  -- by name in the program, and by cell of the net
  at-name : (u w : StoreMap) (d : NetCell) → Contains net.cells d → BelowCell u w d → BelowAt program u w d.name
  at-name u w d at below e t named fits h =
      let same : d.cell ≡ e.cell = cell-same d d.name e at refl named in
      subst (λ (x : Cell). IsTrue (store_entails w d.name x t)) same
      (below t (subst (λ (x : Cell). Fits x t) (sym same) fits) (subst (λ (x : Cell). IsTrue (store_entails u d.name x t)) (sym same) h))

  at-cell : (u w : StoreMap) (d : NetCell) → Contains net.cells d → BelowAt program u w d.name → BelowCell u w d
  at-cell u w d at below t fits h =
      let one = outputs.cell-of program is.table is.roots net.instant net is.of d at in
      subst (λ (x : Cell). IsTrue (store_entails w d.name x t)) (sym one.cell)
      (below one.decl t one.named (subst (λ (x : Cell). Fits x t) one.cell fits) (subst (λ (x : Cell). IsTrue (store_entails u d.name x t)) one.cell h))

  tell-one : (u : StoreMap) (c : NetCell) (t : Token) → IsStoreOf net.cells u → Contains net.cells c → Fits c.cell t → TellsOne net.cells u c.name c.cell t (after_tell u c.name c.cell t)
  tell-one u c t iu at fits = subst (λ (x : Cell). TellsOne net.cells u c.name x t (after_tell u c.name x t)) (sym one.cell) (record {
    store = store;
    above = outputs.below-down program is.table is.roots net.instant net is.of u (after_tell u c.name one.decl.cell t) tells.above;
    entails = tells.entails;
    least = λ y iy d there below ex. at-cell (after_tell u c.name one.decl.cell t) y d there
        (told-at program u c.name one.decl t (store-up u iu) one.named fits_decl y (store-up y iy) d.name (at-name u y d there below) ex);
  })
    where
      one : IsCellOf program is.table c
      one = outputs.cell-of program is.table is.roots net.instant net is.of c at

      fits_decl : Fits one.decl.cell t
      fits_decl = subst (λ (x : Cell). Fits x t) one.cell fits

      tells : Tells program u c.name one.decl t (after_tell u c.name one.decl.cell t)
      tells = told-Tells program u c.name one.decl t (store-up u iu) one.named fits_decl

      store : IsStoreOf net.cells (after_tell u c.name one.decl.cell t)
      store q v e = go (same_or_not q c.name)
        where
          go : (q ≡ c.name) ⊎ (q ≢ c.name) → (d : NetCell) × Contains net.cells d × (d.name ≡ q) × IsKeptFor d.cell v
          go (inl same) =
              let r = tells.store q v e in
              (c, at, sym same, subst (λ (x : Cell). IsKeptFor x v) (sym (cell-same c q r.0 at (sym same) r.1)) r.2)
          go (inr other) = iu q v (sym (get-told_other u c.name q one.decl.cell t other) ∙ e)

  pub tell-all : (xs : List Named) (u : StoreMap) → Each (NamedFits net.cells) xs → IsStoreOf net.cells u → TellsAll net.cells u xs (tell_named xs u)
  tell-all [] u fits iu = record { store = iu; above = λ c t at fits h. h; entails = refl; least = λ y iy d at below ex. below }
  tell-all (x ∷ xs) u fits iu =
      let f = fits.0 in
      let next : StoreMap = after_tell u x.name x.cell x.token in
      let one : TellsOne net.cells u x.name x.cell x.token next =
      subst (λ (y : Named). TellsOne net.cells u y.name y.cell y.token (after_tell u y.name y.cell y.token)) f.same (tell-one u f.cell x.token iu f.there f.fits) in
      let rest = tell-all xs next fits.1 one.store in
      record {
        store = rest.store;
        above = λ c t at fit h. rest.above c t at fit (one.above c t at fit h);
        entails = both _ _ (holds-up net.cells next (tell_named xs next) x f (λ t fit. rest.above f.cell t f.there fit) one.entails) rest.entails;
        least = λ y iy d at below ex. rest.least y iy d at (one.least y iy d at below ex.0) ex.1;
      }
