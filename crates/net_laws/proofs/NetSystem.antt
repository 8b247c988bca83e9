-- The leaves of a stratified net and the stores of its cells are a system of the fixpoint's kind.
use Rattle.std.proofs.Common.{◌≡◌, ◌⊎◌, inl, inr, ℕ, zero, suc, ◌+◌, ◌<◌, ◌≤◌, Bool, true, false, not, cond, List, [], ◌∷◌, length, get_or, Some, None, refl, sym, ap, ◌∙◌, subst, arith}
use Rattle.std.specs.Prelude.{Option, IsTrue, Contains, slice_get, slice_index, if◌then◌else◌}
use Rattle.std.specs.List.{list_all}
use Rattle.std.proofs.lemmas.Option.{slice_get_cases}
use Rattle.std.proofs.lemmas.List.Elements.{All-contains}
use Rattle.token_system.specs.Stores.{StoreMap}
use Rattle.agent_core.specs.Strata.{Each}
use Rattle.agent_core.proofs.Bools.{both, first_of_both, second_of_both}
use Rattle.agent_core.proofs.OneStore.{Below-antisym}
use Rattle.agent_core.specs.Names.{cell_named}
use Rattle.agent_laws.proofs.Eachs.{Each-append, all_each, each_at}
use Rattle.agent_laws.proofs.Instance.{not_up}
use Rattle.agent_laws.proofs.System.{System}
use Rattle.instant_net.specs.declared.parts.Atom.{Atom}
use Rattle.instant_net.specs.declared.parts.NetCell.{NetCell}
use Rattle.instant_net.specs.declared.parts.NetGuard.{NetGuard}
use Rattle.instant_net.specs.declared.parts.NetLeaf.{NetLeaf}
use Rattle.instant_net.specs.NamedLeaves.{Named, NamedGuard, named_holds, named_entails, named_asked, named_free, tell_named}
use Rattle.instant_net.specs.Nets.{Flat, named_atoms, named_guard, named_leaf, path_to, paths_from, IsAtOrAbove, here, above, IsLinkBelow, AtomFits, LeafIsWhole, atoms_of}
use Rattle.instant_net.specs.Opened.{IsCellOf, IsNet}
use Rattle.instant_net.specs.Outputs.{IsStoreOf, IsNetStoreBelow, IsStratified}
use Rattle.instant_net.specs.Readers.{lesser, least_stratum, stratum_of}
use Rattle.instant_net.proofs.Lists.{same-elements}
use Rattle.instant_net.proofs.LevelBounds.{stratum-below}
use Rattle.instant_net.proofs.NetOutputs as outputs
use Rattle.instant_net.proofs.NetPaths.{path-of}
use Rattle.net_laws.specs.Ways.{IsNetStoreBelowUpto}
use Rattle.net_laws.proofs.NetTells.{NamedFits, holds-up, entails-up, entails-above, named-each, named-fits, tell-all}

-- LISTS

-- what holds of each contained element
pub each-contained : {X : Type 0} (P : X → Type 0) (xs : List X) → ((x : X) → Contains xs x → P x) → Each P xs
each-contained P [] h = tt
each-contained P (x ∷ xs) h = (h x (0, omega arith, refl), each-contained P xs (λ y c. h y (suc c.0, omega (arith, c.1), c.2)))

pub each-by_get : {X : Type 0} (P : X → Type 0) (xs : List X) → ((n : ℕ) (x : X) → slice_get xs n ≡ Some x → P x) → Each P xs
each-by_get P [] h = tt
each-by_get P (x ∷ xs) h = (h 0 x refl, each-by_get P xs (λ n. h (suc n)))

-- STRATA

-- the least stratum, or this number where there is none
abbrev pub level_or : ℕ → Option ℕ → ℕ
level_or s None = s
level_or s (Some level) = level

pub level-greatest : (cells : List NetCell) (s n : ℕ) (atoms : List Atom) → n ≤ s → Each (λ a. n ≤ stratum_of (slice_get cells a.cell)) atoms → n ≤ level_or s (least_stratum cells atoms)
level-greatest cells s n [] le h = le
level-greatest cells s n (a ∷ atoms) le h = go (least_stratum cells atoms) (level-greatest cells s n atoms le h.1)
  where
    go : (o : Option ℕ) → n ≤ level_or s o → n ≤ lesser (stratum_of (slice_get cells a.cell)) o
    go None ih = h.0
    go (Some m) ih = let x = h.0 in omega arith

pub level-least : (cells : List NetCell) (s m : ℕ) (atoms : List Atom) → m ≤ level_or s (least_stratum cells atoms) → Each (λ a. m ≤ stratum_of (slice_get cells a.cell)) atoms
level-least cells s m [] le = tt
level-least cells s m (a ∷ []) le = (le, tt)
level-least cells s m (a ∷ b ∷ atoms) le =
    let o : Option ℕ = least_stratum cells atoms in
    let x : m ≤ stratum_of (slice_get cells a.cell) = omega arith in
    let y : m ≤ lesser (stratum_of (slice_get cells b.cell)) o = omega arith in
    (x, level-least cells s m (b ∷ atoms) y)

-- PATHS

below-more : (o : Option ℕ) (k m : ℕ) → k ≤ m → IsLinkBelow k o → IsLinkBelow m o
below-more None k m le h = tt
below-more (Some j) k m le h = omega arith

-- what holds of each guard at or above the last holds of each guard of the path
pub path-each : (cells : List NetCell) (guards : List NetGuard) → ((k : ℕ) (g : NetGuard) → slice_get guards k ≡ Some g → IsLinkBelow k g.above) → (P : NamedGuard → Type 0) (m : ℕ) (o : Option ℕ)
    → IsLinkBelow m o → m ≤ length guards → ((k : ℕ) (g : NetGuard) → slice_get guards k ≡ Some g → IsAtOrAbove guards k o → P (named_guard cells g)) → Each P (path_to (paths_from cells [] guards) o)
path-each cells guards before P m None lt le h = tt
path-each cells guards before P zero (Some k) lt le h = absurd (omega arith)
path-each cells guards before P (suc m) (Some k) lt le h =
    go (slice_get_cases guards k).1
    (λ g at. path-each cells guards before P m g.above (below-more g.above k m (omega arith) (before k g at)) (omega arith) (λ j f s up. h j f s (above k g at up)))
  where
    go : ((g : NetGuard) × (k < length guards) × (slice_get guards k ≡ Some g) × (get_or guards k g ≡ g)) ⊎ ((length guards ≤ k) × (slice_get guards k ≡ None))
        → ((g : NetGuard) → slice_get guards k ≡ Some g → Each P (path_to (paths_from cells [] guards) g.above)) → Each P (path_to (paths_from cells [] guards) (Some k))
    go (inr past) more = absurd (let x = past.0 in omega arith)
    go (inl found) more =
        let g : NetGuard = found.0 in
        let at : slice_get guards k ≡ Some g = found.2 in
        subst (Each P) (sym (path-of cells guards before k g at))
        (Each-append P (path_to (paths_from cells [] guards) g.above) (named_guard cells g ∷ []) (more g at) (h k g at here, tt))

-- LEAVES

-- a cell of this level may be told under the token's ask
abbrev pub NamedUnder : List NetCell → ℕ → Bool → Named → Type 0
NamedUnder cells level negative x = (f : NamedFits cells x) × (f.cell.stratum + (if negative then 1 else 0) ≤ level)

abbrev pub GuardUnder : List NetCell → ℕ → NamedGuard → Type 0
GuardUnder cells level g = Each (NamedUnder cells level g.negative) g.ask

-- the level of a leaf: the least stratum of its told cells, or that above all where there are none
abbrev pub level_of : Flat → NetLeaf → ℕ
level_of net l = level_or net.strata (least_stratum net.cells (atoms_of l.kind))

abbrev pub tells : Flat → NetLeaf → List Named
tells net l = named_atoms net.cells (atoms_of l.kind)

-- what the leaf names fits, its told cells have at least its level, and its guards stand below that
pub record LeafStands (net : Flat) (l : NetLeaf) : Type 0 where
  pub told : Each (NamedFits net.cells) (tells net l)
  pub least : Each (λ x. (f : NamedFits net.cells x) × (level_of net l ≤ f.cell.stratum)) (tells net l)
  pub path : Each (GuardUnder net.cells (level_of net l)) (named_leaf net l).path

module _ (cells : List NetCell) (k level : ℕ) (u w : StoreMap) (upto : IsNetStoreBelowUpto cells k u w) where
  up_to : (negative : Bool) (xs : List Named) → (negative ≡ true → level ≤ k) → (negative ≡ false → level < k) → Each (NamedUnder cells level negative) xs → Each (λ x. IsTrue (named_holds u x) → IsTrue (named_holds w x)) xs
  up_to negative [] s n h = tt
  up_to negative (x ∷ xs) s n h = (holds-up cells u w x h.0.0 (λ t fits. upto h.0.0.cell t h.0.0.there (lt negative s n h.0.1) fits), up_to negative xs s n h.1)
    where
      lt : (b : Bool) → (b ≡ true → level ≤ k) → (b ≡ false → level < k) → h.0.0.cell.stratum + (if b then 1 else 0) ≤ level → h.0.0.cell.stratum < k
      lt true s n le = let y = s refl in omega arith
      lt false s n le = let y = n refl in omega arith

  pub asked-up : (path : List NamedGuard) → level < k → Each (GuardUnder cells level) path → IsTrue (list_all (named_asked u) path) → IsTrue (list_all (named_asked w) path)
  asked-up [] lt h a = refl
  asked-up (g ∷ path) lt h a =
      both _ _ (go g.negative (λ e. entails-up u w g.ask (up_to g.negative g.ask (λ s. omega arith) (λ s. lt) h.0)) (first_of_both (named_asked u g) (list_all (named_asked u) path) a))
      (asked-up path lt h.1 (second_of_both (named_asked u g) (list_all (named_asked u) path) a))
    where
      go : (b : Bool) → (b ≡ false → IsTrue (named_entails u g.ask) → IsTrue (named_entails w g.ask)) → IsTrue (cond b true (named_entails u g.ask)) → IsTrue (cond b true (named_entails w g.ask))
      go true f x = refl
      go false f x = f refl x

  pub free-down : (path : List NamedGuard) → level ≤ k → Each (GuardUnder cells level) path → IsTrue (list_all (named_free w) path) → IsTrue (list_all (named_free u) path)
  free-down [] le h a = refl
  free-down (g ∷ path) le h a =
      both _ _ (go g.negative refl (first_of_both (named_free w g) (list_all (named_free w) path) a)) (free-down path le h.1 (second_of_both (named_free w g) (list_all (named_free w) path) a))
    where
      go : (b : Bool) → g.negative ≡ b → IsTrue (cond b (not (named_entails w g.ask)) true) → IsTrue (cond b (not (named_entails u g.ask)) true)
      go false e x = refl
      go true e x =
          not_up (named_entails w g.ask) (named_entails u g.ask)
          (entails-up u w g.ask (up_to true g.ask (λ s. le) (λ s. absurd (cc)) (subst (λ (b : Bool). Each (NamedUnder cells level b) g.ask) e h.0))) x

-- of a list that the store entails, each
held : (w : StoreMap) (P : Type 0) (xs : List Named) → (P → IsTrue (named_entails w xs)) → Each (λ x. P → IsTrue (named_holds w x)) xs
held w P [] h = tt
held w P (x ∷ xs) h = (λ b. first_of_both (named_holds w x) (named_entails w xs) (h b), held w P xs (λ b. second_of_both (named_holds w x) (named_entails w xs) (h b)))

module _ (net : Flat) (is : IsNet net) where
  cell-of : (c : NetCell) → Contains net.cells c → IsCellOf is.program is.table c
  cell-of = outputs.cell-of is.program is.table is.roots net.instant net is.of

  -- cells of one name have one stratum
  same-stratum : (c d : NetCell) → Contains net.cells c → Contains net.cells d → c.name ≡ d.name → c.stratum ≡ d.stratum
  same-stratum c d at there e = (cell-of c at).stratum ∙ ap (λ n. slice_index is.table (cell_named is.program n)) e ∙ sym (cell-of d there).stratum

  pub of_upto : (u w : StoreMap) → ((k : ℕ) → IsNetStoreBelowUpto net.cells k u w) → IsNetStoreBelow net.cells u w
  of_upto u w h c t at = h (suc c.stratum) c t at (omega arith)

  module _ (strat : IsStratified net) where
    leaf_whole : (n : ℕ) (l : NetLeaf) → slice_get net.leaves n ≡ Some l → LeafIsWhole net l
    leaf_whole n l at = each_at (LeafIsWhole net) net.leaves n l (all_each (LeafIsWhole net) net.leaves is.of.whole.leaves) at

    leaf-stands : (n : ℕ) (l : NetLeaf) → slice_get net.leaves n ≡ Some l → LeafStands net l
    leaf-stands n l at = record { told = named-fits net.cells (atoms_of l.kind) fits; least = least; path = path }
      where
        fits : Each (AtomFits net.cells) (atoms_of l.kind)
        fits = all_each (AtomFits net.cells) (atoms_of l.kind) (leaf_whole n l at).0

        least : Each (λ x. (f : NamedFits net.cells x) × (level_of net l ≤ f.cell.stratum)) (tells net l)
        least = named-each net.cells (λ x. (f : NamedFits net.cells x) × (level_of net l ≤ f.cell.stratum)) (atoms_of l.kind)
            (go (atoms_of l.kind) fits (level-least net.cells net.strata (level_of net l) (atoms_of l.kind) (omega arith)))
          where
            go : (atoms : List Atom) → Each (AtomFits net.cells) atoms → Each (λ a. level_of net l ≤ stratum_of (slice_get net.cells a.cell)) atoms
                → Each (λ a. (c : NetCell) × (slice_get net.cells a.cell ≡ Some c) × ((f : NamedFits net.cells (record { name = c.name; cell = c.cell; token = a.token })) × (level_of net l ≤ f.cell.stratum))) atoms
            go [] f h = tt
            go (a ∷ atoms) f h = (
              (
                f.0.0,
                f.0.1,
                (
                  record { cell = f.0.0; there = same-elements net.cells f.0.0 a.cell f.0.1; fits = f.0.2; same = refl },
                  subst (λ (o : Option NetCell). level_of net l ≤ stratum_of o) f.0.1 h.0,
                ),
              ),
              go atoms f.1 h.1,
            )

        guard : (k : ℕ) (g : NetGuard) → slice_get net.guards k ≡ Some g → IsAtOrAbove net.guards k l.last → GuardUnder net.cells (level_of net l) (named_guard net.cells g)
        guard k g s up = named-each net.cells (NamedUnder net.cells (level_of net l) g.negative) g.ask (each-contained _ g.ask one)
          where
            one : (a : Atom) → Contains g.ask a → (c : NetCell) × (slice_get net.cells a.cell ≡ Some c) × NamedUnder net.cells (level_of net l) g.negative (record { name = c.name; cell = c.cell; token = a.token })
            one a within =
                let f : AtomFits net.cells a = outputs_fit a within in
                let at_c : Contains net.cells f.0 = same-elements net.cells f.0 a.cell f.1 in (
                  f.0,
                  f.1,
                  (record { cell = f.0; there = at_c; fits = f.2; same = refl }, level-greatest net.cells net.strata (f.0.stratum + (if g.negative then 1 else 0)) (atoms_of l.kind) (top g.negative f.0 at_c) (each-contained _ (atoms_of l.kind) (under a within f))),
                )
              where
                outputs_fit : (a : Atom) → Contains g.ask a → AtomFits net.cells a
                outputs_fit a within = All-contains (AtomFits net.cells) g.ask a (is.of.whole.guards k g s).0 within

                top : (b : Bool) (c : NetCell) → Contains net.cells c → c.stratum + (if b then 1 else 0) ≤ net.strata
                top true c at_c = let x = stratum-below net is c at_c in omega arith
                top false c at_c = let x = stratum-below net is c at_c in omega arith

                under : (a : Atom) → Contains g.ask a → (f : AtomFits net.cells a) → (b : Atom) → Contains (atoms_of l.kind) b → f.0.stratum + (if g.negative then 1 else 0) ≤ stratum_of (slice_get net.cells b.cell)
                under a within f b told =
                    let d : AtomFits net.cells b = All-contains (AtomFits net.cells) (atoms_of l.kind) b (leaf_whole n l at).0 told in
                    subst (λ (o : Option NetCell). f.0.stratum + (if g.negative then 1 else 0) ≤ stratum_of o) (sym d.1) (strat n l k g at s up a b within told f.0 d.0 f.1 d.1)

        path : Each (GuardUnder net.cells (level_of net l)) (named_leaf net l).path
        path = path-each net.cells net.guards (λ k g s. (is.of.whole.guards k g s).1) (GuardUnder net.cells (level_of net l)) (length net.guards) l.last (leaf_whole n l at).1 (omega arith) guard

    -- stores that are below each other are one store
    pub one-store : (u w : StoreMap) → IsStoreOf net.cells u → IsStoreOf net.cells w → ((k : ℕ) → IsNetStoreBelowUpto net.cells k u w) → ((k : ℕ) → IsNetStoreBelowUpto net.cells k w u) → u ≡ w
    one-store u w iu iw a b =
        let up_u = outputs.store-up is.program is.table is.roots net.instant net is.of u iu in
        let up_w = outputs.store-up is.program is.table is.roots net.instant net is.of w iw in
        Below-antisym is.program u w up_u up_w
        (outputs.below-up is.program is.table is.roots net.instant net is.of u w iu up_w (of_upto u w a))
        (outputs.below-up is.program is.table is.roots net.instant net is.of w u iw up_u (of_upto w u b))

    -- what is told changes a stratum no more than needed
    pub tell-upto : (l : NetLeaf) (k : ℕ) (u w : StoreMap) → LeafStands net l → IsStoreOf net.cells u → IsStoreOf net.cells w → IsNetStoreBelowUpto net.cells k u w → (level_of net l < k → IsTrue (named_entails w (tells net l)))
        → IsNetStoreBelowUpto net.cells k (tell_named (tells net l) u) w
    tell-upto l k u w f iu iw upto sat c t at lt = (tell-all net is (tells net l) u f.told iu).least w iw c at (λ t fits. upto c t at lt fits) (go (tells net l) f.least (held w (level_of net l < k) (tells net l) sat)) t
      where
        go : (xs : List Named) → Each (λ x. (f : NamedFits net.cells x) × (level_of net l ≤ f.cell.stratum)) xs → Each (λ x. level_of net l < k → IsTrue (named_holds w x)) xs → Each (λ x. c.name ≡ x.name → IsTrue (named_holds w x)) xs
        go [] f h = tt
        go (x ∷ xs) f h = (
          λ same.
              let one : c.stratum ≡ f.0.0.cell.stratum = same-stratum c f.0.0.cell at f.0.0.there (same ∙ ap (λ (y : Named). y.name) (sym f.0.0.same)) in
              let le = f.0.1 in
              h.0 (omega arith),
          go xs f.1 h.1,
        )

    abbrev pub system : System
    system = record {
      Store = StoreMap;
      Leaf = NetLeaf;
      IsStore = IsStoreOf net.cells;
      IsLeaf = LeafStands net;
      Upto = IsNetStoreBelowUpto net.cells;
      strata = net.strata;
      level = level_of net;
      on = λ l u. list_all (named_asked u) (named_leaf net l).path;
      off = λ l u. not (list_all (named_free u) (named_leaf net l).path);
      told = λ l u. named_entails u (tells net l);
      tell = λ l u. tell_named (tells net l) u;
      Upto-none = λ u w c t at lt. absurd (omega arith);
      Upto-refl = λ k u c t at lt fits h. h;
      Upto-trans = λ k u v w a b c t at lt fits h. b c t at lt fits (a c t at lt fits h);
      Upto-all = λ u w h k c t at lt. h c t at (stratum-below net is c at);
      one = one-store;
      on-up = λ l k u w f lt upto. asked-up net.cells k (level_of net l) u w upto (named_leaf net l).path lt f.path;
      off-up = λ l k u w f le upto. not_up (list_all (named_free u) (named_leaf net l).path) (list_all (named_free w) (named_leaf net l).path) (free-down net.cells k (level_of net l) u w upto (named_leaf net l).path le f.path);
      told-up = λ l u w f up. entails-above net.cells u w (tells net l) f.told (of_upto u w up);
      tell-store = λ l u f iu. (tell-all net is (tells net l) u f.told iu).store;
      tell-above = λ l u f iu k c t at lt. (tell-all net is (tells net l) u f.told iu).above c t at;
      tell-told = λ l u f iu. (tell-all net is (tells net l) u f.told iu).entails;
      tell-least = λ l k u w f iu iw upto sat. tell-upto l k u w f iu iw upto sat;
    }

    pub leaves-stand : Each (LeafStands net) net.leaves
    leaves-stand = each-by_get (LeafStands net) net.leaves leaf-stands
