-- The outputs of a net are those of its roots.
use Rattle.std.proofs.Common.{◌≡◌, ℕ, zero, suc, Bool, true, false, ◌&&◌, cond, List, [], ◌∷◌, ◌++◌, map, Some, None, refl, sym, ap, ◌∙◌, subst, arith}
use Rattle.std.specs.Prelude.{Option, IsTrue, Contains, slice_get, slice_index_or, unwrap_or}
use Rattle.std.specs.List.{list_all, list_any}
use Rattle.std.specs.Ordering.{eq_by_cmp}
use Rattle.std.specs.FinMap.{empty, get, retain_keys, get-retain_keys, get-empty}
use Rattle.std.proofs.lemmas.Map.Views.{Contains-from_any, list_any-from_Contains, tells_apart}
use Rattle.std.proofs.lemmas.List.Elements.{All-contains}
use Rattle.token_system.specs.declared.cell.Cell.{Cell}
use Rattle.token_system.specs.declared.cell.Token.{Token}
use Rattle.token_system.specs.declared.cell.Value.{Value}
use Rattle.token_system.specs.declared.name.CellName.{CellName}
use Rattle.token_system.specs.declared.name.CellName.TheVariants.{Declared}
use Rattle.token_system.specs.Names.{name_cmp, name_equiv, name_cmp-IsAntisymmetric}
use Rattle.token_system.specs.Tokens.{Fits}
use Rattle.token_system.specs.Values.{value_entails, bottom_of}
use Rattle.token_system.specs.Stores.{StoreMap, value_at, store_entails, IsKeptFor}
use Rattle.token_system.proofs.Alike.{same_tokens}
use Rattle.agent_core.specs.declared.node.CellDecl.{CellDecl}
use Rattle.agent_core.specs.declared.node.Closure.{Closure}
use Rattle.agent_core.specs.Programs.{CoreProgram}
use Rattle.agent_core.specs.Names.{Names}
use Rattle.agent_core.specs.Stores.{IsStore, IsInput}
use Rattle.agent_core.specs.Stores as core
use Rattle.agent_core.specs.Strata.{Each}
use Rattle.agent_core.specs.RootOutputs.{roots_rest, IsOutputOf}
use Rattle.agent_core.specs.Rests.{◌⇒◌}
use Rattle.agent_core.proofs.OneStore.{Names-one, value_at-fits}
use Rattle.agent_core.proofs.Tellings.{empty-Below, Below-refl}
use Rattle.agent_laws.proofs.Eachs.{Each-append, all_each}
use Rattle.agent_laws.proofs.Started.{IsOwn}
use Rattle.agent_laws.proofs.ClosureOutputs.{closures_leaves}
use Rattle.instant_net.specs.declared.parts.Atom.{Atom}
use Rattle.instant_net.specs.declared.parts.NetCell.{NetCell}
use Rattle.instant_net.specs.declared.parts.NetGuard.{NetGuard}
use Rattle.instant_net.specs.declared.parts.NetLeaf.{NetLeaf}
use Rattle.instant_net.specs.declared.parts.LeafKind.{LeafKind}
use Rattle.instant_net.specs.declared.parts.LeafKind.TheVariants as kinds
use Rattle.instant_net.specs.NamedLeaves.{Named, NamedGuard, NamedLeaf, told_by, named_holds, named_entails, named_free, named_asked, named_leaf_rests, leaves_rest}
use Rattle.instant_net.specs.Nets.{Flat, named_at, named_atoms, named_guard, named_kind, named_leaf, net_leaves, path_to, paths_from}
use Rattle.instant_net.specs.Opened.{IsCellOf, IsNetOf}
use Rattle.instant_net.specs.Outputs.{IsStoreOf, IsNetStoreBelow, IsNetOutput}
use Rattle.instant_net.specs.Collecting.{cell_names}
use Rattle.instant_net.proofs.Lists.{same-elements, Contains-map}
use Rattle.instant_net.proofs.NetRests.{net-rests}

-- STORES THAT AGREE ON THE CELLS

abbrev Agree : List NetCell → StoreMap → StoreMap → Type 0
Agree cells u w = (c : NetCell) (t : Token) → Contains cells c → store_entails u c.name c.cell t ≡ store_entails w c.name c.cell t

module _ (cells : List NetCell) (u w : StoreMap) (agree : Agree cells u w) where
  atom-alike : (a : Atom) (o : Option NetCell) → slice_get cells a.cell ≡ o → list_all (named_holds u) (named_at o a) ≡ list_all (named_holds w) (named_at o a)
  atom-alike a None e = refl
  atom-alike a (Some c) e = ap (λ (r : Bool). r && true) (agree c a.token (same-elements cells c a.cell e))

  entails-append : (s : StoreMap) (xs ys : List Named) → named_entails s (xs ++ ys) ≡ (named_entails s xs && named_entails s ys)
  entails-append s [] ys = refl
  entails-append s (x ∷ xs) ys = ap (λ (r : Bool). named_holds s x && r) (entails-append s xs ys) ∙ and_assoc (named_holds s x) (named_entails s xs) (named_entails s ys)
    where
      and_assoc : (a b c : Bool) → (a && (b && c)) ≡ ((a && b) && c)
      and_assoc true b c = refl
      and_assoc false b c = refl

  atoms-alike : (atoms : List Atom) → named_entails u (named_atoms cells atoms) ≡ named_entails w (named_atoms cells atoms)
  atoms-alike [] = refl
  atoms-alike (a ∷ atoms) =
      entails-append u (named_at (slice_get cells a.cell) a) (named_atoms cells atoms)
      ∙ ap (λ (r : Bool). r && named_entails u (named_atoms cells atoms)) (atom-alike a (slice_get cells a.cell) refl)
      ∙ ap (λ (r : Bool). named_entails w (named_at (slice_get cells a.cell) a) && r) (atoms-alike atoms)
      ∙ sym (entails-append w (named_at (slice_get cells a.cell) a) (named_atoms cells atoms))

  abbrev GuardAlike : NamedGuard → Type 0
  GuardAlike g = named_entails u g.ask ≡ named_entails w g.ask

  paths-alike : (paths : List (List NamedGuard)) (guards : List NetGuard) → Each (Each GuardAlike) paths → Each (Each GuardAlike) (paths_from cells paths guards)
  paths-alike paths [] h = h
  paths-alike paths (g ∷ guards) h =
      let x : List NamedGuard = path_to paths g.above ++ named_guard cells g ∷ [] in
      paths-alike (paths ++ x ∷ []) guards (Each-append (Each GuardAlike) paths (x ∷ []) h (Each-append GuardAlike (path_to paths g.above) (named_guard cells g ∷ []) (to paths g.above h) (atoms-alike g.ask, tt), tt))
    where
      at : (paths : List (List NamedGuard)) (k : ℕ) → Each (Each GuardAlike) paths → Each GuardAlike (slice_index_or paths k [])
      at [] k h = tt
      at (y ∷ paths) zero h = h.0
      at (y ∷ paths) (suc k) h = at paths k h.1

      to : (paths : List (List NamedGuard)) (o : Option ℕ) → Each (Each GuardAlike) paths → Each GuardAlike (path_to paths o)
      to paths None h = tt
      to paths (Some k) h = at paths k h

  path-alike : (paths : List (List NamedGuard)) (o : Option ℕ) → Each (Each GuardAlike) paths → Each GuardAlike (path_to paths o)
  path-alike paths None h = tt
  path-alike paths (Some k) h = at paths k h
    where
      at : (paths : List (List NamedGuard)) (k : ℕ) → Each (Each GuardAlike) paths → Each GuardAlike (slice_index_or paths k [])
      at [] k h = tt
      at (y ∷ paths) zero h = h.0
      at (y ∷ paths) (suc k) h = at paths k h.1

  asked-alike : (path : List NamedGuard) → Each GuardAlike path → list_all (named_asked u) path ≡ list_all (named_asked w) path
  asked-alike [] h = refl
  asked-alike (g ∷ path) h = ap (λ (r : Bool). cond g.negative true r && list_all (named_asked u) path) h.0 ∙ ap (λ (r : Bool). named_asked w g && r) (asked-alike path h.1)

  kind-alike : (kind : LeafKind) → named_entails u (told_by (named_kind cells kind)) ≡ named_entails w (told_by (named_kind cells kind))
  kind-alike (kinds.Tells told) = atoms-alike told
  kind-alike kinds.Idle = refl
  kind-alike (kinds.StartsHence c) = refl
  kind-alike (kinds.StartsNext c) = refl

  leaf-alike : (v : StoreMap) (l : NamedLeaf) → Each GuardAlike l.path → named_entails u (told_by l.kind) ≡ named_entails w (told_by l.kind) → named_leaf_rests u v l ≡ named_leaf_rests w v l
  leaf-alike v l h e =
      let by_v : Bool = list_all (named_asked v) l.path ⇒ named_entails v (told_by l.kind) in
      ap (λ (r : Bool). list_all (named_free v) l.path ⇒ ((r ⇒ named_entails u (told_by l.kind)) && by_v)) (asked-alike l.path h)
      ∙ ap (λ (r : Bool). list_all (named_free v) l.path ⇒ ((list_all (named_asked w) l.path ⇒ r) && by_v)) e

  leaves-alike : (v : StoreMap) (net : Flat) → net.cells ≡ cells → (ls : List NetLeaf) → leaves_rest (map (named_leaf (record net { cells = cells })) ls) u v ≡ leaves_rest (map (named_leaf (record net { cells = cells })) ls) w v
  leaves-alike v net e [] = refl
  leaves-alike v net e (l ∷ ls) =
      let net' : Flat = record net { cells = cells } in
      ap (λ (r : Bool). r && leaves_rest (map (named_leaf net') ls) u v)
      (leaf-alike v (named_leaf net' l) (path-alike (paths_from cells [] net.guards) l.last (paths-alike [] net.guards tt)) (kind-alike l.kind))
      ∙ ap (λ (r : Bool). named_leaf_rests w v (named_leaf net' l) && r) (leaves-alike v net e ls)

-- STORES OF THE NET AND OF THE PROGRAM

none-entails : (s : StoreMap) (n : CellName) (c : Cell) (t : Token) → get s n ≡ None → store_entails s n c t ≡ store_entails empty n c t
none-entails s n c t e = ap (λ (o : Option Value). value_entails (unwrap_or o (bottom_of c)) t) (e ∙ sym (get-empty name_cmp n))

name-in : (cells : List NetCell) (n : CellName) → Contains (cell_names cells) n → (c : NetCell) × Contains cells c × (c.name ≡ n)
name-in [] n (k, lt, e) = absurd (omega arith)
name-in (c ∷ cells) n (zero, lt, e) = (c, (0, omega arith, refl), e)
name-in (c ∷ cells) n (suc k, lt, e) = let r = name-in cells n (k, omega arith, e) in (r.0, (suc r.1.0, omega (arith, r.1.1), r.1.2), r.2)

module _ (p : CoreProgram) (table : List ℕ) (rs : List Closure) (t : ℕ) (net : Flat) (of : IsNetOf p table rs t net) where
  pub cell-of : (c : NetCell) → Contains net.cells c → IsCellOf p table c
  cell-of c h = All-contains (IsCellOf p table) net.cells c of.cells.cells h

  -- a cell of this name has the cell that is declared for it
  pub cell-same : (c : NetCell) (n : CellName) (d : CellDecl) → Contains net.cells c → c.name ≡ n → Names p n d → c.cell ≡ d.cell
  cell-same c n d h e named =
      let one = cell-of c h in
      one.cell ∙ ap (λ (x : CellDecl). x.cell) (Names-one p n one.decl d (subst (λ (q : CellName). Names p q one.decl) e one.named) named)

  pub store-up : (s : StoreMap) → IsStoreOf net.cells s → IsStore p s
  store-up s h n x e =
      let r = h n x e in
      let one = cell-of r.0 r.1 in
      (one.decl, subst (λ (q : CellName). Names p q one.decl) r.2 one.named, subst (λ (c : Cell). IsKeptFor c x) one.cell r.3)

  pub below-up : (u v : StoreMap) → IsStoreOf net.cells u → IsStore p v → IsNetStoreBelow net.cells u v → core.Below p u v
  below-up u v iu iv h n d x named fits up = go (get u n) refl
    where
      go : (o : Option Value) → get u n ≡ o → IsTrue (store_entails v n d.cell x)
      go None e = empty-Below p v iv n d x named fits (sym (none-entails u n d.cell x e) ∙ up)
      go (Some y) e =
          let r = iu n y e in
          let same : r.0.cell ≡ d.cell = cell-same r.0 n d r.1 r.2 named in
          subst (λ (c : Cell). IsTrue (store_entails v n c x)) same
          (subst (λ (q : CellName). IsTrue (store_entails v q r.0.cell x)) r.2
          (h r.0 x r.1 (subst (λ (c : Cell). Fits c x) (sym same) fits)
          (subst (λ (q : CellName). IsTrue (store_entails u q r.0.cell x)) (sym r.2) (subst (λ (c : Cell). IsTrue (store_entails u n c x)) (sym same) up))))

  pub below-down : (u v : StoreMap) → core.Below p u v → IsNetStoreBelow net.cells u v
  below-down u v h c x at fits up =
      let one = cell-of c at in
      subst (λ (y : Cell). IsTrue (store_entails v c.name y x)) (sym one.cell)
      (h c.name one.decl x one.named (subst (λ (y : Cell). Fits y x) one.cell fits) (subst (λ (y : Cell). IsTrue (store_entails u c.name y x)) one.cell up))

  input-down : (s : StoreMap) → IsInput p s → IsStoreOf net.cells s
  input-down s is n x e =
      let k = is.declared n x e in
      let r = is.store n x e in
      let named : Names p (Declared k.0) r.0 = subst (λ (q : CellName). Names p q r.0) k.1 r.1 in
      let at = of.cells.declared k.0 named.0 in
      let stands : Contains net.cells at.0 = same-elements net.cells at.0 k.0 at.1 in
      let called : at.0.name ≡ n = at.2 ∙ sym k.1 in
      (at.0, stands, called, subst (λ (c : Cell). IsKeptFor c x) (sym (cell-same at.0 n r.0 stands called r.1)) r.2)

  store-down : (u v : StoreMap) → IsStore p u → IsStoreOf net.cells v → core.Below p u v → IsStoreOf net.cells u
  store-down u v iu sv below n x e = go (get v n) refl
    where
      r : (d : CellDecl) × Names p n d × IsKeptFor d.cell x
      r = iu n x e

      go : (o : Option Value) → get v n ≡ o → (c : NetCell) × Contains net.cells c × (c.name ≡ n) × IsKeptFor c.cell x
      go (Some y) f =
          let s = sv n y f in
          (s.0, s.1, s.2, subst (λ (c : Cell). IsKeptFor c x) (sym (cell-same s.0 n r.0 s.1 s.2 r.1)) r.2)
      go None f =
          let iv = store-up v sv in
          let a = value_at-fits p u n r.0 iu r.1 in
          let b = value_at-fits p v n r.0 iv r.1 in
          let same : value_at u n r.0.cell ≡ value_at v n r.0.cell =
          same_tokens r.0.cell.kind r.0.cell.lo r.0.cell.hi (value_at u n r.0.cell) (value_at v n r.0.cell) r.0.cell.lawful a.0 a.1 b.0 b.1
          (λ y fit h. below n r.0 y r.1 fit h) (λ y fit h. empty-Below p u iu n r.0 y r.1 fit (sym (none-entails v n r.0.cell y f) ∙ h)) in
          absurd (r.2.not_bottom (ap (λ (o : Option Value). unwrap_or o (bottom_of r.0.cell)) (sym e) ∙ same ∙ ap (λ (o : Option Value). unwrap_or o (bottom_of r.0.cell)) f))

  -- THE STORE ON THE NET'S CELLS ALONE

  is_named : CellName → Bool
  is_named q = list_any (eq_by_cmp name_cmp q) (cell_names net.cells)

  abbrev restricted : StoreMap → StoreMap
  restricted v = retain_keys v is_named

  get-restricted : (v : StoreMap) (q : CellName) → get (restricted v) q ≡ cond (is_named q) (get v q) None
  get-restricted v q = get-retain_keys v is_named q (λ x e. ap is_named (sym (name_cmp-IsAntisymmetric q x e)))

  named-in : (q : CellName) → is_named q ≡ true → (c : NetCell) × Contains net.cells c × (c.name ≡ q)
  unfolding is_named
  named-in q e = name-in net.cells q (Contains-from_any (tells_apart name_cmp-IsAntisymmetric) q (cell_names net.cells) e)

  in-named : (c : NetCell) → Contains net.cells c → is_named c.name ≡ true
  unfolding is_named
  in-named c h = list_any-from_Contains name_equiv c.name (cell_names net.cells) (Contains-map (λ (x : NetCell). x.name) net.cells c h)

  restricted-store : (v : StoreMap) → IsStore p v → IsStoreOf net.cells (restricted v)
  restricted-store v iv n x e = go (is_named n) refl
    where
      go : (b : Bool) → is_named n ≡ b → (c : NetCell) × Contains net.cells c × (c.name ≡ n) × IsKeptFor c.cell x
      go true f =
          let c = named-in n f in
          let r = iv n x (ap (λ (b : Bool). cond b (get v n) None) (sym f) ∙ sym (get-restricted v n) ∙ e) in
          (c.0, c.1, c.2, subst (λ (y : Cell). IsKeptFor y x) (sym (cell-same c.0 n r.0 c.1 c.2 r.1)) r.2)
      go false f = absurd (let g : None ≡ Some x = ap (λ (b : Bool). cond b (get v n) None) (sym f) ∙ sym (get-restricted v n) ∙ e in cc)

  restricted-agree : (v : StoreMap) → Agree net.cells (restricted v) v
  restricted-agree v c x at = ap (λ (o : Option Value). value_entails (unwrap_or o (bottom_of c.cell)) x) (get-restricted v c.name ∙ ap (λ (b : Bool). cond b (get v c.name) None) (in-named c at))

  -- OUTPUTS

  abbrev rest_here : StoreMap → StoreMap → Bool
  rest_here u v = leaves_rest (net_leaves net) u v

  pub rests-same : (u v : StoreMap) → core.Below p u v → roots_rest p rs t u v ≡ rest_here u v
  rests-same u v below = closures_leaves p of.program rs (all_each (IsOwn p) rs of.roots) t u v below ∙ sym (net-rests p table rs t net of u v)

  roots-output : (i v : StoreMap) → IsNetOutput net i v → IsOutputOf p rs t i v
  roots-output i v o =
      let iv = store-up v o.store in
      record {
        given = store-up i o.given;
        store = iv;
        above = below-up i v o.given iv o.above;
        rests = rests-same v v (Below-refl p v) ∙ o.rests;
        least = λ u iu bi bv r. o.least u (store-down u v iu o.store bv) (below-down i u bi) (below-down u v bv) (sym (rests-same u v bv) ∙ r);
      }

  net-output : (i v : StoreMap) → IsInput p i → IsOutputOf p rs t i v → IsNetOutput net i v
  net-output i v is o =
      let w : StoreMap = restricted v in
      let si = input-down i is in
      let sw = restricted-store v o.store in
      let iw = store-up w sw in
      let above : core.Below p i w =
      below-up i w si iw (λ c x at fits up. sym (sym (below-down i v o.above c x at fits up) ∙ sym (restricted-agree v c x at))) in
      let below : core.Below p w v = below-up w v sw o.store (λ c x at fits up. sym (restricted-agree v c x at) ∙ up) in
      let rest : IsTrue (roots_rest p rs t w v) =
      rests-same w v below ∙ leaves-alike net.cells w v (restricted-agree v) v net refl net.leaves ∙ sym (rests-same v v (Below-refl p v)) ∙ o.rests in
      let same : w ≡ v = o.least w iw above below rest in
      record {
        given = si;
        store = subst (IsStoreOf net.cells) same sw;
        above = below-down i v o.above;
        rests = sym (rests-same v v (Below-refl p v)) ∙ o.rests;
        least = λ u su bi bv r.
            let iu = store-up u su in
            let ub = below-up u v su o.store bv in
            o.least u iu (below-up i u si iu bi) ub (rests-same u v ub ∙ r);
      }

  pub same-outputs : (i v : StoreMap) → IsInput p i → (IsNetOutput net i v → IsOutputOf p rs t i v) × (IsOutputOf p rs t i v → IsNetOutput net i v)
  same-outputs i v is = (roots-output i v, net-output i v is)
