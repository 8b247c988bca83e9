-- The net of a program that a table stratifies is stratified.
use Rattle.std.proofs.Common.{◌≡◌, ℕ, zero, suc, ◌+◌, ◌<◌, ◌≤◌, Bool, true, false, cond, List, [], ◌∷◌, ◌++◌, length, map, Some, refl, sym, ap, ◌∙◌, subst, arith}
use Rattle.std.specs.Prelude.{Option, All, Contains, slice_get, slice_index, slice_index_or, nat_lt, option_map, if◌then◌else◌}
use Rattle.std.proofs.lemmas.List.Elements.{All-contains, Contains-append_right}
use Rattle.std.proofs.lemmas.Option.{slice_get-map}
use Rattle.token_system.specs.declared.cell.Token.{Token}
use Rattle.token_system.specs.declared.name.CellName.TheVariants.{Declared}
use Rattle.agent_core.specs.declared.node.CellDecl.{CellDecl}
use Rattle.agent_core.specs.declared.node.Closure.{Closure}
use Rattle.agent_core.specs.Agents.{Agent, Constraint, Skip, Tell, Then, Else, Par, New, Hence, Next, agent_at}
use Rattle.agent_core.specs.Programs.{CoreProgram}
use Rattle.agent_core.specs.WellFormed.{IsWellFormed}
use Rattle.agent_core.specs.Names.{IsClosure, name_of, local_name, new_of, new_cell, cell_named}
use Rattle.agent_core.specs.Scope.{TokenFits, ConstraintFits}
use Rattle.agent_core.specs.Strata.{Each, Stratifies}
use Rattle.agent_core.specs.Leaves as core
use Rattle.agent_core.proofs.NewNodes.{new_of-found}
use Rattle.agent_laws.specs.Laws.{AreClosures}
use Rattle.agent_laws.proofs.Eachs.{Each-map, Each-append, all_each, each_at}
use Rattle.agent_laws.proofs.Instance.{GuardFits}
use Rattle.agent_laws.proofs.LeafLevels.{Under, LeafStratified}
use Rattle.agent_laws.proofs.Floors.{leaves_stratified}
use Rattle.agent_laws.proofs.NodeFloors.{node_floors}
use Rattle.instant_net.specs.declared.parts.Atom.{Atom}
use Rattle.instant_net.specs.declared.parts.NetCell.{NetCell}
use Rattle.instant_net.specs.declared.parts.LeafKind.{LeafKind}
use Rattle.instant_net.specs.declared.parts.LeafKind.TheVariants as kinds
use Rattle.instant_net.specs.NamedLeaves.{Named, NamedGuard, NamedLeaf, told_by}
use Rattle.instant_net.specs.Nets.{Flat, named_at, named_atoms, named_guard, named_kind, named_leaf, net_leaves, atoms_of}
use Rattle.instant_net.specs.Opened.{IsCellOf, IsNetOf}
use Rattle.instant_net.specs.Outputs.{IsStratified}
use Rattle.instant_net.specs.Programs.{token_named, constraint_named, guard_named, kind_named, leaf_named}
use Rattle.instant_net.proofs.Lists.{same-elements}
use Rattle.instant_net.proofs.NetPaths.{above-in_path}
use Rattle.instant_net.proofs.NetRests.{LeafFits, roots-fit}

-- ATOMS BY NAME

-- an atom of a cell is among the named ones
atom-named : (cells : List NetCell) (atoms : List Atom) (a : Atom) (c : NetCell) → slice_get cells a.cell ≡ Some c → Contains atoms a → Contains (named_atoms cells atoms) (record { name = c.name; cell = c.cell; token = a.token })
atom-named cells [] a c at (k, lt, e) = absurd (omega arith)
atom-named cells (x ∷ atoms) a c at (zero, lt, e) =
    let own : named_at (slice_get cells x.cell) x ≡ record { name = c.name; cell = c.cell; token = a.token } ∷ [] =
    ap (λ (y : Atom). named_at (slice_get cells y.cell) y) e ∙ ap (λ (o : Option NetCell). named_at o a) at in
    subst (λ (ys : List Named). Contains (ys ++ named_atoms cells atoms) (record { name = c.name; cell = c.cell; token = a.token })) (sym own) (0, omega arith, refl)
atom-named cells (x ∷ atoms) a c at (suc k, lt, e) = Contains-append_right (named_at (slice_get cells x.cell) x) (named_atoms cells atoms) _ (atom-named cells atoms a c at (k, omega arith, e))

told-named : (cells : List NetCell) (kind : LeafKind) (x : Named) → Contains (named_atoms cells (atoms_of kind)) x → Contains (told_by (named_kind cells kind)) x
told-named cells (kinds.Tells told) x h = h
told-named cells kinds.Idle x h = h
told-named cells (kinds.StartsHence c) x h = h
told-named cells (kinds.StartsNext c) x h = h

module _ (p : CoreProgram) (is : IsWellFormed p) where
  name-cell : (b : List ℕ) (x : ℕ × Token) → TokenFits p b x → cell_named p (name_of p b x.0) ≡ x.0
  name-cell b x f = go (nat_lt x.0 p.declared) refl
    where
      go : (r : Bool) → nat_lt x.0 p.declared ≡ r → cell_named p (cond r (Declared x.0) (local_name p.nodes b (new_of p.nodes x.0))) ≡ x.0
      go true e = refl
      go false e = ap new_cell (new_of-found p is x.0 f.decl e f.found).1

  -- what holds of each cell of a constraint holds of the cell of each name
  asked-each : (P : ℕ → Type 0) (b : List ℕ) (c : Constraint) (z : Named) → ConstraintFits p b c → Each (λ x. P x.0) c → Contains (constraint_named p b c) z → P (cell_named p z.name)
  asked-each P b [] z f h (k, lt, e) = absurd (omega arith)
  asked-each P b (x ∷ c) z f h at =
      let d : CellDecl = f.0.decl in
      let one : Named = record { name = name_of p b x.0; cell = d.cell; token = x.1 } in
      let own : token_named p b x.0 x.1 (slice_get p.cells x.0) ≡ one ∷ [] = ap (λ (o : Option CellDecl). token_named p b x.0 x.1 o) f.0.found in
      go one refl (λ k lt s. asked-each P b c z f.1 h.1 (k, lt, s)) (subst (λ (ys : List Named). Contains (ys ++ constraint_named p b c) z) own at)
    where
      go : (one : Named) → one.name ≡ name_of p b x.0 → ((k : ℕ) → k < length (constraint_named p b c) → slice_index_or (constraint_named p b c) k z ≡ z → P (cell_named p z.name)) → Contains (one ∷ constraint_named p b c) z → P (cell_named p z.name)
      go one e more (zero, lt, s) = subst P (sym (ap (λ (y : Named). cell_named p y.name) (sym s) ∙ ap (cell_named p) e ∙ name-cell b x f.0)) h.0
      go one e more (suc k, lt, s) = more k (omega arith) s

  module _ (table : List ℕ) where
    -- a cell of level k may be told under the guard
    abbrev Allows : ℕ → NamedGuard → Type 0
    Allows k g = (z : Named) → Contains g.ask z → slice_index table (cell_named p z.name) + (if g.negative then 1 else 0) ≤ k

    guard-allows : (k : ℕ) (g : core.Guard) → GuardFits p g → Under table k g → Allows k (guard_named p g)
    guard-allows k (core.Positive b c) f h z at = asked-each (λ n. slice_index table n + 0 ≤ k) b c z f (Each-map (λ x. slice_index table x.0 ≤ k) (λ x. slice_index table x.0 + 0 ≤ k) (λ x l. omega arith) c h) at
    guard-allows k (core.Negative b c) f h z at = asked-each (λ n. slice_index table n + 1 ≤ k) b c z f (Each-map (λ x. slice_index table x.0 < k) (λ x. slice_index table x.0 + 1 ≤ k) (λ x l. omega arith) c h) at

    path-allows : (k : ℕ) (path : List core.Guard) → Each (GuardFits p) path → Each (Under table k) path → All (Allows k) (map (guard_named p) path)
    path-allows k [] f h i d lt = absurd (omega arith)
    path-allows k (g ∷ path) f h zero d lt = guard-allows k g f.0 h.0
    path-allows k (g ∷ path) f h (suc i) d lt = path-allows k path f.1 h.1 i d (omega arith)

    told-allows : (l : core.Leaf) → LeafFits p l → LeafStratified table l → (x : Named) → Contains (told_by (leaf_named p l).kind) x → All (Allows (slice_index table (cell_named p x.name))) (map (guard_named p) l.path)
    told-allows l f h x at =
        let each : Each (λ y. All (Allows (slice_index table y.0)) (map (guard_named p) l.path)) (core.tells l.agent) =
        Each-map (λ y. Each (Under table (slice_index table y.0)) l.path) (λ y. All (Allows (slice_index table y.0)) (map (guard_named p) l.path)) (λ y u. path-allows (slice_index table y.0) l.path f.1 u) (core.tells l.agent) h in
        asked-each (λ n. All (Allows (slice_index table n)) (map (guard_named p) l.path)) l.births (core.tells l.agent) x f.0 each (told l.node l.births l.agent at)
      where
        told : (n : ℕ) (b : List ℕ) (a : Agent) → Contains (told_by (kind_named p n b a)) x → Contains (constraint_named p b (core.tells a)) x
        told n b (Tell c) h = h
        told n b Skip h = h
        told n b (Then c a) h = h
        told n b (Else c a) h = h
        told n b (Par l r) h = h
        told n b (New cell a) h = h
        told n b (Hence a) h = h
        told n b (Next a) h = h

  roots-stratified : (table : List ℕ) → Stratifies p table → (rs : List Closure) → AreClosures p rs → (t : ℕ) → Each (LeafStratified table) (core.leaves p rs t)
  roots-stratified table strat rs own t = go rs (all_each (λ r. IsClosure p r.node r.births) rs own)
    where
      go : (rs : List Closure) → Each (λ r. IsClosure p r.node r.births) rs → Each (LeafStratified table) (core.leaves p rs t)
      go [] h = tt
      go (r ∷ rs) h =
          Each-append (LeafStratified table) (core.leaves_of t (agent_at p.nodes r.node) r.node r.births []) (core.leaves p rs t)
          (leaves_stratified table t (agent_at p.nodes r.node) r.node r.births [] 0 (node_floors p table is strat r.node h.0.node) tt) (go rs h.1)

  -- a leaf of the net is one of the roots'
  leaf-of : (ls : List core.Leaf) (i : ℕ) (x : NamedLeaf) → slice_get (map (leaf_named p) ls) i ≡ Some x → (l : core.Leaf) × (slice_get ls i ≡ Some l) × (leaf_named p l ≡ x)
  leaf-of [] i x e = absurd (cc)
  leaf-of (l ∷ ls) zero x e = (l, refl, cc)
  leaf-of (l ∷ ls) (suc i) x e = leaf-of ls i x e

  pub net-stratified : (table : List ℕ) (rs : List Closure) (t : ℕ) (net : Flat) → IsNetOf p table rs t net → Stratifies p table → IsStratified net
  net-stratified table rs t net of strat l leaf k g at_leaf at_guard up asked told in_ask in_told c d at_c at_d =
      let here : slice_get (net_leaves net) l ≡ Some (named_leaf net leaf) = slice_get-map (named_leaf net) net.leaves l ∙ ap (option_map (named_leaf net)) at_leaf in
      let own = leaf-of (core.leaves p rs t) l (named_leaf net leaf) (ap (λ ls. slice_get ls l) (sym of.leaves) ∙ here) in
      let fits = each_at (LeafFits p) (core.leaves p rs t) l own.0 (roots-fit p is rs of.roots t) own.1 in
      let strata = each_at (LeafStratified table) (core.leaves p rs t) l own.0 (roots-stratified table strat rs of.roots t) own.1 in
      let x : Named = record { name = d.name; cell = d.cell; token = told.token } in
      let z : Named = record { name = c.name; cell = c.cell; token = asked.token } in
      let in_x : Contains (told_by (leaf_named p own.0).kind) x =
      subst (λ (y : NamedLeaf). Contains (told_by y.kind) x) (sym own.2) (told-named net.cells leaf.kind x (atom-named net.cells (atoms_of leaf.kind) told d at_d in_told)) in
      let in_path : Contains (map (guard_named p) own.0.path) (named_guard net.cells g) =
      subst (λ (y : NamedLeaf). Contains y.path (named_guard net.cells g)) (sym own.2) (above-in_path net.cells net.guards (λ j h s. (of.whole.guards j h s).1) k g at_guard leaf.last up) in
      let level_c : c.stratum ≡ slice_index table (cell_named p c.name) = (All-contains (IsCellOf p table) net.cells c of.cells.cells (same-elements net.cells c asked.cell at_c)).stratum in
      let level_d : d.stratum ≡ slice_index table (cell_named p d.name) = (All-contains (IsCellOf p table) net.cells d of.cells.cells (same-elements net.cells d told.cell at_d)).stratum in
      let le = All-contains (Allows table (slice_index table (cell_named p d.name))) (map (guard_named p) own.0.path) (named_guard net.cells g) (told-allows table own.0 fits strata x in_x) in_path z (atom-named net.cells g.ask asked c at_c in_ask) in
      subst (λ (m : ℕ). c.stratum + (if g.negative then 1 else 0) ≤ m) (sym level_d) (subst (λ (m : ℕ). m + (if g.negative then 1 else 0) ≤ slice_index table (cell_named p d.name)) (sym level_c) le)
