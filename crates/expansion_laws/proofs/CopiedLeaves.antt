-- The leaves that copy tells inside a watching or a time.
use Rattle.std.proofs.Common.{◌≡◌, ℕ, zero, suc, ◌+◌, ◌<◌, Bool, true, false, List, [], ◌∷◌, ◌++◌, length, Some, refl, sym, ap, subst, ◌∙◌, arith, ◌⊎◌, inl, inr}
use Rattle.std.specs.Prelude.{Option, slice_get, Contains, nat_lt, if◌then◌else◌}
use Rattle.std.proofs.lemmas.Bool.{lt-ltb, false≢true}
use Rattle.std.proofs.lemmas.List.{append-nil, take-append-le, length-map}
use Rattle.token_system.specs.declared.cell.Token.{Token}
use Rattle.token_system.specs.declared.name.CellName.{CellName}
use Rattle.token_system.specs.declared.name.CellName.TheVariants.{Declared, Local}
use Rattle.token_system.specs.Stores.{StoreMap}
use Rattle.agent_core.specs.Agents.{Constraint}
use Rattle.agent_core.specs.Agents as agent
use Rattle.agent_core.specs.Programs.{CoreProgram}
use Rattle.agent_core.specs.Names.{depth_of, new_of, local_name, name_of}
use Rattle.agent_core.specs.WellFormed.{IsAmong, IsWellFormed, count_up}
use Rattle.agent_core.specs.Leaves.{Leaf}
use Rattle.agent_core.proofs.Standing.{StandsAt}
use Rattle.agent_core.proofs.NewNodes.{new_of-one}
use Rattle.agent_laws.proofs.Eachs.{Each-map, each_all}
use Rattle.program_lexemes.specs.declared.bytes.TextForm.{TextForm}
use Rattle.tdcc_reader.specs.Surfaces.{SurfaceProgram}
use Rattle.tdcc_reader.specs.Trees.{Tree, Tell, Watch, Time, form_count, form_listing}
use Rattle.surface_laws.specs.Surfaces.{IsScopedTree, bare, IsWellFormedSurface}
use Rattle.expansion_laws.specs.SymbolicAgents.{SymbolicAgent, origins, binders}
use Rattle.expansion_laws.specs.Numbering.{Binding, bound_constraint}
use Rattle.expansion_laws.specs.Expanding.{symbolic_of}
use Rattle.expansion_laws.specs.Expansions.{IsCoreOfSymbolic}
use Rattle.expansion_laws.specs.Origins.{subtree, subtrees, cell_binders, copied, IsAround, AreAround}
use Rattle.expansion_laws.specs.Paths.{IsCopyOf, IsAddedFor, TellsStem, StemsFrom, IsTellInside, TellsAreGuarded, TellsAreClocked, IsOnClock}
use Rattle.expansion_laws.proofs.OneTree.{one_tree}
use Rattle.expansion_laws.proofs.Walks.{Way, way, cells_of, IsKnown, AreKnown, Reads, EachTell}
use Rattle.expansion_laws.proofs.Stemming.{Stems, Has}
use Rattle.expansion_laws.proofs.Enclosing.{IsBelow}
use Rattle.expansion_laws.proofs.Guarding.{IsGuarded, tree_guards}
use Rattle.expansion_laws.proofs.Clocking.{IsClocked, tree_clocks}
use Rattle.expansion_laws.proofs.Copying.{Stemming, tells_stem}
use Rattle.expansion_laws.proofs.Numbered.{AreOver, over_one}
use Rattle.expansion_laws.proofs.ToldLeaves.{symbolic_told}

-- BINDERS

length-count_up : (first n : ℕ) → length (count_up first n) ≡ n
length-count_up first zero = refl
length-count_up first (suc n) = ap suc (length-count_up (suc first) n)

pub counted : (first n x : ℕ) (rest : List ℕ) → x < n → slice_get (count_up first n ++ rest) x ≡ Some (first + x)
counted first zero x rest lt = absurd (omega arith)
counted first (suc n) zero rest lt = ap Some (omega arith)
counted first (suc n) (suc x) rest lt = counted (suc first) n x rest (omega arith) ∙ ap Some (omega arith)

pub binders_stand : (s : SurfaceProgram) (d : SymbolicAgent) → StandsAt ℕ (cell_binders s d) s.declared (binders d)
binders_stand s d = record {
  front = count_up 0 s.declared;
  back = [];
  whole = ap (λ (xs : List ℕ). count_up 0 s.declared ++ xs) (sym (append-nil (binders d)));
  long = length-count_up 0 s.declared;
}

own_binders : (s : SurfaceProgram) (d : SymbolicAgent) (binder : ℕ) → IsKnown s.declared [] binder → Reads (cell_binders s d) s.declared [] binder
own_binders s d binder (inl lt) = record { bound = counted 0 s.declared binder (binders d) lt ∙ ap Some (omega arith); known = inl lt }
own_binders s d binder (inr among) = absurd among

-- NEWS AROUND

pub around_one : (p : CoreProgram) (n : ℕ) (cells : List ℕ) (cell : ℕ) → AreOver p n 1 cells → IsAmong cells cell → IsAround p cell n
around_one p n cells cell over among =
    let o = (over_one p n 1 cells cell over among).2 in
    let inside = o.inside in
    record { new = o.new; body = o.body; found = o.found; behind = o.behind; inside = omega arith }

-- each known cell is declared, or its new stands around
all_around : (p : CoreProgram) (n : ℕ) (cells : List ℕ) → AreOver p n 1 cells → (ask : Constraint) → AreKnown p.declared cells ask → AreAround p ask n
all_around p n cells over ask known =
    each_all (λ (pair : ℕ × Token). (pair.0 < p.declared) ⊎ IsAround p pair.0 n) ask
    (Each-map (λ (pair : ℕ × Token). IsKnown p.declared cells pair.0) (λ (pair : ℕ × Token). (pair.0 < p.declared) ⊎ IsAround p pair.0 n) (λ pair h. one pair.0 h) ask known)
  where
    one : (x : ℕ) → IsKnown p.declared cells x → (x < p.declared) ⊎ IsAround p x n
    one x (inl lt) = inl lt
    one x (inr among) = inr (around_one p n cells x over among)

over_older : (p : CoreProgram) (k form_count : ℕ) (newer older : List Binding) → AreOver p k form_count (cells_of (newer ++ older)) → AreOver p k form_count (cells_of older)
over_older p k form_count [] older h = h
over_older p k form_count (q ∷ newer) older h = over_older p k form_count newer older h.1

-- a cell whose new stands around is named under the first births as under all
module _ (p : CoreProgram) (is : IsWellFormed p) (k form_count : ℕ) (cells births more : List ℕ) (over : AreOver p k form_count cells) (even : length births ≡ length cells) (x : ℕ) where
  local_same : IsAmong cells x → local_name p.nodes births (new_of p.nodes x) ≡ local_name p.nodes (births ++ more) (new_of p.nodes x)
  local_same among =
      let found = over_one p k form_count cells x over among in
      let o = found.2 in
      let lt = found.1 in
      let deep : depth_of p.nodes (new_of p.nodes x) ≡ found.0 = ap (depth_of p.nodes) (new_of-one p is o.new x o.body o.found) ∙ o.deep in
      ap (Local (new_of p.nodes x)) (sym (take-append-le (suc (depth_of p.nodes (new_of p.nodes x))) births more (omega arith)))

  pub name_same : IsKnown p.declared cells x → name_of p births x ≡ name_of p (births ++ more) x
  name_same known = go (nat_lt x p.declared) refl
    where
      under : List ℕ → CellName
      under b = local_name p.nodes b (new_of p.nodes x)

      local : IsKnown p.declared cells x → nat_lt x p.declared ≡ false → under births ≡ under (births ++ more)
      local (inl lt) r = absurd (false≢true (sym r ∙ lt-ltb x p.declared lt))
      local (inr among) r = local_same among

      go : (b : Bool) → nat_lt x p.declared ≡ b → (if b then Declared x else under births) ≡ (if b then Declared x else under (births ++ more))
      go true r = refl
      go false r = local known r

-- the constraints of a well-formed surface are in scope, as its tree has them
pub in_scope_there : (form : TextForm) (s : SurfaceProgram) (tree : Tree) → IsWellFormedSurface form s → s.forms ≡ form_listing 0 tree → IsScopedTree (bare s) [] tree
in_scope_there form s tree well forms = subst (λ (t : Tree). IsScopedTree (bare s) [] t) (one_tree well.tree tree (sym well.forms ∙ forms)) well.scoped

-- LEAVES

-- the leaf that stands at a tell stems from the form from which the tell does
pub stems_there : (s : SurfaceProgram) (d : SymbolicAgent) (l : Leaf) (told : Constraint) (form : ℕ) (o : Option ℕ) → slice_get (origins d) l.node ≡ Some o → l.agent ≡ agent.Tell told → StemsFrom s d l form → Stems (length s.cells) (cell_binders s d) o told form
stems_there s d l told form o found tells (inl e) = inl (cc)
stems_there s d l told form o found tells (inr (e, added)) = inr (cc, (added.0, added.1, let same = added.2 in cc))

-- what is shown of the tells of a tree's symbolic agent that stem from forms below a form holds of the tell leaves inside that form
module _ (s : SurfaceProgram) (tree : Tree) (p : CoreProgram) (made : IsCoreOfSymbolic s (symbolic_of (length s.cells) 0 tree) p) (m : ℕ) (a x : Tree) (long : form_count x ≡ suc (form_count a)) (G : Way → Type 0) where
  abbrev pub HasThere : Leaf → Type 0
  HasThere l = (scope : List Binding) × AreOver p l.node 1 (cells_of scope) × G (way scope l.births l.path)

  pub inside_has : EachTell (cell_binders s (symbolic_of (length s.cells) 0 tree)) (Has (length s.cells) (cell_binders s (symbolic_of (length s.cells) 0 tree)) (IsBelow m x) G) (way [] [] []) (symbolic_of (length s.cells) 0 tree)
      → (z : List StoreMap) (l : Leaf) → IsTellInside s (symbolic_of (length s.cells) 0 tree) p z m a l → HasThere l
  inside_has each z l inside =
      let cells = length s.cells in
      let symbolic = symbolic_of cells 0 tree in
      let ms = cell_binders s symbolic in
      let at = symbolic_told p ms s.declared symbolic (Has cells ms (IsBelow m x) G) made.nodes (binders_stand s symbolic) each z (length z) l inside.leaf inside.ask inside.tells in
      let stems = stems_there s symbolic l inside.ask inside.form at.origin at.found inside.tells inside.stems in
      let before = inside.before in
      let same = subst (λ (ask : Constraint). Stems cells ms at.origin ask inside.form) at.tells stems in
      (at.scope, at.over, at.holds inside.form same (inside.behind, omega arith))

pub guarded_leaves : (s : SurfaceProgram) (tree : Tree) (p : CoreProgram) → IsCoreOfSymbolic s (symbolic_of (length s.cells) 0 tree) p → TellsAreGuarded s tree (symbolic_of (length s.cells) 0 tree) p
guarded_leaves s tree p made m a c z l at inside =
    let cells = length s.cells in
    let ms = cell_binders s (symbolic_of cells 0 tree) in
    let there = inside_has s tree p made m a (Watch a c) refl (IsGuarded ms (cells + m)) (tree_guards cells ms tree m a c at) z l inside in
    let g = there.2 in
    (g.cell, g.bound, around_one p l.node (cells_of there.0) g.cell there.1 g.around, g.denies)

-- what is known of the cells of the clock's ask
module _ (s : SurfaceProgram) (p : CoreProgram) (is : IsWellFormed p) (same : p.declared ≡ s.declared) (ms : List ℕ) (c : Constraint) (scope : List Binding) (l : Leaf) (over : AreOver p l.node 1 (cells_of scope)) (g : IsClocked ms s.declared c (way scope l.births l.path)) where
  still_over : AreOver p l.node 1 (cells_of g.older)
  still_over = over_older p l.node 1 g.newer g.older (subst (λ (q : List Binding). AreOver p l.node 1 (cells_of q)) g.last over)

  known : AreKnown p.declared (cells_of g.older) g.ask
  known = subst (λ (floor : ℕ). AreKnown floor (cells_of g.older) g.ask) (sym same) g.known

  named : (x : ℕ) → IsKnown p.declared (cells_of g.older) x → name_of p g.births x ≡ name_of p l.births x
  named x h =
      name_same p is l.node 1 (cells_of g.older) g.births g.more still_over (g.even ∙ sym (length-map g.older (λ (q : Binding). q.cell))) x h
      ∙ ap (λ (b : List ℕ). name_of p b x) (sym g.first)

  pub on_clock : (d : SymbolicAgent) → ms ≡ cell_binders s d → IsOnClock s d p l c
  on_clock d e = record {
    ask = g.ask;
    copies = subst (λ (xs : List ℕ). copied xs g.ask ≡ c) e g.copies;
    around = all_around p l.node (cells_of g.older) still_over g.ask known;
    births = g.births;
    asks = g.asks;
    same = each_all (λ (pair : ℕ × Token). name_of p g.births pair.0 ≡ name_of p l.births pair.0) g.ask
        (Each-map (λ (pair : ℕ × Token). IsKnown p.declared (cells_of g.older) pair.0) (λ (pair : ℕ × Token). name_of p g.births pair.0 ≡ name_of p l.births pair.0) (λ pair h. named pair.0 h) g.ask known);
  }

pub clocked_leaves : (s : SurfaceProgram) (tree : Tree) (p : CoreProgram) → IsWellFormed p → IsScopedTree (bare s) [] tree → IsCoreOfSymbolic s (symbolic_of (length s.cells) 0 tree) p
    → TellsAreClocked s tree (symbolic_of (length s.cells) 0 tree) p
clocked_leaves s tree p is scoped made m a c z l at inside =
    let cells = length s.cells in
    let d = symbolic_of cells 0 tree in
    let ms = cell_binders s d in
    let each = tree_clocks (bare s) cells ms tree m a c scoped (own_binders s d) at in
    let there = inside_has s tree p made m a (Time a c) refl (IsClocked ms s.declared c) each z l inside in
    on_clock s p is made.declared ms c there.0 l there.1 there.2 d refl

pub stemming_leaves : (s : SurfaceProgram) (tree : Tree) (p : CoreProgram) → IsScopedTree (bare s) [] tree → IsCoreOfSymbolic s (symbolic_of (length s.cells) 0 tree) p → TellsStem s tree (symbolic_of (length s.cells) 0 tree) p
stemming_leaves s tree p scoped made z l ask leaf tells =
    let cells = length s.cells in
    let d = symbolic_of cells 0 tree in
    let ms = cell_binders s d in
    let each = tells_stem (bare s) cells ms (subtrees 0 tree) tree [] 0 (λ y k. k) scoped (way [] [] []) (record { even = refl; reads = own_binders s d }) in
    let at = symbolic_told p ms s.declared d (Stemming (bare s) cells ms (subtrees 0 tree)) made.nodes (binders_stand s d) each z (length z) l leaf ask tells in
    go (cell_binders s d) at.origin at.found at.scope at.over at.ask at.tells at.holds refl
  where
    go : (ms : List ℕ) (o : Option ℕ) → slice_get (origins (symbolic_of (length s.cells) 0 tree)) l.node ≡ Some o → (scope : List Binding) → AreOver p l.node 1 (cells_of scope) → (b : Constraint) → ask ≡ bound_constraint scope b
        → Stemming (bare s) (length s.cells) ms (subtrees 0 tree) o (way scope l.births l.path) b → ms ≡ cell_binders s (symbolic_of (length s.cells) 0 tree)
        → ((m : ℕ) × (c : Constraint) × Contains (subtrees 0 tree) (subtree m (Tell c)) × IsCopyOf s (symbolic_of (length s.cells) 0 tree) p m c l ask)
        ⊎ ((m : ℕ) × (t : Tree) × Contains (subtrees 0 tree) (subtree m t) × IsAddedFor s (symbolic_of (length s.cells) 0 tree) p m l ask)
    go ms o found scope over b same (inl c) e = inl (
      c.form,
      c.ask,
      c.there,
      record {
        origin = found ∙ ap Some c.origin;
        copies = ap (copied (cell_binders s (symbolic_of (length s.cells) 0 tree))) same ∙ subst (λ (xs : List ℕ). copied xs (bound_constraint scope b) ≡ c.ask) e c.copies;
        around = all_around p l.node (cells_of scope) over ask (subst (λ (x : Constraint). AreKnown p.declared (cells_of scope) x) (sym same) (subst (λ (floor : ℕ). AreKnown floor (cells_of scope) (bound_constraint scope b)) (sym made.declared) c.known));
      },
    )
    go ms o found scope over b same (inr a) e = inr (
      a.form,
      a.tree,
      a.there,
      record {
        origin = found ∙ ap Some a.origin;
        hidden = a.hidden;
        is = subst (λ (xs : List ℕ). slice_get xs a.hidden ≡ Some (length s.cells + a.form)) e a.bound;
        around = around_one p l.node (cells_of scope) a.hidden over a.around;
        tells = same ∙ a.tells;
      },
    )
