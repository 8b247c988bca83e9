-- The core program of a surface: there is one, and it is a program with good names.
use Rattle.std.proofs.Common.{◌≡◌, ◌⊎◌, inl, inr, ℕ, zero, suc, ◌+◌, ◌-◌, ◌<◌, ◌≤◌, List, [], ◌∷◌, ◌++◌, length, take, Option, Some, None, refl, sym, ap, ◌∙◌, subst, arith, length-append}
use Rattle.std.specs.Prelude.{slice_get, unwrap_or, filter_map}
use Rattle.std.proofs.lemmas.List.{length-take-le, append-nil}
use Rattle.std.proofs.lemmas.Option.{slice_get_within}
use Rattle.program_lexemes.specs.declared.bytes.TextForm.TheVariants.{Program}
use Rattle.agent_core.specs.declared.node.CellDecl.{CellDecl}
use Rattle.agent_core.specs.declared.node.Node.{Node}
use Rattle.agent_core.specs.Agents.{agent_at}
use Rattle.agent_core.specs.Programs.{CoreProgram}
use Rattle.agent_core.specs.Listing as core
use Rattle.agent_core.specs.WellFormed.{IsWellFormed, Scoped, cell_of, count_up}
use Rattle.agent_core.proofs.Standing.{StandsAt}
use Rattle.agent_core.proofs.ListingTrees.{length-listing, root_tree}
use Rattle.tdcc_reader.specs.Surfaces.{SurfaceProgram}
use Rattle.tdcc_reader.specs.Trees.{Tree}
use Rattle.core_text.specs.CoreTexts.{name_at}
use Rattle.core_text.specs.GoodNames.{IsCoreName, AreFresh, HasGoodNames}
use Rattle.surface_laws.specs.Surfaces.{IsWellFormedSurface}
use Rattle.expansion_laws.specs.SymbolicAgents.{SymbolicAgent, symbolic_size, binders}
use Rattle.expansion_laws.specs.Numbering.{bound_agent, hidden, cells_from}
use Rattle.expansion_laws.specs.Expanding.{symbolic_of}
use Rattle.expansion_laws.specs.Expansions.{IsSymbolicOf, IsCoreOfSymbolic, IsExpansion}
use Rattle.expansion_laws.proofs.OneTree.{one_tree}
use Rattle.expansion_laws.proofs.Counted.{size-agent_of, news_counted, length-cells_from}
use Rattle.expansion_laws.proofs.Sound.{Sound, widens_same}
use Rattle.expansion_laws.proofs.SoundForms.{symbolic_sound}
use Rattle.expansion_laws.proofs.SoundAgents.{copy, IsOver, agent_sound}
use Rattle.expansion_laws.proofs.HiddenNames.{core_name, hidden_name, same_name}

-- ONE SYMBOLIC AGENT AND ONE PROGRAM

pub one_symbolic : (s : SurfaceProgram) (d e : SymbolicAgent) → IsSymbolicOf s d → IsSymbolicOf s e → d ≡ e
one_symbolic s d e h k =
    let same : h.tree ≡ k.tree = one_tree h.tree k.tree (sym h.written ∙ k.written) in
    h.symbolic ∙ ap (symbolic_of (length s.cells) 0) same ∙ sym k.symbolic

pub one_expansion : (s : SurfaceProgram) (p q : CoreProgram) → IsExpansion s p → IsExpansion s q → p ≡ q
one_expansion s p q (d, is, e) (d', is', e') =
    let same : d ≡ d' = one_symbolic s d d' is is' in
    let cells : p.cells ≡ q.cells = e.cells ∙ ap (λ (x : SymbolicAgent). take s.declared s.cells ++ cells_from s.cells s.declared (binders x)) same ∙ sym e'.cells in
    let declared : p.declared ≡ q.declared = e.declared ∙ sym e'.declared in
    let nodes : p.nodes ≡ q.nodes = e.nodes ∙ ap (λ (x : SymbolicAgent). core.listing 0 (bound_agent [] s.declared x)) same ∙ sym e'.nodes in
    ap (λ (x : List CellDecl). record { cells = x; declared = p.declared; nodes = p.nodes }) cells
    ∙ ap (λ (x : ℕ). record { cells = q.cells; declared = x; nodes = p.nodes }) declared
    ∙ ap (λ (x : List Node). record { cells = q.cells; declared = q.declared; nodes = x }) nodes

-- the core program of a tree
abbrev made : SurfaceProgram → Tree → CoreProgram
made s tree = let d : SymbolicAgent = symbolic_of (length s.cells) 0 tree in record {
  cells = take s.declared s.cells ++ cells_from s.cells s.declared (binders d);
  declared = s.declared;
  nodes = core.listing 0 (bound_agent [] s.declared d);
}

pub some_expansion : (s : SurfaceProgram) → IsWellFormedSurface Program s → (p : CoreProgram) × IsExpansion s p
some_expansion s is = (
  made s is.tree,
  (
    symbolic_of (length s.cells) 0 is.tree,
    record { tree = is.tree; written = is.forms; symbolic = refl },
    record { nodes = refl; cells = refl; declared = refl },
  ),
)

-- SIZES

pub nodes_many : (s : SurfaceProgram) (d : SymbolicAgent) (p : CoreProgram) → IsCoreOfSymbolic s d p → length p.nodes ≡ symbolic_size d
nodes_many s d p e = ap length e.nodes ∙ length-listing 0 (bound_agent [] s.declared d) ∙ size-agent_of [] s.declared d

pub cells_many : (s : SurfaceProgram) (d : SymbolicAgent) (p : CoreProgram) → IsWellFormedSurface Program s → IsCoreOfSymbolic s d p → length p.cells ≡ s.declared + length (binders d)
cells_many s d p is e =
    let front : length (take s.declared s.cells) ≡ s.declared = length-take-le s.declared s.cells is.within in
    ap length e.cells
    ∙ length-append (take s.declared s.cells) (cells_from s.cells s.declared (binders d))
    ∙ ap (λ (k : ℕ). k + length (cells_from s.cells s.declared (binders d))) front
    ∙ ap (λ (k : ℕ). s.declared + k) (length-cells_from s.cells s.declared (binders d))

-- THE CELLS

front_get : (xs ys : List CellDecl) (n c : ℕ) → c < n → n ≤ length xs → slice_get (take n xs ++ ys) c ≡ slice_get xs c
front_get xs ys zero c lt le = absurd (omega arith)
front_get [] ys (suc n) c lt le = absurd (omega arith)
front_get (x ∷ xs) ys (suc n) zero lt le = refl
front_get (x ∷ xs) ys (suc n) (suc c) lt le = front_get xs ys n c (omega arith) (omega arith)

-- a cell behind the front
back_get : (xs ys : List CellDecl) (n : ℕ) (d : CellDecl) → slice_get (xs ++ ys) n ≡ Some d → (n < length xs) ⊎ ((k : ℕ) × (n ≡ length xs + k) × (slice_get ys k ≡ Some d))
back_get [] ys n d e = inr (n, (omega arith), e)
back_get (x ∷ xs) ys zero d e = inl (omega arith)
back_get (x ∷ xs) ys (suc n) d e = go (back_get xs ys n d e)
  where
    go : (n < length xs) ⊎ ((k : ℕ) × (n ≡ length xs + k) × (slice_get ys k ≡ Some d)) → (suc n < length (x ∷ xs)) ⊎ ((k : ℕ) × (suc n ≡ length (x ∷ xs) + k) × (slice_get ys k ≡ Some d))
    go (inl lt) = inl (omega arith)
    go (inr (k, same, f)) = inr (k, omega arith, f)

-- each local cell is a copy
copied_get : (cells : List CellDecl) (n : ℕ) (ms : List ℕ) (k : ℕ) (d : CellDecl) → slice_get (cells_from cells n ms) k ≡ Some d → (binder : ℕ) × (d ≡ copy cells binder (n + k))
copied_get cells n [] k d e = absurd (cc)
copied_get cells n (binder ∷ ms) zero d e = (binder, (let same : copy cells binder n ≡ d = cc in let f : n ≡ n + 0 = omega arith in sym same ∙ ap (copy cells binder) f))
copied_get cells n (binder ∷ ms) (suc k) d e =
    let (found, same) = copied_get cells (suc n) ms k d e in
    (found, same ∙ ap (copy cells found) (let f : suc n + k ≡ n + suc k = omega arith in f))

module _ (s : SurfaceProgram) (is : IsWellFormedSurface Program s) (d : SymbolicAgent) (p : CoreProgram) (e : IsCoreOfSymbolic s d p) (few_nodes : length p.nodes ≤ 4096) (few_cells : length p.cells ≤ 1024) where
  over : IsOver s.cells p
  over = record {
    within = subst (λ (k : ℕ). k ≤ length s.cells) (sym e.declared) is.within;
    front = λ c lt.
        ap (λ (xs : List CellDecl). slice_get xs c) e.cells
        ∙ front_get s.cells (cells_from s.cells s.declared (binders d)) s.declared c (subst (λ (k : ℕ). c < k) e.declared lt) is.within;
    named = is.names;
    few = few_cells;
  }

  local_stands : StandsAt CellDecl p.cells p.declared (cells_from s.cells p.declared (binders d))
  local_stands = record {
    front = take s.declared s.cells;
    back = [];
    whole = e.cells
        ∙ ap (λ (k : ℕ). take s.declared s.cells ++ cells_from s.cells k (binders d)) (sym e.declared)
        ∙ ap (λ (xs : List CellDecl). take s.declared s.cells ++ xs) (sym (append-nil (cells_from s.cells p.declared (binders d))));
    long = length-take-le s.declared s.cells is.within ∙ sym e.declared;
  }

  listed : p.nodes ≡ core.listing 0 (bound_agent [] p.declared d)
  listed = e.nodes ∙ ap (λ (k : ℕ). core.listing 0 (bound_agent [] k d)) (sym e.declared)

  root : agent_at p.nodes 0 ≡ bound_agent [] p.declared d
  root = root_tree p.nodes (bound_agent [] p.declared d, listed)

  module _ (symbolic : IsSymbolicOf s d) where
    sound : Sound s.cells p.declared [] d
    sound =
        let same : is.tree ≡ symbolic.tree = one_tree is.tree symbolic.tree (sym is.forms ∙ symbolic.written) in
        let whole : Sound s.cells s.declared [] (symbolic_of (length s.cells) 0 is.tree) = symbolic_sound s is.tree 0 [] [] (widens_same s.cells s.declared []) is.scoped is.fresh in
        subst (λ (k : ℕ). Sound s.cells k [] d) (sym e.declared)
        (subst (Sound s.cells s.declared []) (ap (symbolic_of (length s.cells) 0) same ∙ sym symbolic.symbolic) whole)

    rooted : Scoped p [] (agent_at p.nodes 0) × AreFresh p [] (agent_at p.nodes 0)
    rooted =
        let agent = agent_sound s.cells p over p.declared [] d (omega arith) tt local_stands sound in
        (subst (Scoped p []) (sym root) agent.0, subst (AreFresh p []) (sym root) agent.1)

    pub expansion_program : IsWellFormed p
    expansion_program =
        let many = cells_many s d p is e in
        let declared = e.declared in
        let locals : length (binders d) ≡ length p.cells - p.declared = omega arith in
        let few = is.few in
        record {
          tree = (bound_agent [] p.declared d, listed);
          locals = ap (filter_map cell_of) listed ∙ news_counted [] p.declared 0 d ∙ ap (count_up p.declared) locals;
          scoped = rooted.0;
          limits = record { few_nodes = few_nodes; few_cells = few_cells; few_declared = omega arith; within = omega arith };
        }

    -- each cell has a name of core texts
    copy_name : (binder n : ℕ) → n < 1024 → IsCoreName (copy s.cells binder n).name
    copy_name binder n lt = go (slice_get s.cells binder) refl
      where
        go : (o : Option CellDecl) → slice_get s.cells binder ≡ o → IsCoreName (unwrap_or o (hidden n)).name
        go None f = hidden_name n lt
        go (Some c) f = core_name c.name (is.names binder c f)

    cell_name : (n : ℕ) (c : CellDecl) → slice_get p.cells n ≡ Some c → IsCoreName c.name
    cell_name n c found = go (back_get (take s.declared s.cells) rest n c (ap (λ (xs : List CellDecl). slice_get xs n) (sym e.cells) ∙ found))
      where
        rest : List CellDecl
        rest = cells_from s.cells s.declared (binders d)

        long : length (take s.declared s.cells) ≡ s.declared
        long = length-take-le s.declared s.cells is.within

        go : (n < length (take s.declared s.cells)) ⊎ ((k : ℕ) × (n ≡ length (take s.declared s.cells) + k) × (slice_get rest k ≡ Some c)) → IsCoreName c.name
        go (inl lt) = core_name c.name (is.names n c (sym (over.front n (let h = long in let declared = e.declared in omega arith)) ∙ found))
        go (inr (k, place, f)) =
            let (binder, same) = copied_get s.cells s.declared (binders d) k c f in
            let at : n ≡ s.declared + k = place ∙ ap (λ (i : ℕ). i + k) long in
            let inside = slice_get_within p.cells n c found in
            let few : s.declared + k < 1024 = omega arith in
            subst (λ (x : CellDecl). IsCoreName x.name) (sym same) (copy_name binder (s.declared + k) few)

    pub expansion_names : HasGoodNames p
    expansion_names = record {
      names = cell_name;
      declared = λ c k lt inside same.
          let low : c < k = lt in
          let high : k < p.declared = inside in
          let name : (i : ℕ) → i < p.declared → name_at p.cells i ≡ name_at s.cells i = λ i h. same_name p.cells s.cells i i (over.front i h) in
          is.declared_fresh c k low (subst (λ (i : ℕ). k < i) e.declared high) (sym (name c (omega arith)) ∙ same ∙ name k high);
      locals = rooted.1;
    }
