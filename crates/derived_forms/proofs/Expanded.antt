-- The core program that is made of a surface, by its tree: its sizes, and that it is the surface's program.
use Rattle.std.proofs.Common.{◌≡◌, ℕ, suc, ◌+◌, ◌-◌, ◌<◌, ◌≤◌, List, [], ◌++◌, length, take, refl, sym, ap, ◌∙◌, subst, arith, length-append, zero}
use Rattle.std.specs.Prelude.{reverse}
use Rattle.std.proofs.lemmas.List.{length-reverse}
use Rattle.agent_core.specs.declared.node.CellDecl.{CellDecl}
use Rattle.agent_core.specs.declared.node.Node.{Node}
use Rattle.agent_core.specs.Listing as core
use Rattle.agent_core.specs.Programs.{CoreProgram}
use Rattle.agent_core.specs.WellFormed.{count_up}
use Rattle.tdcc_reader.specs.Surfaces.{SurfaceProgram}
use Rattle.tdcc_reader.specs.Texts.{IsSurface}
use Rattle.tdcc_reader.specs.Trees as tree
use Rattle.tdcc_reader.specs.Trees.{Tree}
use Rattle.surface_laws.specs.Surfaces.{new_cells}
use Rattle.surface_laws.proofs.WellFormed.{surface_formed}
use Rattle.expansion_laws.specs.SymbolicAgents.{SymbolicAgent, Skip, Tell, Then, Else, Par, New, Hence, Next, symbolic_size, binders}
use Rattle.expansion_laws.specs.Table.{guarded, clocked}
use Rattle.expansion_laws.specs.Expanding.{symbolic_of}
use Rattle.expansion_laws.specs.Expansions.{IsExpansion, IsCoreOfSymbolic, IsSymbolicOf}
use Rattle.expansion_laws.specs.Numbering.{bound_agent, cells_from}
use Rattle.token_system.specs.declared.cell.Token.{Token}
use Rattle.derived_forms.specs.declared.flat_node.FlatNode.{FlatNode}
use Rattle.derived_forms.specs.FlatNodes.{flat_nodes}
use Rattle.derived_forms.proofs.FlatLists.{length-flat_nodes}

-- THE TREE: a form for each of its nodes, of which the news are some

forms_many : (n : ℕ) (t : Tree) → length (tree.form_listing n t) ≡ tree.form_count t
forms_many n tree.Skip = refl
forms_many n (tree.Tell c) = refl
forms_many n (tree.Then c a) = ap suc (forms_many (suc n) a)
forms_many n (tree.Else c a) = ap suc (forms_many (suc n) a)
forms_many n (tree.Par l r) =
    let left = forms_many (suc n) l in
    let right = forms_many (suc n + tree.form_count l) r in
    omega (arith, length-append (tree.form_listing (suc n) l) (tree.form_listing (suc n + tree.form_count l) r))
forms_many n (tree.New cell a) = ap suc (forms_many (suc n) a)
forms_many n (tree.Hence a) = ap suc (forms_many (suc n) a)
forms_many n (tree.Next a) = ap suc (forms_many (suc n) a)
forms_many n (tree.Always a) = ap suc (forms_many (suc n) a)
forms_many n (tree.When c a) = ap suc (forms_many (suc n) a)
forms_many n (tree.Watch a c) = ap suc (forms_many (suc n) a)
forms_many n (tree.Time a c) = ap suc (forms_many (suc n) a)

news_few : (t : Tree) → length (new_cells t) ≤ tree.form_count t
news_few tree.Skip = omega arith
news_few (tree.Tell c) = omega arith
news_few (tree.Then c a) = let h = news_few a in omega arith
news_few (tree.Else c a) = let h = news_few a in omega arith
news_few (tree.Par l r) = let g = news_few l in let h = news_few r in omega (arith, length-append (new_cells l) (new_cells r))
news_few (tree.New cell a) = let h = news_few a in omega arith
news_few (tree.Hence a) = let h = news_few a in omega arith
news_few (tree.Next a) = let h = news_few a in omega arith
news_few (tree.Always a) = let h = news_few a in omega arith
news_few (tree.When c a) = let h = news_few a in omega arith
news_few (tree.Watch a c) = let h = news_few a in omega arith
news_few (tree.Time a c) = let h = news_few a in omega arith

length-count_up : (n k : ℕ) → length (count_up n k) ≡ k
length-count_up n zero = refl
length-count_up n (suc k) = ap suc (length-count_up (suc n) k)

-- a surface of few forms has few cells
pub cells_few : (s : SurfaceProgram) → IsSurface s → length s.forms ≤ 4096 → length s.cells ≤ 4352
cells_few s is few =
    let w = surface_formed s is in
    let forms = ap length w.forms ∙ forms_many 0 w.tree in
    let news = news_few w.tree in
    let locals = ap length w.locals ∙ length-count_up s.declared (length s.cells - s.declared) in
    let declared = w.few in
    let within = w.within in omega arith

-- THE SYMBOLIC AGENT: a node at least for each form

guarded_more : (k : ℕ) (d : SymbolicAgent) → symbolic_size d ≤ symbolic_size (guarded k d)
guarded_more k (Skip o) = omega arith
guarded_more k (Tell o b) = omega arith
guarded_more k (Then o b a) = let h = guarded_more k a in omega arith
guarded_more k (Else o b a) = let h = guarded_more k a in omega arith
guarded_more k (Par o a b) = let g = guarded_more k a in let h = guarded_more k b in omega arith
guarded_more k (New o binder a) = let h = guarded_more k a in omega arith
guarded_more k (Hence o a) = let h = guarded_more k a in omega arith
guarded_more k (Next o a) = let h = guarded_more k a in omega arith

clocked_more : (k : ℕ) (c : List (ℕ × Token)) (d : SymbolicAgent) → symbolic_size d ≤ symbolic_size (clocked k c d)
clocked_more k c (Skip o) = omega arith
clocked_more k c (Tell o b) = omega arith
clocked_more k c (Then o b a) = let h = clocked_more k c a in omega arith
clocked_more k c (Else o b a) = let h = clocked_more k c a in omega arith
clocked_more k c (Par o a b) = let g = clocked_more k c a in let h = clocked_more k c b in omega arith
clocked_more k c (New o binder a) = let h = clocked_more k c a in omega arith
clocked_more k c (Hence o a) = let h = clocked_more k c a in omega arith
clocked_more k c (Next o a) = let h = clocked_more k c a in omega arith

symbolic_more : (cells m : ℕ) (t : Tree) → tree.form_count t ≤ symbolic_size (symbolic_of cells m t)
symbolic_more cells m tree.Skip = omega arith
symbolic_more cells m (tree.Tell c) = omega arith
symbolic_more cells m (tree.Then c a) = let h = symbolic_more cells (suc m) a in omega arith
symbolic_more cells m (tree.Else c a) = let h = symbolic_more cells (suc m) a in omega arith
symbolic_more cells m (tree.Par l r) = let g = symbolic_more cells (suc m) l in let h = symbolic_more cells (suc m + tree.form_count l) r in omega arith
symbolic_more cells m (tree.New cell a) = let h = symbolic_more cells (suc m) a in omega arith
symbolic_more cells m (tree.Hence a) = let h = symbolic_more cells (suc m) a in omega arith
symbolic_more cells m (tree.Next a) = let h = symbolic_more cells (suc m) a in omega arith
symbolic_more cells m (tree.Always a) = let h = symbolic_more cells (suc m) a in omega arith
symbolic_more cells m (tree.When c a) = let h = symbolic_more cells (suc m) a in omega arith
symbolic_more cells m (tree.Watch a c) = let h = symbolic_more cells (suc m) a in let g = guarded_more (cells + m) (symbolic_of cells (suc m) a) in omega arith
symbolic_more cells m (tree.Time a c) = let h = symbolic_more cells (suc m) a in let g = clocked_more (cells + m) c (symbolic_of cells (suc m) a) in omega arith

module _ (s : SurfaceProgram) (is : IsSurface s) where
  abbrev pub its_tree : Tree
  its_tree = (surface_formed s is).tree

  abbrev pub its_symbolic : SymbolicAgent
  its_symbolic = symbolic_of (length s.cells) 0 its_tree

  pub its_forms : s.forms ≡ tree.form_listing 0 its_tree
  its_forms = (surface_formed s is).forms

  pub drawn : IsSymbolicOf s its_symbolic
  drawn = record { tree = its_tree; written = its_forms; symbolic = refl }

  -- a surface of many forms has a large symbolic agent
  pub symbolic_large : 4096 < length s.forms → 4096 < symbolic_size its_symbolic
  symbolic_large many = let forms = ap length its_forms ∙ forms_many 0 its_tree in let more = symbolic_more (length s.cells) 0 its_tree in omega arith

-- the flat nodes that are emitted are as many as the symbolic agent has nodes
pub emitted_many : (emitted : List FlatNode) (d : SymbolicAgent) → reverse emitted ≡ flat_nodes d → length emitted ≡ symbolic_size d
emitted_many emitted d e = sym (length-reverse emitted) ∙ ap length e ∙ length-flat_nodes d

-- what was made of the tree of a surface is its program, by whichever tree that is told
pub made_of : (s : SurfaceProgram) (d : SymbolicAgent) (cells : List CellDecl) (declared : ℕ) (nodes : List Node) (ms : List ℕ) (q : CoreProgram)
    → nodes ≡ core.listing 0 (bound_agent [] declared d) → cells ≡ take declared s.cells ++ cells_from s.cells declared ms → ms ≡ binders d → declared ≡ s.declared
    → q ≡ record { cells = cells; declared = declared; nodes = nodes } → IsCoreOfSymbolic s d q
made_of s d cells declared nodes ms q enodes ecells ebinders edeclared same =
    subst (IsCoreOfSymbolic s d) (sym same) (record {
      nodes = enodes ∙ ap (λ (k : ℕ). core.listing 0 (bound_agent [] k d)) edeclared;
      cells = ecells ∙ ap (λ (k : ℕ). take k s.cells ++ cells_from s.cells k ms) edeclared ∙ ap (λ (xs : List ℕ). take s.declared s.cells ++ cells_from s.cells s.declared xs) ebinders;
      declared = edeclared;
    })

abbrev pub program_with : List CellDecl → ℕ → List Node → CoreProgram
program_with cells declared nodes = record { cells = cells; declared = declared; nodes = nodes }

-- what the parts of an expansion come to: what was emitted, its binders, nodes and cells
pub record Expands (s : SurfaceProgram) (emitted : List FlatNode) (ms : List ℕ) (cells : List CellDecl) (declared : ℕ) (nodes : List Node) : Type 0 where
  pub surface : IsSurface s
  pub emitted_is : (t : Tree) → s.forms ≡ tree.form_listing 0 t → reverse emitted ≡ flat_nodes (symbolic_of (length s.cells) 0 t)
  pub binders_are : (d : SymbolicAgent) → reverse emitted ≡ flat_nodes d → ms ≡ binders d
  pub nodes_are : (d : SymbolicAgent) → reverse emitted ≡ flat_nodes d → nodes ≡ core.listing 0 (bound_agent [] declared d)
  pub cells_are : cells ≡ take declared s.cells ++ cells_from s.cells declared ms
  pub declared_is : declared ≡ s.declared
  pub room : length emitted ≤ 4096
  pub few : declared + length ms ≤ 1024

module _ (s : SurfaceProgram) (emitted : List FlatNode) (ms : List ℕ) (cells : List CellDecl) (declared : ℕ) (nodes : List Node) (x : Expands s emitted ms cells declared nodes) where
  abbrev pub its_program : CoreProgram
  its_program = program_with cells declared nodes

  pub by_tree : (t : Tree) → s.forms ≡ tree.form_listing 0 t → IsCoreOfSymbolic s (symbolic_of (length s.cells) 0 t) its_program
  by_tree t e =
      let g = x.emitted_is t e in
      made_of s (symbolic_of (length s.cells) 0 t) cells declared nodes ms its_program (x.nodes_are (symbolic_of (length s.cells) 0 t) g) x.cells_are (x.binders_are (symbolic_of (length s.cells) 0 t) g) x.declared_is refl

  abbrev its : SymbolicAgent
  its = its_symbolic s x.surface

  pub by_its_tree : IsCoreOfSymbolic s its its_program
  by_its_tree = by_tree (its_tree s x.surface) (its_forms s x.surface)

  pub expansion_made : IsExpansion s its_program
  expansion_made = (its, drawn s x.surface, by_its_tree)

  emitted_its : reverse emitted ≡ flat_nodes its
  emitted_its = x.emitted_is (its_tree s x.surface) (its_forms s x.surface)

  pub nodes_few : ((d : SymbolicAgent) (p : CoreProgram) → IsCoreOfSymbolic s d p → length p.nodes ≡ symbolic_size d) → length nodes ≤ 4096
  nodes_few law = let many = law its its_program by_its_tree in let size_is = emitted_many emitted its emitted_its in let room = x.room in omega arith

  pub local_few : ((d : SymbolicAgent) (p : CoreProgram) → IsCoreOfSymbolic s d p → length p.cells ≡ s.declared + length (binders d)) → length cells ≤ 1024
  local_few law =
      let many = law its its_program by_its_tree in
      let same = ap length (x.binders_are its emitted_its) in
      let declared_same = x.declared_is in
      let few = x.few in omega arith
