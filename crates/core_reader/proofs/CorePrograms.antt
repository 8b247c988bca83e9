-- The core program of a phrase: what has its forms and cells is one, it is a program, and there is no other.
use Rattle.std.proofs.Common.{◌≡◌, ℕ, suc, ◌+◌, ◌-◌, List, [], length, refl, ap, sym, ◌∙◌, arith, subst, length-append}
use Rattle.std.specs.Prelude.{All, map, filter_map}
use Rattle.std.proofs.lemmas.List.{length-map}
use Rattle.program_grammar.specs.Phrases.{ProgramPhrase as Phrase}
use Rattle.agent_core.specs.declared.node.CellDecl.{CellDecl}
use Rattle.agent_core.specs.declared.node.Node.{Node}
use Rattle.agent_core.specs.Programs.{CoreProgram}
use Rattle.agent_core.specs.Listing as core
use Rattle.agent_core.specs.WellFormed.{IsWellFormed, Scoped, cell_of, count_up}
use Rattle.agent_core.proofs.ListingTrees.{root_tree}
use Rattle.tdcc_reader.specs.declared.dialect.Dialect.TheVariants as dialect
use Rattle.tdcc_reader.specs.Trees.{Tree, Skip, Tell, Then, Else, Par, New, Hence, Next, Always, When, Watch, Time, form_count, form_listing}
use Rattle.tdcc_reader.specs.Surfaces.{SurfaceProgram, IsSurfaceOf, cell_view, program_tree, program_cells}
use Rattle.tdcc_reader.specs.Refusals.{Accepts}
use Rattle.surface_laws.specs.Surfaces.{new_cells}
use Rattle.surface_laws.specs.Surfaces as laws
use Rattle.surface_laws.proofs.CellViews.{same_cells}
use Rattle.surface_laws.proofs.LocalCells.{local_cells, program_counted}
use Rattle.surface_laws.proofs.ScopedPhrases.{program_scoped}
use Rattle.surface_laws.proofs.WellFormed.{accepted_fit, local_many}
use Rattle.core_reader.specs.Trees.{tree_of}
use Rattle.core_reader.specs.Forms.{form_of_node, IsCoreForm}
use Rattle.core_reader.specs.Readings.{IsCoreOf, AcceptsCore}
use Rattle.core_reader.proofs.CoreTrees.{agent_of, program_core}
use Rattle.core_reader.proofs.NodeForms.{forms_listed, same_nodes, core_forms}
use Rattle.core_reader.proofs.LocalCells.{news_listed, news_tree}
use Rattle.core_reader.proofs.ScopedAgents.{agent_scoped}
use Rattle.program_lexemes.specs.declared.bytes.TextForm.TheVariants as form

pub length-listing : (n : ℕ) (t : Tree) → length (form_listing n t) ≡ form_count t
length-listing n Skip = refl
length-listing n (Tell c) = refl
length-listing n (Then c a) = ap suc (length-listing (suc n) a)
length-listing n (Else c a) = ap suc (length-listing (suc n) a)
length-listing n (Par l r) = ap suc (length-append (form_listing (suc n) l) (form_listing (suc n + form_count l) r) ∙ ap (λ k. k + length (form_listing (suc n + form_count l) r)) (length-listing (suc n) l) ∙ ap (λ k. form_count l + k) (length-listing (suc n + form_count l) r))
length-listing n (New cell a) = ap suc (length-listing (suc n) a)
length-listing n (Hence a) = ap suc (length-listing (suc n) a)
length-listing n (Next a) = ap suc (length-listing (suc n) a)
length-listing n (Always a) = ap suc (length-listing (suc n) a)
length-listing n (When c a) = ap suc (length-listing (suc n) a)
length-listing n (Watch a c) = ap suc (length-listing (suc n) a)
length-listing n (Time a c) = ap suc (length-listing (suc n) a)

-- A surface has as many forms and cells as its phrase.
pub forms_many : (phrase : Phrase) (s : SurfaceProgram) → IsSurfaceOf phrase s → length s.forms ≡ form_count (program_tree phrase)
forms_many phrase s is = ap length is.forms ∙ length-listing 0 (program_tree phrase)

pub cells_many : (phrase : Phrase) (s : SurfaceProgram) → IsSurfaceOf phrase s → length s.cells ≡ length (program_cells phrase)
cells_many phrase s is = sym (length-map s.cells cell_view) ∙ ap length is.cells

-- the tree of an accepted core text is that of an agent
core_tree : (text : List ℕ) (phrase : Phrase) → Accepts dialect.Core text phrase → tree_of (agent_of (program_tree phrase)) ≡ program_tree phrase
core_tree text phrase a = program_core phrase a.is.spells.allowed

-- The forms of an accepted core text are those of an agent's nodes.
pub forms_of : (text : List ℕ) (phrase : Phrase) (s : SurfaceProgram) → Accepts dialect.Core text phrase → IsSurfaceOf phrase s → s.forms ≡ map form_of_node (core.listing 0 (agent_of (program_tree phrase)))
forms_of text phrase s a is = is.forms ∙ ap (form_listing 0) (sym (core_tree text phrase a)) ∙ sym (forms_listed 0 (agent_of (program_tree phrase)))

-- They are forms of the core.
pub surface_core : (text : List ℕ) (phrase : Phrase) (s : SurfaceProgram) → Accepts dialect.Core text phrase → IsSurfaceOf phrase s → All IsCoreForm s.forms
surface_core text phrase s a is = subst (All IsCoreForm) (sym (forms_of text phrase s a is)) (core_forms (core.listing 0 (agent_of (program_tree phrase))))

-- What has the forms and cells of an accepted core text is its core program.
pub made_core : (text : List ℕ) (phrase : Phrase) (s : SurfaceProgram) (nodes : List Node) → Accepts dialect.Core text phrase → IsSurfaceOf phrase s → map form_of_node nodes ≡ s.forms
    → IsCoreOf phrase (record { cells = s.cells; declared = s.declared; nodes = nodes })
made_core text phrase s nodes a is e = record {
  agent = agent_of (program_tree phrase);
  nodes = same_nodes nodes (core.listing 0 (agent_of (program_tree phrase))) (e ∙ forms_of text phrase s a is);
  tree = core_tree text phrase a;
  cells = is.cells;
  declared = is.declared;
}

-- the surface of a core program
abbrev surface : CoreProgram → Phrase → SurfaceProgram
surface p phrase = record { cells = p.cells; declared = p.declared; forms = form_listing 0 (program_tree phrase) }

-- The core program of an accepted core text that keeps the limits on its form_count is a program.
pub core_is_program : (text : List ℕ) (phrase : Phrase) (p : CoreProgram) → AcceptsCore text phrase → IsCoreOf phrase p → IsWellFormed p
core_is_program text phrase p a is =
    let many : length p.cells ≡ p.declared + length (local_cells phrase) = local_many phrase (surface p phrase) (record { cells = is.cells; declared = is.declared; forms = refl }) in
    let local : length (local_cells phrase) ≡ length p.cells - p.declared = omega arith in
    let listed : length p.nodes ≡ form_count (program_tree phrase) = ap length is.nodes ∙ sym (length-map (core.listing 0 is.agent) form_of_node) ∙ ap length (forms_listed 0 is.agent) ∙ length-listing 0 (tree_of is.agent) ∙ ap form_count is.tree in
    let seen : length p.cells ≡ length (program_cells phrase) = sym (length-map p.cells cell_view) ∙ ap length is.cells in
    let nodes = a.few_nodes in
    let cells = a.few_cells in
    let declared = a.accepts.declared in
    let number = is.declared in
    record {
      tree = (is.agent, is.nodes);
      locals = ap (filter_map cell_of) is.nodes ∙ news_listed 0 is.agent ∙ news_tree is.agent ∙ ap new_cells is.tree ∙ program_counted phrase ∙ ap (λ k. count_up k (length (local_cells phrase))) (sym is.declared) ∙ ap (count_up p.declared) local;
      scoped = subst (Scoped p []) (sym (root_tree p.nodes (is.agent, is.nodes)))
          (agent_scoped p p refl refl is.agent [] (subst (laws.IsScopedTree p []) (sym is.tree) (program_scoped form.Core dialect.Core phrase p is.cells is.declared (accepted_fit dialect.Core text phrase a.accepts) a.accepts.within a.accepts.named)));
      limits = record { few_nodes = omega arith; few_cells = omega arith; few_declared = omega arith; within = omega arith };
    }

-- A phrase has one core program.
pub one_core : (phrase : Phrase) (p q : CoreProgram) → IsCoreOf phrase p → IsCoreOf phrase q → p ≡ q
one_core phrase p q a b =
    let cells : p.cells ≡ q.cells = same_cells p.cells q.cells (a.cells ∙ sym b.cells) in
    let declared : p.declared ≡ q.declared = a.declared ∙ sym b.declared in
    let listed : core.listing 0 a.agent ≡ core.listing 0 b.agent =
    same_nodes (core.listing 0 a.agent) (core.listing 0 b.agent) (forms_listed 0 a.agent ∙ ap (form_listing 0) (a.tree ∙ sym b.tree) ∙ sym (forms_listed 0 b.agent)) in
    let nodes : p.nodes ≡ q.nodes = a.nodes ∙ listed ∙ sym b.nodes in
    ap (λ (z : List CellDecl). record { cells = z; declared = p.declared; nodes = p.nodes }) cells
    ∙ ap (λ (z : ℕ). record { cells = q.cells; declared = z; nodes = p.nodes }) declared
    ∙ ap (λ (z : List Node). record { cells = q.cells; declared = q.declared; nodes = z }) nodes
