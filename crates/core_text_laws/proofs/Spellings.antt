-- The core text of a program is that program, and a text is no two programs.
use Rattle.std.proofs.Common.{◌≡◌, ℕ, Bool, true, List, [], ◌∷◌, length, take, Option, Some, None, refl, sym, ap, ◌∙◌, subst}
use Rattle.std.specs.Prelude.{slice_get, ◌&&◌}
use Rattle.program_lexemes.specs.declared.bytes.TextForm.TheVariants as form
use Rattle.program_lexemes.proofs.Unique.{unique}
use Rattle.program_grammar.specs.Phrases as g
use Rattle.program_grammar.specs.Programs.{is_core_unit, is_core_agent, is_core}
use Rattle.program_grammar.specs.Spelling.{program}
use Rattle.program_grammar.proofs.Unambiguous.{one_program}
use Rattle.token_system.specs.declared.cell.Kind.{Kind}
use Rattle.token_system.specs.declared.cell.Kind.TheVariants.{Signal, Number}
use Rattle.agent_core.specs.declared.node.CellDecl.{CellDecl}
use Rattle.agent_core.specs.declared.node.Node.{Node}
use Rattle.agent_core.specs.Agents as core
use Rattle.agent_core.specs.Agents.{agent_at}
use Rattle.agent_core.specs.Programs.{CoreProgram}
use Rattle.agent_core.specs.WellFormed.{IsWellFormed}
use Rattle.agent_core.specs.Listing.{listing}
use Rattle.agent_core.proofs.ListingTrees.{root_tree}
use Rattle.tdcc_reader.specs.Trees as tree
use Rattle.tdcc_reader.specs.LexemeTerms.{terms_of}
use Rattle.tdcc_reader.specs.Surfaces.{program_cells, declared_cells, program_tree}
use Rattle.core_reader.specs.Trees.{tree_of}
use Rattle.surface_laws.proofs.CellViews.{same_cells}
use Rattle.core_reader.proofs.NodeForms.{forms_listed, same_nodes}
use Rattle.core_text.specs.CoreTexts.{core_text}
use Rattle.core_text.specs.GoodNames.{HasGoodNames}
use Rattle.core_text_laws.specs.Spelled.{IsSpelled}
use Rattle.core_text_laws.proofs.CorePhrases.{as_unit_phrase, local_phrase, local_at, agent_phrase, decl_phrase, decls_phrase, program_phrase}
use Rattle.core_text_laws.proofs.CoreCells.{program_declared, program_seen}
use Rattle.core_text_laws.proofs.CoreTrees.{program_kept}
use Rattle.core_text_laws.proofs.CoreNames.{program_clean}
use Rattle.core_text_laws.proofs.Written.{written_lexed}
use Rattle.core_text_laws.proofs.CoreAgents.{text_says}

-- THE CORE LANGUAGE

core_both : (a b : Bool) → a ≡ true → b ≡ true → (a && b) ≡ true
core_both a b ea eb = ap (λ (x : Bool). x && b) ea ∙ eb

unit_is_core : (a : g.AgentPhrase) → is_core_unit (as_unit_phrase a) ≡ is_core_agent a
unit_is_core (g.Only u) = refl
unit_is_core (g.Par u a) = refl

local_is_core : (k : Kind) (d : CellDecl) (u : g.UnitPhrase) → is_core_unit (local_phrase k d u) ≡ is_core_unit u
local_is_core Signal d u = refl
local_is_core Number d u = refl

new_is_core : (o : Option CellDecl) (u : g.UnitPhrase) → is_core_unit (local_at o u) ≡ is_core_unit u
new_is_core None u = refl
new_is_core (Some d) u = local_is_core d.cell.kind d u

agent_is_core : (cells : List CellDecl) (a : core.Agent) → is_core_agent (agent_phrase cells a) ≡ true
agent_is_core cells core.Skip = refl
agent_is_core cells (core.Tell c) = refl
agent_is_core cells (core.Then c a) = unit_is_core (agent_phrase cells a) ∙ agent_is_core cells a
agent_is_core cells (core.Else c a) = unit_is_core (agent_phrase cells a) ∙ agent_is_core cells a
agent_is_core cells (core.Hence a) = unit_is_core (agent_phrase cells a) ∙ agent_is_core cells a
agent_is_core cells (core.Next a) = unit_is_core (agent_phrase cells a) ∙ agent_is_core cells a
agent_is_core cells (core.New cell a) = new_is_core (slice_get cells cell) (as_unit_phrase (agent_phrase cells a)) ∙ unit_is_core (agent_phrase cells a) ∙ agent_is_core cells a
agent_is_core cells (core.Par l r) =
    core_both (is_core_unit (as_unit_phrase (agent_phrase cells l))) (is_core_agent (agent_phrase cells r)) (unit_is_core (agent_phrase cells l) ∙ agent_is_core cells l) (agent_is_core cells r)

decl_is_core : (k : Kind) (d : CellDecl) (q : g.ProgramPhrase) → is_core (decl_phrase k d q) ≡ is_core q
decl_is_core Signal d q = refl
decl_is_core Number d q = refl

decls_are_core : (ds : List CellDecl) (q : g.ProgramPhrase) → is_core (decls_phrase ds q) ≡ is_core q
decls_are_core [] q = refl
decls_are_core (d ∷ ds) q = decl_is_core d.cell.kind d (decls_phrase ds q) ∙ decls_are_core ds q

-- The phrase of a program is of the core language.
pub phrase_is_core : (p : CoreProgram) → is_core (program_phrase p) ≡ true
phrase_is_core p = decls_are_core (take p.declared p.cells) (g.Runs (agent_phrase p.cells (agent_at p.nodes 0))) ∙ agent_is_core p.cells (agent_at p.nodes 0)

-- The core text of a program with good names is that program.
pub spelled : (p : CoreProgram) → IsWellFormed p → HasGoodNames p → IsSpelled (core_text p) p
spelled p is good =
    let lexed = written_lexed form.Core (core_text p) (program (program_phrase p) []) (text_says p good is) in
    record {
      lexemes = lexed.lexemes;
      lexed = lexed.lexed;
      short = lexed.short;
      phrase = program_phrase p;
      spells = record {
        allowed = phrase_is_core p;
        spelled = lexed.terms_are;
      };
      named = program_clean p good is;
      cells = program_seen p is good;
      declared = program_declared p is;
      tree = program_kept p good is;
    }

-- ONE PROGRAM

-- the nodes of a program are those of its agent
pub listed : (p : CoreProgram) → IsWellFormed p → p.nodes ≡ listing 0 (agent_at p.nodes 0)
listed p is = is.tree.1 ∙ ap (listing 0) (sym (root_tree p.nodes is.tree))

-- programs of which the same trees are read have the same nodes
same_tree : (a b : core.Agent) → tree_of a ≡ tree_of b → listing 0 a ≡ listing 0 b
same_tree a b e = same_nodes (listing 0 a) (listing 0 b) (forms_listed 0 a ∙ ap (tree.form_listing 0) e ∙ sym (forms_listed 0 b))

-- A text is at most one program.
pub one_spelled : (text : List ℕ) (p q : CoreProgram) → IsWellFormed p → IsWellFormed q → IsSpelled text p → IsSpelled text q → p ≡ q
one_spelled text p q ip iq sp sq =
    let lexemes : sp.lexemes ≡ sq.lexemes = unique form.Core text sp.lexemes sq.lexemes 0 sp.lexed sq.lexed in
    let phrase : sp.phrase ≡ sq.phrase = one_program sp.phrase sq.phrase (sym sp.spells.spelled ∙ ap (terms_of text) lexemes ∙ sq.spells.spelled) in
    let cells : p.cells ≡ q.cells = same_cells p.cells q.cells (sp.cells ∙ ap program_cells phrase ∙ sym sq.cells) in
    let declared : p.declared ≡ q.declared = sp.declared ∙ ap (λ (x : g.ProgramPhrase). length (declared_cells x)) phrase ∙ sym sq.declared in
    let nodes : p.nodes ≡ q.nodes = listed p ip ∙ same_tree (agent_at p.nodes 0) (agent_at q.nodes 0) (sp.tree ∙ ap program_tree phrase ∙ sym sq.tree) ∙ sym (listed q iq) in
    ap (λ (x : List CellDecl). record { cells = x; declared = p.declared; nodes = p.nodes }) cells
    ∙ ap (λ (x : ℕ). record { cells = q.cells; declared = x; nodes = p.nodes }) declared
    ∙ ap (λ (x : List Node). record { cells = q.cells; declared = q.declared; nodes = x }) nodes

-- So programs with one core text are one.
pub one_printed : (p q : CoreProgram) → IsWellFormed p → IsWellFormed q → HasGoodNames p → HasGoodNames q → core_text p ≡ core_text q → p ≡ q
one_printed p q ip iq gp gq e = one_spelled (core_text q) p q ip iq (subst (λ (t : List ℕ). IsSpelled t p) e (spelled p ip gp)) (spelled q iq gq)
