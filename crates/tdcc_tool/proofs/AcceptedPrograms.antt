-- What holds of the texts whose program is built: each is one program.
use Rattle.std.proofs.Common.{◌≡◌, ℕ, List, length, refl, sym, ap, ◌∙◌, subst, arith}
use Rattle.std.specs.Prelude.{◌≢◌, IfErr, Result, Ok, Err}
use Rattle.agent_core.specs.Programs.{CoreProgram}
use Rattle.agent_core.specs.WellFormed.{IsWellFormed}
use Rattle.tdcc_reader.specs.declared.fault.ReadFault.{ReadFault}
use Rattle.tdcc_reader.specs.declared.fault.ReadFault.TheVariants.{Memory}
use Rattle.tdcc_reader.specs.declared.dialect.Dialect.TheVariants.{Program}
use Rattle.tdcc_reader.specs.Refusals.{Refuses}
use Rattle.tdcc_reader.specs.Surfaces.{SurfaceProgram, IsSurfaceOf}
use Rattle.tdcc_reader.specs.Texts.{ReadsAs}
use Rattle.tdcc_reader.specs.declared.surface.Form.{Form}
use Rattle.tdcc_reader.proofs.OneRefusal.{one_accepted as one_phrase, one_refusal, read_not_refused}
use Rattle.program_grammar.specs.Phrases.{ProgramPhrase as Phrase}
use Rattle.agent_core.specs.declared.node.CellDecl.{CellDecl}
use Rattle.surface_laws.proofs.CellViews.{same_cells}
use Rattle.surface_laws.proofs.WellFormed.{surface_formed}
use Rattle.expansion_laws.specs.SymbolicAgents.{SymbolicAgent, symbolic_size, binders}
use Rattle.expansion_laws.specs.Expansions.{IsExpansion, IsSymbolicOf}
use Rattle.expansion_laws.proofs.WholePrograms.{expansion_program, one_expansion, one_symbolic, nodes_many, cells_many}
use Rattle.derived_forms.specs.declared.fault.ExpandFault.TheVariants as sizes
use Rattle.derived_forms.specs.Refusals as expansion
use Rattle.tdcc_tool.specs.Accepted.{IsTextOf, IsAccepted}
use Rattle.tdcc_tool.specs.TextFaults.{HasFault, misread, many_nodes, many_cells}

-- the program of a text is a program, with names that can be written and read back
pub built_program : (text : List ℕ) (p : CoreProgram) → IsTextOf text p → IsWellFormed p
built_program text p a =
    let (d, drawn, made) = a.core.expansion in
    expansion_program a.surface (surface_formed a.surface (text, a.reads)) d p made a.core.few_nodes a.core.few_cells drawn

-- two surfaces of a phrase are one
same_surfaces : (q : Phrase) (s t : SurfaceProgram) → IsSurfaceOf q s → IsSurfaceOf q t → s ≡ t
same_surfaces q s t a b =
    ap (λ (x : List CellDecl). record { cells = x; declared = s.declared; forms = s.forms }) (same_cells s.cells t.cells (a.cells ∙ sym b.cells))
    ∙ ap (λ (x : ℕ). record { cells = t.cells; declared = x; forms = s.forms }) (a.declared ∙ sym b.declared)
    ∙ ap (λ (x : List Form). record { cells = t.cells; declared = t.declared; forms = x }) (a.forms ∙ sym b.forms)

-- two surfaces of a text are one
one_surface : (text : List ℕ) (s t : SurfaceProgram) → ReadsAs Program text s → ReadsAs Program text t → s ≡ t
one_surface text s t (q, a, is) (r, b, is') = same_surfaces q s t is (subst (λ (x : Phrase). IsSurfaceOf x t) (sym (one_phrase Program text q r a b)) is')

pub one_built : (text : List ℕ) (p q : CoreProgram) → IsTextOf text p → IsTextOf text q → p ≡ q
one_built text p q a b =
    let same = one_surface text b.surface a.surface b.reads a.reads in
    one_expansion a.surface p q a.core.expansion (subst (λ (s : SurfaceProgram). IsExpansion s q) same b.core.expansion)

-- a text whose program is built has no fault
pub built_no_fault : (text : List ℕ) (p : CoreProgram) (f : ReadFault) → IsTextOf text p → HasFault text f → ⊥
built_no_fault text p f a (misread f' says refuses) = read_not_refused Program text a.surface f says a.reads refuses
built_no_fault text p f a (many_nodes s reads (d, is, many)) =
    let (e, drawn, made) = a.core.expansion in
    let same : d ≡ e = one_symbolic a.surface d e (subst (λ (x : SurfaceProgram). IsSymbolicOf x d) (one_surface text s a.surface reads a.reads) is) drawn in
    let nodes = nodes_many a.surface e p made in
    let few = a.core.few_nodes in
    let size_same = ap symbolic_size same in omega arith
built_no_fault text p f a (many_cells s reads (d, is, few_nodes, many)) =
    let (e, drawn, made) = a.core.expansion in
    let surface = one_surface text s a.surface reads a.reads in
    let same : d ≡ e = one_symbolic a.surface d e (subst (λ (x : SurfaceProgram). IsSymbolicOf x d) surface is) drawn in
    let cells = cells_many a.surface e p (surface_formed a.surface (text, a.reads)) made in
    let few = a.core.few_cells in
    let declared = ap (λ (x : SurfaceProgram). x.declared) surface in
    let binders_same = ap (λ (x : SymbolicAgent). length (binders x)) same in omega arith

-- not both limits are gone past first
not_both : (text : List ℕ) (s t : SurfaceProgram) → ReadsAs Program text s → ReadsAs Program text t → expansion.RefusesExpansion s sizes.TooManyNodes → expansion.RefusesExpansion t sizes.TooManyCells → ⊥
not_both text s t reads reads' (d, is, many) (e, is', few, over) =
    let same : d ≡ e = one_symbolic t d e (subst (λ (x : SurfaceProgram). IsSymbolicOf x d) (one_surface text s t reads reads') is) is' in
    let size_same = ap symbolic_size same in omega arith

-- a text has one fault
pub one_text_fault : (text : List ℕ) (f g : ReadFault) → HasFault text f → HasFault text g → f ≡ g
one_text_fault text f g (misread f' says refuses) (misread g' says' refuses') = one_refusal Program text f g says says' refuses refuses'
one_text_fault text f g (misread f' says refuses) (many_nodes s reads many) = absurd (read_not_refused Program text s f says reads refuses)
one_text_fault text f g (misread f' says refuses) (many_cells s reads many) = absurd (read_not_refused Program text s f says reads refuses)
one_text_fault text f g (many_nodes s reads many) (misread g' says refuses) = absurd (read_not_refused Program text s g says reads refuses)
one_text_fault text f g (many_cells s reads many) (misread g' says refuses) = absurd (read_not_refused Program text s g says reads refuses)
one_text_fault text f g (many_nodes s reads many) (many_nodes t reads' many') = refl
one_text_fault text f g (many_cells s reads many) (many_cells t reads' many') = refl
one_text_fault text f g (many_nodes s reads many) (many_cells t reads' many') = absurd (not_both text s t reads reads' many many')
one_text_fault text f g (many_cells s reads many) (many_nodes t reads' many') = absurd (not_both text t s reads' reads many' many)

-- what is answered where a text is not read
pub misread_if : {T : Type 0} (text : List ℕ) (r : Result T ReadFault) → IfErr r (Refuses Program text) → IfErr r (λ f. f ≢ Memory → HasFault text f)
misread_if text (Ok x) h = tt
misread_if text (Err f) h = λ says. misread f says h

-- so are the texts that run
pub accepted_program : (text : List ℕ) (p : CoreProgram) → IsAccepted text p → IsWellFormed p
accepted_program text p a = built_program text p a.built

pub one_accepted : (text : List ℕ) (p q : CoreProgram) → IsAccepted text p → IsAccepted text q → p ≡ q
one_accepted text p q a b = one_built text p q a.built b.built
