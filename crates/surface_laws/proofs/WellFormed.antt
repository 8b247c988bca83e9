-- The surface of an accepted text is well formed.
use Rattle.std.proofs.Common.{◌≡◌, ℕ, ◌+◌, ◌-◌, List, ◌++◌, length, Some, ap, sym, ◌∙◌, arith, length-append}
use Rattle.std.specs.Prelude.{map, slice_get, option_map}
use Rattle.std.proofs.lemmas.List.{length-map}
use Rattle.std.proofs.lemmas.Option.{slice_get-map}
use Rattle.program_lexemes.specs.declared.bytes.TextForm.TheVariants as forms
use Rattle.program_grammar.specs.Phrases.{ProgramPhrase}
use Rattle.agent_core.specs.declared.node.CellDecl.{CellDecl}
use Rattle.agent_core.specs.WellFormed.{count_up}
use Rattle.program_lexemes.specs.Names.{IsName}
use Rattle.tdcc_reader.specs.declared.dialect.Dialect.{Dialect}
use Rattle.tdcc_reader.specs.declared.dialect.Dialect.TheVariants as dialects
use Rattle.tdcc_reader.specs.Dialects.{text_form}
use Rattle.tdcc_reader.specs.Surfaces.{Declared, SurfaceProgram, IsSurfaceOf, cell_view, program_tree, program_cells, declared_cells}
use Rattle.tdcc_reader.specs.Refusals.{Accepts}
use Rattle.tdcc_reader.specs.Texts.{ReadsAs, IsSurface}
use Rattle.surface_laws.specs.Surfaces.{bare, IsWellFormedSurface}
use Rattle.surface_laws.proofs.FitTerms.{terms_fit}
use Rattle.surface_laws.proofs.FitPhrases.{ProgramFit, fit_program}
use Rattle.surface_laws.proofs.LocalCells.{local_cells, cells_parted, program_counted}
use Rattle.surface_laws.proofs.ScopedPhrases.{program_scoped}
use Rattle.surface_laws.proofs.CellNames.{program_named, named_at}
use Rattle.surface_laws.proofs.FreshNames.{program_fresh}

-- The program of an accepted text is fit.
pub accepted_fit : (dialect : Dialect) (text : List ℕ) (q : ProgramPhrase) → Accepts dialect text q → ProgramFit (text_form dialect) q
accepted_fit dialect text q a = fit_program (text_form dialect) q a.terms a.is.spells.spelled (terms_fit dialect text a.terms a.has)

-- so many cells are local
pub local_many : (q : ProgramPhrase) (s : SurfaceProgram) → IsSurfaceOf q s → length s.cells ≡ s.declared + length (local_cells q)
local_many q s is =
    let l = length-map s.cells cell_view in
    let c : length (map cell_view s.cells) ≡ length (declared_cells q ++ local_cells q) = ap length (is.cells ∙ cells_parted q) in
    let a = length-append (declared_cells q) (local_cells q) in
    let d = is.declared in omega arith

-- each cell has a name that can be written
cells_named : (dialect : Dialect) (text : List ℕ) (q : ProgramPhrase) (s : SurfaceProgram) → Accepts dialect text q → IsSurfaceOf q s → (n : ℕ) (d : CellDecl) → slice_get s.cells n ≡ Some d → IsName (text_form dialect) d.name
cells_named dialect text q s a is n d e =
    named_at (text_form dialect) (program_cells q) n (cell_view d) (program_named (text_form dialect) q (accepted_fit dialect text q a))
    (ap (λ (l : List Declared). slice_get l n) (sym is.cells) ∙ slice_get-map cell_view s.cells n ∙ ap (option_map cell_view) e)

-- The surface of a text is well formed.
pub well_formed : (dialect : Dialect) (text : List ℕ) (s : SurfaceProgram) → ReadsAs dialect text s → IsWellFormedSurface (text_form dialect) s
well_formed dialect text s (q, a, is) =
    let (distinct, fresh) = program_fresh q (bare s) is.cells is.declared a.named in
    let many = local_many q s is in
    let most = a.declared in
    let declared = is.declared in
    let local : length (local_cells q) ≡ length s.cells - s.declared = omega arith in
    record {
      tree = program_tree q;
      forms = is.forms;
      within = omega arith;
      few = omega arith;
      locals = program_counted q ∙ ap (λ k. count_up k (length (local_cells q))) (sym is.declared) ∙ ap (count_up s.declared) local;
      scoped = program_scoped (text_form dialect) dialect q (bare s) is.cells is.declared (accepted_fit dialect text q a) a.within a.named;
      names = cells_named dialect text q s a is;
      declared_fresh = distinct;
      fresh = fresh;
    }

-- So is each surface of a program text.
pub surface_formed : (s : SurfaceProgram) → IsSurface s → IsWellFormedSurface forms.Program s
surface_formed s (text, reads) = well_formed dialects.Program text s reads
