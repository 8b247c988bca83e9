-- What is built of an accepted text is its surface.
use Rattle.std.proofs.Common.{◌≡◌, ℕ, zero, suc, ◌<◌, ◌≤◌, List, [], ◌∷◌, length, get_or, refl, ap, sym, ◌∙◌, arith, subst, None}
use Rattle.std.specs.Prelude.{All, map}
use Rattle.std.proofs.lemmas.List.{length-map}
use Rattle.program_grammar.specs.Phrases.{ProgramPhrase}
use Rattle.program_grammar.specs.Spelling.{program}
use Rattle.agent_core.specs.declared.node.CellDecl.{CellDecl}
use Rattle.program_lexemes.specs.Limits.{longest_core_text}
use Rattle.agent_core.specs.Limits.{most_declared_cells}
use Rattle.tdcc_reader.specs.declared.dialect.Dialect.{Dialect}
use Rattle.tdcc_reader.specs.declared.flat_form.FlatForm.{FlatForm}
use Rattle.tdcc_reader.specs.declared.surface.Form.{Form}
use Rattle.tdcc_reader.specs.Surfaces.{IsSurfaceOf, program_tree, program_cells, declared_cells, cell_view}
use Rattle.tdcc_reader.specs.FlatForms.{IsWholeEntry, IsWholeFlatForm, flat_form_view, forms_at}
use Rattle.tdcc_reader.specs.BuildPass.{Built}
use Rattle.tdcc_reader.specs.Builds.{IsBuilt, IsChecked, IsReadyToBuild}
use Rattle.program_grammar.specs.Terms.{Term}
use Rattle.tdcc_reader.specs.LimitFaults.{program_limit}
use Rattle.tdcc_reader.specs.Scope.{program_fault}
use Rattle.tdcc_reader.specs.Refusals.{HasTerms, IsProgramOf, RefusesTerms, Refuses}
use Rattle.tdcc_reader.specs.declared.fault.ReadFault.{ReadFault}
use Rattle.tdcc_reader.specs.declared.fault.ReadFault.TheVariants as fault
use Rattle.tdcc_reader.proofs.Sizes.{cells_fit, forms_fit}
use Rattle.tdcc_reader.proofs.Listings.{listed}
use Rattle.tdcc_reader.proofs.Asks.{program_whole}

get_or-map : {X Y : Type 0} (f : X → Y) (xs : List X) (k : ℕ) (d : X) → get_or (map f xs) k (f d) ≡ f (get_or xs k d)
get_or-map f [] zero d = refl
get_or-map f [] (suc k) d = refl
get_or-map f (x ∷ xs) zero d = refl
get_or-map f (x ∷ xs) (suc k) d = get_or-map f xs k d

-- the flat forms of the code have whole asks
pub ready_whole : (dialect : Dialect) (text : List ℕ) (p : ProgramPhrase) (b : Built) (ds : List FlatForm) → IsReadyToBuild dialect text p b → map flat_form_view ds ≡ b.flat_forms → All IsWholeFlatForm ds
ready_whole dialect text p b ds r e k d h =
    let all : All IsWholeEntry (map flat_form_view ds) = subst (All IsWholeEntry) (sym (e ∙ r.built.tree)) (program_whole dialect p r.accepts.within) in
    let l = length-map ds flat_form_view in
    subst IsWholeEntry (get_or-map flat_form_view ds k d) (all k (flat_form_view d) (omega arith))

pub ready_few : (dialect : Dialect) (text : List ℕ) (p : ProgramPhrase) (b : Built) → IsReadyToBuild dialect text p b → b.declared ≤ most_declared_cells
ready_few dialect text p b r = let d = r.accepts.declared in let e = r.built.declared in omega arith

-- the surface of the program
pub ready_surface : (dialect : Dialect) (text : List ℕ) (p : ProgramPhrase) (b : Built) (cells : List CellDecl) (forms : List Form) → IsReadyToBuild dialect text p b → map cell_view cells ≡ b.cells → forms ≡ forms_at 0 b.flat_forms
    → IsSurfaceOf p (record { cells = cells; declared = b.declared; forms = forms })
ready_surface dialect text p b cells forms r ec ef =
    let f = forms_fit p in
    let w = r.few in
    record {
      cells = ec ∙ r.built.cells;
      declared = r.built.declared;
      forms = ef ∙ ap (forms_at 0) r.built.tree ∙ listed (program_tree p) 0 (omega arith);
    }

terms_long : (dialect : Dialect) (ts : List Term) (p : ProgramPhrase) → IsProgramOf dialect ts p → length ts ≡ length (program p [])
terms_long dialect ts p is = ap length is.spells.spelled

-- a program of few terms has few cells
pub few_cells : (dialect : Dialect) (ts : List Term) (p : ProgramPhrase) → IsProgramOf dialect ts p → length ts ≤ longest_core_text → length (program_cells p) ≤ 4294967295
few_cells dialect ts p is h = let e = terms_long dialect ts p is in let f = cells_fit p in omega arith

pub all_checked : (dialect : Dialect) (p : ProgramPhrase) (b : Built) → program_limit dialect p ≡ None → program_fault p ≡ None → IsBuilt p b → b.declared ≤ most_declared_cells → IsChecked dialect p b
all_checked dialect p b within named built few = record {
  within = within;
  named = named;
  declared = (let e = built.declared in omega arith);
  built = built;
}

pub many_declared : (p : ProgramPhrase) (b : Built) → IsBuilt p b → most_declared_cells < b.declared → most_declared_cells < length (declared_cells p)
many_declared p b built many = let e = built.declared in omega arith

pub all_ready : (dialect : Dialect) (text : List ℕ) (ts : List Term) (p : ProgramPhrase) (b : Built) → HasTerms dialect text ts → length ts ≤ longest_core_text → IsProgramOf dialect ts p → IsChecked dialect p b → IsReadyToBuild dialect text p b
all_ready dialect text ts p b has few is checked = record {
  accepts = record { terms = ts; has = has; is = is; within = checked.within; named = checked.named; declared = checked.declared };
  few = (let e = terms_long dialect ts p is in omega arith);
  built = checked.built;
}

-- what refuses the terms refuses the text
pub terms_refused : (dialect : Dialect) (text : List ℕ) (ts : List Term) (e : ReadFault) → HasTerms dialect text ts → RefusesTerms dialect ts e → Refuses dialect text e
terms_refused dialect text ts fault.TextTooLong h (p, is, w, r) = absurd r
terms_refused dialect text ts (fault.Lex n) h (p, is, w, r) = absurd r
terms_refused dialect text ts (fault.LongName n) h (p, is, w, r) = absurd r
terms_refused dialect text ts (fault.LongNumber n) h (p, is, w, r) = absurd r
terms_refused dialect text ts (fault.Later n) h r = (ts, h, r)
terms_refused dialect text ts (fault.Syntax n) h r = (ts, h, r)
terms_refused dialect text ts (fault.TooDeep n) h r = (ts, h, r)
terms_refused dialect text ts (fault.TooManyTokens n) h r = (ts, h, r)
terms_refused dialect text ts (fault.DoubleName n) h r = (ts, h, r)
terms_refused dialect text ts (fault.EmptyDomain n) h r = (ts, h, r)
terms_refused dialect text ts (fault.UnknownName n) h r = (ts, h, r)
terms_refused dialect text ts (fault.WrongKind n) h r = (ts, h, r)
terms_refused dialect text ts fault.TooManyDeclared h r = (ts, h, r)
terms_refused dialect text ts fault.TooManyNodes h r = (ts, h, r)
terms_refused dialect text ts fault.TooManyCells h r = (ts, h, r)
terms_refused dialect text ts fault.Memory h r = tt

-- a program that declares few cells is not refused for them
pub not_many : {X : Type 0} (p : ProgramPhrase) (b : Built) → IsBuilt p b → most_declared_cells < b.declared → length (declared_cells p) ≤ most_declared_cells → X
not_many p b built many few = let e = built.declared in absurd (omega arith)
