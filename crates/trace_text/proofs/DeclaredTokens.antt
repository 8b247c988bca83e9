-- Tokens of declared cells, under no births.
use Rattle.std.proofs.Common.{◌≡◌, ℕ, ◌<◌, ◌≤◌, Bool, true, false, cond, List, [], length, take, get_or, Some, refl, sym, ap, ◌∙◌, subst, arith}
use Rattle.std.specs.Prelude.{nat_eq, nat_lt, slice_get}
use Rattle.std.specs.Cmp.Lexicographic.{pointwise}
use Rattle.std.proofs.lemmas.Bool.{lt-ltb}
use Rattle.std.proofs.lemmas.List.{length-take}
use Rattle.std.proofs.lemmas.List.Quantifiers.{position-Some}
use Rattle.std.proofs.lemmas.Option.{slice_get_read}
use Rattle.token_system.specs.declared.cell.Token.{Token}
use Rattle.token_system.specs.declared.name.CellName.TheVariants.{Declared}
use Rattle.token_system.specs.Tokens.{Fits}
use Rattle.token_system.specs.Stores.{StoreMap}
use Rattle.agent_core.specs.declared.node.CellDecl.{CellDecl}
use Rattle.agent_core.specs.Programs.{CoreProgram}
use Rattle.agent_core.specs.Names.{Names, name_of, local_name, new_of}
use Rattle.agent_core.specs.Stores.{IsStore}
use Rattle.agent_core.specs.Scope.{TokenFits}
use Rattle.agent_core.proofs.Tellings.{tells_one}
use Rattle.trace_text.specs.Inputs.{declared_cell}
use Rattle.trace_text.specs.Tellings.{told_one}

-- without births a cell in scope is a declared one
no_local : (p : CoreProgram) (cell : ℕ) (d : CellDecl) → (b : Bool) → nat_lt cell p.declared ≡ b → Names p (cond b (Declared cell) (local_name p.nodes [] (new_of p.nodes cell))) d → b ≡ true
no_local p cell d true e named = refl
no_local p cell d false e (new, body, at, found, long) = absurd (omega arith)

pub in_scope : (p : CoreProgram) (pair : ℕ × Token) → TokenFits p [] pair → name_of p [] pair.0 ≡ Declared pair.0
in_scope p pair f = ap (λ b. cond b (Declared pair.0) (local_name p.nodes [] (new_of p.nodes pair.0))) (no_local p pair.0 f.decl (nat_lt pair.0 p.declared) refl f.named)

-- a declared cell is named by its number
pub declared_name : (p : CoreProgram) (cell : ℕ) → cell < p.declared → name_of p [] cell ≡ Declared cell
declared_name p cell lt = ap (λ b. cond b (Declared cell) (local_name p.nodes [] (new_of p.nodes cell))) (lt-ltb cell p.declared lt)

-- a fitting token of a declared cell
pub declared_fits : (p : CoreProgram) (cell : ℕ) (d : CellDecl) (t : Token) → cell < p.declared → slice_get p.cells cell ≡ Some d → Fits d.cell t → TokenFits p [] (cell, t)
declared_fits p cell d t lt found fits = record {
  decl = d;
  found = found;
  named = subst (λ (b : Bool). Names p (cond b (Declared cell) (local_name p.nodes [] (new_of p.nodes cell))) d) (sym (lt-ltb cell p.declared lt)) (lt, found);
  fits = fits;
}

-- the cell of a name is a declared one
pub named_within : (p : CoreProgram) (name : List ℕ) (cell : ℕ) (d : CellDecl) → declared_cell p name ≡ Some cell → cell < p.declared
named_within p name cell d found =
    let at = position-Some (λ (e : CellDecl). pointwise nat_eq e.name name) (take p.declared p.cells) cell d found in
    omega (arith, length-take p.declared p.cells, at.0)

-- the store after one token is told is one of the program
pub store_told : (p : CoreProgram) (s : StoreMap) (pair : ℕ × Token) → IsStore p s → TokenFits p [] pair → IsStore p (told_one p pair s)
store_told p s pair is f = (tells_one p [] s pair is f).store

-- the cell that was read from the list of cells, by the number that its name has
pub cell_read : (p : CoreProgram) (cells : List CellDecl) (name : List ℕ) (cell : ℕ) (d : CellDecl) → p.declared ≤ length p.cells → cells ≡ p.cells → declared_cell p name ≡ Some cell → d ≡ get_or cells cell d → slice_get p.cells cell ≡ Some d
cell_read p cells name cell d all e found is =
    let lt = named_within p name cell d found in
    slice_get_read p.cells (length p.cells) cell d refl (omega arith) (is ∙ ap (λ (xs : List CellDecl). get_or xs cell d) e)
