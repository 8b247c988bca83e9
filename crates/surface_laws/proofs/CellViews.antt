-- Cells with the same names, kinds and domains are the same.
use Rattle.std.proofs.Common.{◌≡◌, ℕ, ℤ, List, [], ◌∷◌, Option, Some, None, refl, ap, sym, ◌∙◌, subst}
use Rattle.std.specs.Prelude.{map, slice_get, option_map, IsTrue}
use Rattle.std.proofs.Math.Bool.{Bool-set}
use Rattle.std.proofs.lemmas.Option.{slice_get-map}
use Rattle.token_system.specs.Domain.{is_cell}
use Rattle.token_system.specs.declared.cell.Kind.{Kind}
use Rattle.agent_core.specs.declared.node.CellDecl.{CellDecl}
use Rattle.tdcc_reader.specs.Surfaces.{Declared, declared, cell_view}

-- a cell has one proof that it is lawful
one_law : (k : Kind) (l h : ℤ) (a b : IsTrue (is_cell k l h)) → a ≡ b
one_law k l h a b = let prop : IsProp (IsTrue (is_cell k l h)) = hlevel (Bool-set) in prop a b

-- a declared cell of these fields
abbrev made : List ℕ → (k : Kind) (l h : ℤ) → IsTrue (is_cell k l h) → CellDecl
made x k l h a = record { name = x; cell = record { kind = k; lo = l; hi = h; lawful = a } }

-- what was seen of a cell, with its law
same_made : (x y : List ℕ) (j k : Kind) (l m h i : ℤ) (a : IsTrue (is_cell j l h)) (b : IsTrue (is_cell k m i)) → declared x j l h ≡ declared y k m i → made x j l h a ≡ made y k m i b
same_made x y j k l m h i a b e =
    let P : Declared → Type 0 = λ d. (b : IsTrue (is_cell d.kind d.low d.high)) → made x j l h a ≡ made d.name d.kind d.low d.high b in
    let here : P (declared x j l h) = λ b. ap (made x j l h) (one_law j l h a b) in
    subst P e here b

same_cell : (c d : CellDecl) → cell_view c ≡ cell_view d → c ≡ d
same_cell c d e = same_made c.name d.name c.cell.kind d.cell.kind c.cell.lo d.cell.lo c.cell.hi d.cell.hi c.cell.lawful d.cell.lawful e

-- Lists of cells of which the same is seen are the same.
pub same_cells : (xs ys : List CellDecl) → map cell_view xs ≡ map cell_view ys → xs ≡ ys
same_cells [] [] e = refl
same_cells [] (y ∷ ys) e = cc
same_cells (x ∷ xs) [] e = cc
same_cells (x ∷ xs) (y ∷ ys) e = let h : x ≡ y = same_cell x y (cc) in let t : xs ≡ ys = same_cells xs ys (cc) in cc

mapped : (o : Option CellDecl) (d : Declared) → option_map cell_view o ≡ Some d → (c : CellDecl) × (o ≡ Some c) × (cell_view c ≡ d)
mapped None d e = cc
mapped (Some c) d e = (c, refl, cc)

-- A cell of which something is seen stands at its place.
pub seen_cell : (xs : List CellDecl) (n : ℕ) (d : Declared) → slice_get (map cell_view xs) n ≡ Some d → (c : CellDecl) × (slice_get xs n ≡ Some c) × (cell_view c ≡ d)
seen_cell xs n d e = mapped (slice_get xs n) d (sym (slice_get-map cell_view xs n) ∙ e)
