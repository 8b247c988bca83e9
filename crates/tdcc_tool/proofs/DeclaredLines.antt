-- The line of a store is that of what it says of declared cells.
use Rattle.std.proofs.Common.{◌≡◌, ℕ, suc, ◌-◌, Bool, Bor, cond, List, [], ◌∷◌, ◌++◌, length, Some, None, refl, sym, ap, ◌∙◌, arith}
use Rattle.std.proofs.lemmas.List.Sums.{sum_by-cons}
use Rattle.std.proofs.lemmas.Option.{slice_get-get_or, slice_get_within}
use Rattle.std.specs.Prelude.{filter, is_some, slice_get, take, Option, unwrap_or}
use Rattle.std.specs.List.{join_with_byte, range_with_len, sum_by}
use Rattle.std.specs.Option.{option_copied}
use Rattle.tdcc_tool.specs.RunTexts.{is_told, last_line}
use Rattle.token_system.specs.declared.cell.Value.{Value}
use Rattle.token_system.specs.declared.cell.Cell.{Cell}
use Rattle.token_system.specs.declared.name.CellName.TheVariants.{Declared}
use Rattle.token_system.specs.Values.{bottom_of}
use Rattle.token_system.specs.Stores.{StoreMap, value_at}
use Rattle.agent_core.specs.declared.node.CellDecl.{CellDecl}
use Rattle.agent_core.specs.Programs.{CoreProgram}
use Rattle.token_system.specs.DeclaredParts.{IsDeclaredPart, AreDeclaredParts}
use Rattle.trace_text.specs.StoreLines.{value_texts, cell_texts, store_line}

module _ (whole part : StoreMap) (is : IsDeclaredPart whole part) where
  same-value : (n : ℕ) (cell : Cell) → value_at whole (Declared n) cell ≡ value_at part (Declared n) cell
  same-value n cell = ap (λ (v : Option Value). unwrap_or v (bottom_of cell)) (sym (is.declared n))

  same-texts : (n : ℕ) (cells : List CellDecl) → cell_texts n cells whole ≡ cell_texts n cells part
  same-texts n [] = refl
  same-texts n (d ∷ cells) =
      ap (λ (v : Value). value_texts d.name d.cell v ++ cell_texts (suc n) cells whole) (same-value n d.cell)
      ∙ ap (λ (texts : List (List ℕ)). value_texts d.name d.cell (value_at part (Declared n) d.cell) ++ texts) (same-texts (suc n) cells)

  pub same-store_line : (p : CoreProgram) → store_line p whole ≡ store_line p part
  same-store_line p = ap (join_with_byte 32) (same-texts 0 (take p.declared p.cells))

  same-told : (ks : List ℕ) → filter (is_told whole) ks ≡ filter (is_told part) ks
  same-told [] = refl
  same-told (k ∷ ks) =
      ap (λ (b : Bool). cond b (k ∷ filter (is_told whole) ks) (filter (is_told whole) ks)) (ap is_some (sym (is.declared k)))
      ∙ ap (λ (ls : List ℕ). cond (is_told part k) (k ∷ ls) ls) (same-told ks)

-- what is told by outputs is told by what they say of declared cells
pub same-told_cells : (n : ℕ) (wholes parts : List StoreMap) → AreDeclaredParts wholes parts
    → sum_by (λ v. length (filter (is_told v) (range_with_len 0 n))) wholes ≡ sum_by (λ v. length (filter (is_told v) (range_with_len 0 n))) parts
same-told_cells n [] [] are = refl
same-told_cells n [] (part ∷ parts) are = absurd (let e = are.long in omega arith)
same-told_cells n (whole ∷ wholes) [] are = absurd (let e = are.long in omega arith)
same-told_cells n (whole ∷ wholes) (part ∷ parts) are =
    let f : StoreMap → ℕ = λ v. length (filter (is_told v) (range_with_len 0 n)) in
    let one : f whole ≡ f part = ap length (same-told whole part (are.each 0 whole part refl refl) (range_with_len 0 n)) in
    let more = same-told_cells n wholes parts (record { long = let e = are.long in omega arith; each = λ m w q ew eq. are.each (suc m) w q ew eq }) in
    let a = sum_by-cons f whole wholes in
    let b = sum_by-cons f part parts in
    omega arith

-- LAST LINES

-- the line of a store, where there is one
abbrev pub line_if : CoreProgram → Option StoreMap → List ℕ
line_if p None = []
line_if p (Some v) = store_line p v

-- and nothing where there is none
pub no_line : (p : CoreProgram) (o : Option (Bor StoreMap)) → ((v : Bor StoreMap) → o ≡ Some v → ⊥) → line_if p (option_copied o) ≡ []
no_line p None not = refl
no_line p (Some v) not = absurd (not v refl)

last_line-at : (p : CoreProgram) (vs : List StoreMap) → last_line p vs ≡ line_if p (slice_get vs (length vs - 1))
last_line-at p [] = refl
last_line-at p (v ∷ []) = refl
last_line-at p (v ∷ w ∷ vs) =
    last_line-at p (w ∷ vs)
    ∙ ap (λ (n : ℕ). line_if p (slice_get (w ∷ vs) n)) (let h : length (w ∷ vs) - 1 ≡ length vs = omega arith in h)
    ∙ ap (λ (n : ℕ). line_if p (slice_get (v ∷ w ∷ vs) n)) (let h : suc (length vs) ≡ length (v ∷ w ∷ vs) - 1 = omega arith in h)

same_if : (p : CoreProgram) (wholes parts : List StoreMap) (n : ℕ) (w q : Option StoreMap) → AreDeclaredParts wholes parts → slice_get wholes n ≡ w → slice_get parts n ≡ q → line_if p w ≡ line_if p q
same_if p wholes parts n None None are ew eq = refl
same_if p wholes parts n (Some w) (Some q) are ew eq = same-store_line w q (are.each n w q ew eq) p
same_if p wholes parts n None (Some q) are ew eq = absurd (let lt = slice_get_within parts n q eq in let there = slice_get-get_or wholes n q (let long = are.long in omega arith) in cc)
same_if p wholes parts n (Some w) None are ew eq = absurd (let lt = slice_get_within wholes n w ew in let there = slice_get-get_or parts n w (let long = are.long in omega arith) in cc)

-- the last line of outputs is that of what the last of them says of declared cells
pub last-declared : (p : CoreProgram) (wholes parts : List StoreMap) (last : Option StoreMap) → AreDeclaredParts wholes parts → last ≡ slice_get parts (length parts - 1) → last_line p wholes ≡ line_if p last
last-declared p wholes parts last are is =
    last_line-at p wholes ∙ ap (λ (n : ℕ). line_if p (slice_get wholes (n - 1))) (sym are.long)
    ∙ same_if p wholes parts (length parts - 1) (slice_get wholes (length parts - 1)) last are refl (sym is)

-- the last line of outputs to which one is added is that of this one
pub last-push : (p : CoreProgram) (past : List StoreMap) (v : StoreMap) → last_line p (past ++ v ∷ []) ≡ store_line p v
last-push p [] v = refl
last-push p (w ∷ []) v = refl
last-push p (w ∷ x ∷ past) v = last-push p (x ∷ past) v
