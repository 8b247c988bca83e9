-- Texts that are written one after the other, each with a space behind it, are a line and one space.
use Rattle.std.proofs.Common.{◌≡◌, ℕ, Option, Some, None, ◌+◌, ◌-◌, ◌<◌, ◌≤◌, Bool, true, false, cond, ℤ, List, [], ◌∷◌, ◌++◌, length, take, drop, refl, sym, ap, ◌∙◌, subst, append_assoc, add-one, arith}
use Rattle.std.specs.Ordering.{int_eq}
use Rattle.std.specs.List.{join_with_byte}
use Rattle.std.specs.FinMap as map
use Rattle.std.specs.Prelude.{int_lt, slice_get}
use Rattle.std.proofs.lemmas.List.{append-nil, drop_all, length_push, length-append}
use Rattle.std.proofs.lemmas.Bool.Decides.{Decides-int_eq}
use Rattle.std.proofs.lemmas.Grind.{flat_map-append}
use Rattle.std.proofs.Math.Seq.{take-append_seam}
use Rattle.token_system.specs.declared.cell.Value.{Value}
use Rattle.token_system.specs.declared.cell.Token.TheVariants.{AtLeast, AtMost}
use Rattle.token_system.specs.Stores.{StoreMap}
use Rattle.token_system.specs.Texts.{text_of}
use Rattle.token_system.specs.declared.name.CellName.{CellName}
use Rattle.agent_core.specs.declared.node.CellDecl.{CellDecl}
use Rattle.trace_text.specs.StoreLines.{bound_texts, cell_of_name, cell_texts, exact_text, text_if, value_texts}
use Rattle.trace_text.specs.Writing.{spaced, Grows}
use Rattle.trace_text.proofs.StoreWalks.{cells-entries, entries-from, entry_texts, texts_of, texts-after}

pub Grows-refl : (xs : List ℕ) → Grows xs xs
Grows-refl xs = ([], sym (append-nil xs))

pub Grows-trans : (xs ys zs : List ℕ) → Grows xs ys → Grows ys zs → Grows xs zs
Grows-trans xs ys zs a b = (a.0 ++ b.0, b.1 ∙ ap (λ (w : List ℕ). w ++ b.0) a.1 ∙ append_assoc xs a.0 b.0)

pub spaced-append : (xs ys : List (List ℕ)) → spaced (xs ++ ys) ≡ spaced xs ++ spaced ys
spaced-append xs ys = flat_map-append (λ (text : List ℕ). text ++ 32 ∷ []) xs ys

-- one text
pub spaced_one : (old text now : List ℕ) → now ≡ (old ++ text) ++ 32 ∷ [] → now ≡ old ++ spaced (text ∷ [])
spaced_one old text now e = e ∙ append_assoc old text (32 ∷ []) ∙ ap (λ (z : List ℕ). old ++ z) (sym (append-nil (text ++ 32 ∷ [])))

pub spaced-join : (text : List ℕ) (texts : List (List ℕ)) → spaced (text ∷ texts) ≡ join_with_byte 32 (text ∷ texts) ++ 32 ∷ []
spaced-join text [] = append-nil (text ++ 32 ∷ [])
spaced-join text (next ∷ texts) =
    ap (λ (z : List ℕ). (text ++ 32 ∷ []) ++ z) (spaced-join next texts)
    ∙ append_assoc text (32 ∷ []) (join_with_byte 32 (next ∷ texts) ++ 32 ∷ [])
    ∙ sym (append_assoc text (32 ∷ join_with_byte 32 (next ∷ texts)) (32 ∷ []))

-- the last space is taken back
front : (xs : List ℕ) (x : ℕ) → take (length (xs ++ x ∷ []) - 1) (xs ++ x ∷ []) ≡ xs
front xs x =
    let k : length (xs ++ x ∷ []) - 1 ≡ length xs = omega (arith, length_push xs x) in
    ap (λ (n : ℕ). take n (xs ++ x ∷ [])) k ∙ take-append_seam xs (x ∷ [])

pub line_written : (old now : List ℕ) (texts : List (List ℕ)) → now ≡ old ++ spaced texts → length old < length now → take (length now - 1) now ≡ old ++ join_with_byte 32 texts
line_written old now [] e longer = absurd (omega (arith, ap length (e ∙ append-nil old)))
line_written old now (text ∷ texts) e longer =
    let is : now ≡ (old ++ join_with_byte 32 (text ∷ texts)) ++ 32 ∷ [] = e ∙ ap (λ (z : List ℕ). old ++ z) (spaced-join text texts) ∙ sym (append_assoc old (join_with_byte 32 (text ∷ texts)) (32 ∷ [])) in
    subst (λ (n : List ℕ). take (length n - 1) n ≡ old ++ join_with_byte 32 (text ∷ texts)) (sym is) (front (old ++ join_with_byte 32 (text ∷ texts)) 32)

-- nothing was written
pub nothing_written : (old now : List ℕ) (texts : List (List ℕ)) → now ≡ old ++ spaced texts → length now ≤ length old → now ≡ old ++ join_with_byte 32 texts
nothing_written old now [] e short = e
nothing_written old now (text ∷ texts) e short =
    let is : now ≡ (old ++ join_with_byte 32 (text ∷ texts)) ++ 32 ∷ [] = e ∙ ap (λ (z : List ℕ). old ++ z) (spaced-join text texts) ∙ sym (append_assoc old (join_with_byte 32 (text ∷ texts)) (32 ∷ [])) in
    absurd (omega (arith, ap length is, length_push (old ++ join_with_byte 32 (text ∷ texts)) 32, length-append old (join_with_byte 32 (text ∷ texts))))

-- what was written is taken back
pub cut_back : (old now : List ℕ) → Grows old now → take (length old) now ≡ old
cut_back old now (more, e) = ap (take (length old)) e ∙ take-append_seam old more

-- the texts of bounds
pub equal_bounds : (name : List ℕ) (least most lo hi : ℤ) → lo ≡ hi → bound_texts name least most lo hi ≡ exact_text name lo ∷ []
equal_bounds name least most lo hi e =
    ap (λ b. cond b (exact_text name lo ∷ []) (text_if (int_lt least lo) (text_of name (AtLeast lo)) ++ text_if (int_lt hi most) (text_of name (AtMost hi)))) ((Decides-int_eq lo hi).1 e)

pub other_bounds : (name : List ℕ) (least most lo hi : ℤ) → (lo ≡ hi → ⊥) → bound_texts name least most lo hi ≡ text_if (int_lt least lo) (text_of name (AtLeast lo)) ++ text_if (int_lt hi most) (text_of name (AtMost hi))
other_bounds name least most lo hi differ = go (int_eq lo hi) refl
  where
    go : (b : Bool) → int_eq lo hi ≡ b → cond b (exact_text name lo ∷ []) (text_if (int_lt least lo) (text_of name (AtLeast lo)) ++ text_if (int_lt hi most) (text_of name (AtMost hi))) ≡ text_if (int_lt least lo) (text_of name (AtLeast lo)) ++ text_if (int_lt hi most) (text_of name (AtMost hi))
    go true e = absurd (differ ((Decides-int_eq lo hi).0 e))
    go false e = refl

pub two_bounds : (name : List ℕ) (least most lo hi : ℤ) (old middle now : List ℕ) → (lo ≡ hi → ⊥) → middle ≡ old ++ spaced (text_if (int_lt least lo) (text_of name (AtLeast lo)))
    → now ≡ middle ++ spaced (text_if (int_lt hi most) (text_of name (AtMost hi))) → now ≡ old ++ spaced (bound_texts name least most lo hi)
two_bounds name least most lo hi old middle now differ a b =
    b ∙ ap (λ (z : List ℕ). z ++ spaced (text_if (int_lt hi most) (text_of name (AtMost hi)))) a
    ∙ append_assoc old (spaced (text_if (int_lt least lo) (text_of name (AtLeast lo)))) (spaced (text_if (int_lt hi most) (text_of name (AtMost hi))))
    ∙ ap (λ (z : List ℕ). old ++ z) (sym (spaced-append (text_if (int_lt least lo) (text_of name (AtLeast lo))) (text_if (int_lt hi most) (text_of name (AtMost hi)))) ∙ ap spaced (sym (other_bounds name least most lo hi differ)))

-- the texts of the cells that the first names of the store name were written, and those of the others are left
pub record CellsWritten (cells : List CellDecl) (v : StoreMap) (place : ℕ) (start now : List ℕ) : Type 0 where
  pub rest : now ++ spaced (entry_texts cells (drop place (map.entries v))) ≡ start ++ spaced (cell_texts 0 cells v)
  pub grown : Grows start now

pub cells-start : (cells : List CellDecl) (v : StoreMap) (start : List ℕ) → CellsWritten cells v 0 start start
cells-start cells v start = record { rest = ap (λ (texts : List (List ℕ)). start ++ spaced texts) (sym (cells-entries cells v)); grown = Grows-refl start }

module _ (cells : List CellDecl) (v : StoreMap) (place : ℕ) (start now : List ℕ) (w : CellsWritten cells v place start now) where
  -- one name more
  pub cells-step : (n : CellName) (d : CellDecl) (x : Value) (after : List ℕ) → slice_get (map.keys v) place ≡ Some n → slice_get (map.values v) place ≡ Some x → cell_of_name cells n ≡ Some d
      → after ≡ now ++ spaced (value_texts d.name d.cell x) → CellsWritten cells v (place + 1) start after
  cells-step n d x after key value named written =
      let own : List ℕ = spaced (value_texts d.name d.cell x) in
      let later : List ℕ = spaced (entry_texts cells (drop (place + 1) (map.entries v))) in
      let first : drop place (map.entries v) ≡ (n, x) ∷ drop (place + 1) (map.entries v) = rw add-one (entries-from v place n key x value) in
      let texts : spaced (entry_texts cells (drop place (map.entries v))) ≡ own ++ later =
      ap (λ (es : List (CellName × Value)). spaced (entry_texts cells es)) first
      ∙ ap (λ (c : Option CellDecl). spaced (texts_of c x ++ entry_texts cells (drop (place + 1) (map.entries v)))) named
      ∙ spaced-append (value_texts d.name d.cell x) (entry_texts cells (drop (place + 1) (map.entries v))) in
      record {
        rest = ap (λ (z : List ℕ). z ++ later) written ∙ append_assoc now own later ∙ ap (λ (z : List ℕ). now ++ z) (sym texts) ∙ w.rest;
        grown = Grows-trans start now after w.grown (own, written);
      }

  cells-none : entry_texts cells (drop place (map.entries v)) ≡ [] → now ≡ start ++ spaced (cell_texts 0 cells v)
  cells-none none = sym (append-nil now) ∙ ap (λ (texts : List (List ℕ)). now ++ spaced texts) (sym none) ∙ w.rest

  -- the name is that of no cell, and so are the later ones
  pub cells-beyond : (n : CellName) → slice_get (map.keys v) place ≡ Some n → cell_of_name cells n ≡ None → now ≡ start ++ spaced (cell_texts 0 cells v)
  cells-beyond n key none = cells-none (texts-after v place n key cells none)

  -- all names
  pub cells-end : map.len v ≤ place → now ≡ start ++ spaced (cell_texts 0 cells v)
  cells-end over = cells-none (ap (entry_texts cells) (drop_all place (map.entries v) (omega (arith, map.len-entries v))))
