-- The texts of bounds, each behind a space, and those of local cells, one entry of a store after the other.
use Rattle.std.proofs.Common.{◌≡◌, ℕ, ◌+◌, ◌≤◌, ℤ, List, ◌∷◌, ◌++◌, drop, refl, sym, ap, ◌∙◌, append_assoc, add-one, Some, arith}
use Rattle.std.specs.FinMap as map
use Rattle.std.specs.Prelude.{codes, flat_map, int_lt, slice_get}
use Rattle.std.proofs.lemmas.List.{append-nil, drop_all}
use Rattle.std.proofs.lemmas.Grind.{flat_map-append}
use Rattle.token_system.specs.declared.cell.Token.TheVariants.{AtLeast, AtMost}
use Rattle.token_system.specs.declared.cell.Value.{Value}
use Rattle.token_system.specs.declared.name.CellName.{CellName}
use Rattle.token_system.specs.Stores.{StoreMap}
use Rattle.token_system.specs.Texts.{text_of}
use Rattle.agent_core.specs.Programs.{CoreProgram}
use Rattle.trace_text.specs.StoreLines.{bound_texts, text_if}
use Rattle.trace_text.specs.Writing.{separated, Grows}
use Rattle.trace_text.proofs.StoreWalks.{entries-from}
use Rattle.trace_text.proofs.Written.{Grows-refl, Grows-trans, other_bounds}
use Rattle.certificate_text.specs.OutLines.{local_value_texts, local_texts}

separated-append : (separator : List ℕ) (xs ys : List (List ℕ)) → separated separator (xs ++ ys) ≡ separated separator xs ++ separated separator ys
separated-append separator xs ys = flat_map-append (λ (text : List ℕ). separator ++ text) xs ys

-- one text, or none, for each bound
pub two_bounds : (name : List ℕ) (least most lo hi : ℤ) (old middle now : List ℕ) → (lo ≡ hi → ⊥) → middle ≡ old ++ separated (codes " ") (text_if (int_lt least lo) (text_of name (AtLeast lo)))
    → now ≡ middle ++ separated (codes " ") (text_if (int_lt hi most) (text_of name (AtMost hi))) → now ≡ old ++ separated (codes " ") (bound_texts name least most lo hi)
two_bounds name least most lo hi old middle now differ a b =
    let low : List (List ℕ) = text_if (int_lt least lo) (text_of name (AtLeast lo)) in
    let high : List (List ℕ) = text_if (int_lt hi most) (text_of name (AtMost hi)) in
    b ∙ ap (λ (z : List ℕ). z ++ separated (codes " ") high) a
    ∙ append_assoc old (separated (codes " ") low) (separated (codes " ") high)
    ∙ ap (λ (z : List ℕ). old ++ z) (sym (separated-append (codes " ") low high) ∙ ap (separated (codes " ")) (sym (other_bounds name least most lo hi differ)))

-- the texts of the local ones among these entries
abbrev entries_text : CoreProgram → List (CellName × Value) → List ℕ
entries_text p es = separated (codes " ") (flat_map (λ e. local_value_texts p e.0 e.1) es)

-- the texts of the entries before this place are written, and those of the others are left
pub record LocalsWritten (p : CoreProgram) (v : StoreMap) (place : ℕ) (start now : List ℕ) : Type 0 where
  pub rest : now ++ entries_text p (drop place (map.entries v)) ≡ start ++ separated (codes " ") (local_texts p v)
  pub grown : Grows start now

pub locals-start : (p : CoreProgram) (v : StoreMap) (start : List ℕ) → LocalsWritten p v 0 start start
locals-start p v start = record { rest = refl; grown = Grows-refl start }

module _ (p : CoreProgram) (v : StoreMap) (place : ℕ) (start now : List ℕ) (w : LocalsWritten p v place start now) where
  -- one entry more
  pub locals-step : (n : CellName) (x : Value) (after : List ℕ) → slice_get (map.keys v) place ≡ Some n → slice_get (map.values v) place ≡ Some x
      → after ≡ now ++ separated (codes " ") (local_value_texts p n x) → LocalsWritten p v (place + 1) start after
  locals-step n x after key value written =
      let own : List ℕ = separated (codes " ") (local_value_texts p n x) in
      let later : List ℕ = entries_text p (drop (place + 1) (map.entries v)) in
      let first : drop place (map.entries v) ≡ (n, x) ∷ drop (place + 1) (map.entries v) = rw add-one (entries-from v place n key x value) in
      let texts : entries_text p (drop place (map.entries v)) ≡ own ++ later =
      ap (entries_text p) first ∙ separated-append (codes " ") (local_value_texts p n x) (flat_map (λ (e : CellName × Value). local_value_texts p e.0 e.1) (drop (place + 1) (map.entries v))) in
      record {
        rest = ap (λ (z : List ℕ). z ++ later) written ∙ append_assoc now own later ∙ ap (λ (z : List ℕ). now ++ z) (sym texts) ∙ w.rest;
        grown = Grows-trans start now after w.grown (own, written);
      }

  -- all entries
  pub locals-end : map.len v ≤ place → now ≡ start ++ separated (codes " ") (local_texts p v)
  locals-end over =
      sym (append-nil now) ∙ ap (λ (es : List (CellName × Value)). now ++ entries_text p es) (sym (drop_all place (map.entries v) (omega (arith, map.len-entries v)))) ∙ w.rest
