-- A line of an entry is read part by part.
use Rattle.std.proofs.Common.{◌≡◌, ℕ, ◌+◌, ◌<◌, ◌≤◌, cond, List, ◌∷◌, [], ◌++◌, length, drop, get_or, sym, ap, subst, add-one, drop-cons, true, false, arith}
use Rattle.std.specs.List.{slice_split}
use Rattle.std.proofs.lemmas.List.{drop_all, length_push}
use Rattle.trace_text.specs.Fields.{Field, fields, is_blank, is_some}
use Rattle.trace_text.proofs.LineWalks.{span, span-split, fields_from}

-- a part that is not empty is a field, and an empty one is none
pub field_first : (offset : ℕ) (part : List ℕ) (rest : List (List ℕ)) → is_some part ≡ true
    → fields_from offset (part ∷ rest) ≡ record { offset = offset; bytes = part } ∷ fields_from (offset + (length part + 1)) rest
field_first offset part rest some = ap (λ b. cond b (record { offset = offset; bytes = part } ∷ fields_from (offset + (length part + 1)) rest) (fields_from (offset + (length part + 1)) rest)) some

pub field_skipped : (offset : ℕ) (part : List ℕ) (rest : List (List ℕ)) → is_some part ≡ false → fields_from offset (part ∷ rest) ≡ fields_from (offset + (length part + 1)) rest
field_skipped offset part rest none = ap (λ b. cond b (record { offset = offset; bytes = part } ∷ fields_from (offset + (length part + 1)) rest) (fields_from (offset + (length part + 1)) rest)) none

-- these parts of the line are left, of which the first stands at this place, and this holds of the fields that are left
pub record PartsLeft (line : List ℕ) (Holds : List Field → Type 0) (rest : List (List ℕ)) (offset : ℕ) : Type 0 where
  pub holds : Holds (fields_from offset rest)
  pub left : offset + span rest ≡ length line + 1

pub parts-start : (line : List ℕ) (Holds : List Field → Type 0) → Holds (fields line) → PartsLeft line Holds (slice_split is_blank line) 0
parts-start line Holds h = record { holds = h; left = let s = span-split line in omega arith }

module _ (line : List ℕ) (Holds : List Field → Type 0) (part : List ℕ) (rest : List (List ℕ)) (offset : ℕ) (r : PartsLeft line Holds (part ∷ rest) offset) where
  left_over : offset + (length part + 1) + span rest ≡ length line + 1
  left_over = let h : offset + (length part + 1 + span rest) ≡ length line + 1 = r.left in omega arith

  -- the place of the next part is within the line, or one behind it
  pub parts-within : offset + (length part + 1) ≤ length line + 1
  parts-within = let h = left_over in omega arith

  -- an empty part is no field
  pub parts-skip : is_some part ≡ false → PartsLeft line Holds rest (offset + (length part + 1))
  parts-skip none = record { holds = subst Holds (field_skipped offset part rest none) r.holds; left = left_over }

  -- a field comes next
  pub parts-here : is_some part ≡ true → Holds (record { offset = offset; bytes = part } ∷ fields_from (offset + (length part + 1)) rest)
  parts-here some = subst Holds (field_first offset part rest some) r.holds

  -- and was read
  pub parts-field : is_some part ≡ true → (Now : List Field → Type 0) → ((later : List Field) → Holds (record { offset = offset; bytes = part } ∷ later) → Now later)
      → PartsLeft line Now rest (offset + (length part + 1))
  parts-field some Now step = record { holds = step (fields_from (offset + (length part + 1)) rest) (parts-here some); left = left_over }

module _ (line : List ℕ) (Holds : List Field → Type 0) (parts : List (List ℕ)) where
  -- the part that comes next in a list of parts
  pub parts-at : (k offset : ℕ) (part : List ℕ) → (k < length parts) × (part ≡ get_or parts k part) → PartsLeft line Holds (drop k parts) offset → PartsLeft line Holds (part ∷ drop (k + 1) parts) offset
  parts-at k offset part (lt, is) r =
      let cut : drop k parts ≡ get_or parts k part ∷ drop (k + 1) parts = rw add-one (drop-cons parts k part lt) in
      subst (λ (x : List ℕ). PartsLeft line Holds (x ∷ drop (k + 1) parts) offset) (sym is)
      (subst (λ (rest : List (List ℕ)). PartsLeft line Holds rest offset) cut r)

  -- no part is left
  pub parts-past : (k offset : ℕ) → length parts ≤ k → PartsLeft line Holds (drop k parts) offset → Holds []
  parts-past k offset over r = (subst (λ (rest : List (List ℕ)). PartsLeft line Holds rest offset) (drop_all k parts over) r).holds

  -- one part more was read
  pub parts-pushed : {X : Type 0} (xs : List X) (x : X) (offset : ℕ) → PartsLeft line Holds (drop (length xs + 1) parts) offset → PartsLeft line Holds (drop (length (xs ++ x ∷ [])) parts) offset
  parts-pushed xs x offset r = subst (λ (k : ℕ). PartsLeft line Holds (drop k parts) offset) (sym (length_push xs x)) r
