-- What is noted after a note was made, and after open notes were confirmed.
use Rattle.std.proofs.Common.{◌≡◌, ◌⊎◌, inl, inr, ⊎_elim, ℕ, zero, suc, ◌<◌, List, [], ◌∷◌, length, set, Option, None, Some, refl, sym, ap, ◌∙◌, arith}
use Rattle.std.specs.Prelude.{slice_index, replicate, is_some, IsTrue}
use Rattle.std.proofs.lemmas.List.FromFn.{length-map-range_with_len, get_or-map-range_with_len}
use Rattle.token_system.proofs.Alike.{true_false}
use Rattle.instant_core.specs.Notes.{noted, HasNote, no_notes, newer, with_newer, content_or, overlaid}

-- what is noted after x was noted of i, was noted before, or it is that
pub note_set : (notes : List (Option ℕ)) (made found : ℕ × ℕ) → HasNote (set notes made.0 (Some made.1)) found.0 found.1 → HasNote notes found.0 found.1 ⊎ (made ≡ found)
note_set [] made found h = inl h
note_set (n ∷ notes) (zero, x) (zero, y) h = let e : x ≡ y = cc in inr (ap (λ (z : ℕ). (zero, z)) e)
note_set (n ∷ notes) (zero, x) (suc j, y) h = inl h
note_set (n ∷ notes) (suc i, x) (zero, y) h = inl h
note_set (n ∷ notes) (suc i, x) (suc j, y) h = ⊎_elim inl (λ e. inr (ap (λ (p : ℕ × ℕ). (suc p.0, p.1)) e)) (note_set notes (i, x) (j, y) h)

pub none_noted : (n i x : ℕ) → HasNote (no_notes n) i x → ⊥
none_noted zero i x h = absurd (cc)
none_noted (suc n) zero x h = absurd (cc)
none_noted (suc n) (suc i) x h = none_noted n i x h

note_within : (notes : List (Option ℕ)) (i x : ℕ) → HasNote notes i x → i < length notes
note_within [] i x h = absurd (cc)
note_within (n ∷ notes) zero x h = omega arith
note_within (n ∷ notes) (suc i) x h = let r = note_within notes i x h in omega arith

-- of two lists of notes joined, each note stands in one of them
pub newer_note : (old new : List (Option ℕ)) (i x : ℕ) → HasNote (with_newer old new) i x → HasNote old i x ⊎ HasNote new i x
newer_note old new i x h = go (noted new i) refl (sym same ∙ h)
  where
    inside : i < length old
    inside = let long = length-map-range_with_len (λ k. newer (noted new k) (noted old k)) 0 (length old) in let w = note_within (with_newer old new) i x h in omega arith

    same : noted (with_newer old new) i ≡ newer (noted new i) (noted old i)
    same = get_or-map-range_with_len (λ k. newer (noted new k) (noted old k)) 0 (length old) i i None inside (omega arith)

    go : (n : Option ℕ) → noted new i ≡ n → newer n (noted old i) ≡ Some x → HasNote old i x ⊎ HasNote new i x
    go None e t = inl t
    go (Some y) e t = inr (e ∙ t)

-- NOTES LAID OVER WORDS

pub length-overlaid : (notes : List (Option ℕ)) (words : List ℕ) → length (overlaid notes words) ≡ length words
length-overlaid notes words = length-map-range_with_len (λ k. content_or (slice_index words k) (noted notes k)) 0 (length words)

pub overlaid-at : (notes : List (Option ℕ)) (words : List ℕ) (i : ℕ) → i < length words → slice_index (overlaid notes words) i ≡ content_or (slice_index words i) (noted notes i)
overlaid-at notes words i lt = get_or-map-range_with_len (λ k. content_or (slice_index words k) (noted notes k)) 0 (length words) i i 0 lt (omega arith)

-- a word is noted, or it keeps what it has
pub noted-cases : (notes : List (Option ℕ)) (i x : ℕ) → HasNote notes i (content_or x (noted notes i)) ⊎ (content_or x (noted notes i) ≡ x)
noted-cases notes i x = go (noted notes i)
  where
    go : (n : Option ℕ) → (n ≡ Some (content_or x n)) ⊎ (content_or x n ≡ x)
    go None = inr refl
    go (Some y) = inl refl

-- where a word is noted, it has that content, whatever it had
pub noted-same : (notes : List (Option ℕ)) (i x z : ℕ) → IsTrue (is_some (noted notes i)) → content_or x (noted notes i) ≡ content_or z (noted notes i)
noted-same notes i x z h = go (noted notes i) h
  where
    go : (n : Option ℕ) → IsTrue (is_some n) → content_or x n ≡ content_or z n
    go None t = absurd (true_false (sym t))
    go (Some y) t = refl
