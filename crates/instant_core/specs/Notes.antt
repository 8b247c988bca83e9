-- What a worker notes between two looks at the counter that find nothing in flight. This project's own.
use Rattle.std.specs.Prelude.{◌≡◌, ℕ, zero, suc, ◌==◌, ◌⊎◌, List, length, map, set, replicate, slice_index, slice_index_or, Option, None, Some, if◌then◌else◌}
use Rattle.std.specs.List.{range_with_len}
use Rattle.instant_net.specs.Nets.{Flat}
use Rattle.instant_net.specs.Words.{empty_words}
use Rattle.instant_core.specs.Net.{width}

-- the count that was read, and for each word its content and for each leaf its bit, where that was noted; notes are open until the same count is read again
pub record Notes : Type 0 where
  pub count : ℕ
  pub open_words : List (Option ℕ)
  pub open_leaves : List (Option ℕ)
  pub words : List (Option ℕ)
  pub leaves : List (Option ℕ)

abbrev pub noted : List (Option ℕ) → ℕ → Option ℕ
noted notes i = slice_index_or notes i None

-- x is noted of i
abbrev pub HasNote : List (Option ℕ) → ℕ → ℕ → Type 0
HasNote notes i x = noted notes i ≡ Some x

-- x is noted of the word or leaf, open or confirmed
abbrev pub NotesWord : Notes → ℕ → ℕ → Type 0
NotesWord m word x = HasNote m.open_words word x ⊎ HasNote m.words word x

abbrev pub NotesLeaf : Notes → ℕ → ℕ → Type 0
NotesLeaf m leaf bit = HasNote m.open_leaves leaf bit ⊎ HasNote m.leaves leaf bit

-- NOTING

abbrev pub word_noted : ℕ → ℕ → Option Notes → Option Notes
word_noted word found None = None
word_noted word found (Some m) = Some (record m { open_words = set m.open_words word (Some found) })

abbrev pub leaf_noted : ℕ → ℕ → Option Notes → Option Notes
leaf_noted leaf bit None = None
leaf_noted leaf bit (Some m) = Some (record m { open_leaves = set m.open_leaves leaf (Some bit) })

abbrev pub no_notes : ℕ → List (Option ℕ)
no_notes n = replicate n None

abbrev pub fresh_mark : Flat → ℕ → Option Notes
fresh_mark net count = Some (record {
  count = count;
  open_words = no_notes (width net);
  open_leaves = no_notes (length net.leaves);
  words = no_notes (width net);
  leaves = no_notes (length net.leaves);
})

-- the new note, or else the old one
abbrev pub newer : Option ℕ → Option ℕ → Option ℕ
newer None old = old
newer (Some x) old = Some x

abbrev pub with_newer : List (Option ℕ) → List (Option ℕ) → List (Option ℕ)
with_newer old new = map (λ i. newer (noted new i) (noted old i)) (range_with_len 0 (length old))

-- the open notes join the confirmed ones
abbrev pub confirmed : Notes → Notes
confirmed m = record {
  count = m.count;
  open_words = no_notes (length m.open_words);
  open_leaves = no_notes (length m.open_leaves);
  words = with_newer m.words m.open_words;
  leaves = with_newer m.leaves m.open_leaves;
}

abbrev pub mark_at_rest : Flat → ℕ → Option Notes → Option Notes
mark_at_rest net count None = fresh_mark net count
mark_at_rest net count (Some m) = if m.count == count then Some (confirmed m) else fresh_mark net count

-- the mark after the counter was read, with so many in flight
abbrev pub mark_counted : Flat → ℕ → ℕ → Option Notes → Option Notes
mark_counted net count zero mark = mark_at_rest net count mark
mark_counted net count (suc _) mark = None

-- AS WORDS

-- what is noted, or else x
abbrev pub content_or : ℕ → Option ℕ → ℕ
content_or x None = x
content_or x (Some y) = y

-- the words, where those that are noted have the noted content
abbrev pub overlaid : List (Option ℕ) → List ℕ → List ℕ
overlaid notes words = map (λ i. content_or (slice_index words i) (noted notes i)) (range_with_len 0 (length words))

-- the confirmed notes as words
abbrev pub noted_words : Flat → Notes → List ℕ
noted_words net m = overlaid m.words (empty_words net.cells)
