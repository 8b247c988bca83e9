-- The fields of a line that is written of texts: these texts.
use Rattle.std.proofs.Common.{◌≡◌, ℕ, ◌+◌, Bool, true, false, cond, List, [], ◌∷◌, ◌++◌, length, refl, sym, ap, ◌∙◌, append_assoc}
use Rattle.std.specs.Prelude.{codes, filter}
use Rattle.std.specs.List.{list_all, onto_first, slice_split}
use Rattle.std.proofs.lemmas.List.{append-nil}
use Rattle.std.proofs.lemmas.List.Elements.{filter-append}
use Rattle.std.proofs.lemmas.List.Splits.{slice_split_none}
use Rattle.agent_core.specs.Strata.{Each}
use Rattle.agent_core.proofs.Bools.{first_of_both, second_of_both}
use Rattle.agent_laws.proofs.Eachs.{each_all}
use Rattle.trace_text.specs.Fields.{Field, fields, is_blank, is_some}
use Rattle.trace_text.specs.Writing.{separated}
use Rattle.trace_text.proofs.LineWalks.{fields_from}
use Rattle.trace_text.proofs.TokenTexts.{HasNoBlank, not_blank}
use Rattle.certificate_text.specs.InLines.{line_behind}
use Rattle.certificate_text.specs.OutReadings.{texts_in}

-- a text of one byte at least, without blanks
abbrev pub IsWhole : List ℕ → Type 0
IsWhole text = Each (λ b. is_blank b ≡ false) text × (is_some text ≡ true)

-- a byte that stays is no blank
pub calm : (text : List ℕ) → HasNoBlank text → Each (λ b. is_blank b ≡ false) text
calm [] h = tt
calm (b ∷ text) h = (go (is_blank b) refl (first_of_both (not_blank b) (list_all not_blank text) h), calm text (second_of_both (not_blank b) (list_all not_blank text) h))
  where
    go : (t : Bool) → is_blank b ≡ t → not_blank b ≡ true → is_blank b ≡ false
    go false e stays = e
    go true e stays = absurd (cc)

-- what stands between the blanks of a line, where that is not empty
abbrev pub parts_of : List ℕ → List (List ℕ)
parts_of line = filter is_some (slice_split is_blank line)

-- that is what its fields are
parts_placed : (offset : ℕ) (parts : List (List ℕ)) → texts_in (fields_from offset parts) ≡ filter is_some parts
parts_placed offset [] = refl
parts_placed offset (part ∷ parts) = go (is_some part) (parts_placed (offset + (length part + 1)) parts)
  where
    go : (b : Bool) → texts_in (fields_from (offset + (length part + 1)) parts) ≡ filter is_some parts
        → texts_in (cond b (record { offset = offset; bytes = part } ∷ fields_from (offset + (length part + 1)) parts) (fields_from (offset + (length part + 1)) parts)) ≡ cond b (part ∷ filter is_some parts) (filter is_some parts)
    go true h = ap (λ (texts : List (List ℕ)). part ∷ texts) h
    go false h = h

pub parts_are : (line : List ℕ) → texts_in (fields line) ≡ parts_of line
parts_are line = parts_placed 0 (slice_split is_blank line)

-- a line is split at a space
onto_both : (x : ℕ) (xs ys : List (List ℕ)) (first : List ℕ) (rest : List (List ℕ)) → xs ≡ first ∷ rest → onto_first x (xs ++ ys) ≡ onto_first x xs ++ ys
onto_both x xs ys first rest e = rw e refl

split_some : (xs : List ℕ) → (first : List ℕ) × (rest : List (List ℕ)) × (slice_split is_blank xs ≡ first ∷ rest)
split_some [] = ([], [], refl)
split_some (x ∷ xs) = go (is_blank x) (split_some xs)
  where
    go : (b : Bool) → (first : List ℕ) × (rest : List (List ℕ)) × (slice_split is_blank xs ≡ first ∷ rest)
        → (first : List ℕ) × (rest : List (List ℕ)) × (cond b ([] ∷ slice_split is_blank xs) (onto_first x (slice_split is_blank xs)) ≡ first ∷ rest)
    go true h = ([], slice_split is_blank xs, refl)
    go false (first, rest, e) = (x ∷ first, rest, ap (onto_first x) e)

split_both : (xs ys : List ℕ) → slice_split is_blank (xs ++ 32 ∷ ys) ≡ slice_split is_blank xs ++ slice_split is_blank ys
split_both [] ys = refl
split_both (x ∷ xs) ys = go (is_blank x) (split_both xs ys)
  where
    go : (b : Bool) → slice_split is_blank (xs ++ 32 ∷ ys) ≡ slice_split is_blank xs ++ slice_split is_blank ys
        → cond b ([] ∷ slice_split is_blank (xs ++ 32 ∷ ys)) (onto_first x (slice_split is_blank (xs ++ 32 ∷ ys))) ≡ cond b ([] ∷ slice_split is_blank xs) (onto_first x (slice_split is_blank xs)) ++ slice_split is_blank ys
    go true h = ap (λ (parts : List (List ℕ)). [] ∷ parts) h
    go false h = let some = split_some xs in ap (onto_first x) h ∙ onto_both x (slice_split is_blank xs) (slice_split is_blank ys) some.0 some.1 some.2

parts-space : (xs ys : List ℕ) → parts_of (xs ++ 32 ∷ ys) ≡ parts_of xs ++ parts_of ys
parts-space xs ys = ap (filter is_some) (split_both xs ys) ∙ filter-append is_some (slice_split is_blank xs) (slice_split is_blank ys)

parts_whole : (text : List ℕ) → IsWhole text → parts_of text ≡ text ∷ []
parts_whole text whole = ap (filter is_some) (slice_split_none is_blank text (each_all (λ b. is_blank b ≡ false) text whole.0)) ∙ ap (λ b. cond b (text ∷ []) []) whole.1

-- texts, each behind a space
parts-separated : (xs : List ℕ) (texts : List (List ℕ)) → Each IsWhole texts → parts_of (xs ++ separated (codes " ") texts) ≡ parts_of xs ++ texts
parts-separated xs [] whole = ap parts_of (append-nil xs) ∙ sym (append-nil (parts_of xs))
parts-separated xs (text ∷ texts) whole =
    parts-space xs (text ++ separated (codes " ") texts)
    ∙ ap (λ (parts : List (List ℕ)). parts_of xs ++ parts) (parts-separated text texts whole.1 ∙ ap (λ (parts : List (List ℕ)). parts ++ texts) (parts_whole text whole.0))

parts-behind : (word line : List ℕ) → parts_of (line_behind word line) ≡ parts_of word ++ parts_of line
parts-behind word [] = sym (append-nil (parts_of word))
parts-behind word (b ∷ line) = ap parts_of (append_assoc word (codes " ") (b ∷ line)) ∙ parts-space word (b ∷ line)

-- a word, a line behind it, and then texts
pub line_texts : (word line : List ℕ) (texts : List (List ℕ)) → IsWhole word → Each IsWhole texts
    → texts_in (fields (line_behind word line ++ separated (codes " ") texts)) ≡ word ∷ (texts_in (fields line) ++ texts)
line_texts word line texts is whole =
    parts_are (line_behind word line ++ separated (codes " ") texts)
    ∙ parts-separated (line_behind word line) texts whole
    ∙ ap (λ (parts : List (List ℕ)). parts ++ texts) (parts-behind word line ∙ ap (λ (parts : List (List ℕ)). parts ++ parts_of line) (parts_whole word is))
    ∙ ap (λ (parts : List (List ℕ)). word ∷ (parts ++ texts)) (sym (parts_are line))

-- fields of which the first is this text
pub first_field : (all : List Field) (text : List ℕ) (texts : List (List ℕ)) → texts_in all ≡ text ∷ texts → (word : Field) × (behind : List Field) × (all ≡ word ∷ behind) × (word.bytes ≡ text) × (texts_in behind ≡ texts)
first_field [] text texts e = absurd (cc)
first_field (field ∷ all) text texts e = (field, all, refl, (let h : field.bytes ≡ text = cc in h), (let h : texts_in all ≡ texts = cc in h))
