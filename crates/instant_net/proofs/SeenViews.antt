-- Views stay views of their net, and say of each cell whether it is settled.
use Rattle.std.proofs.Common.{◌≡◌, ◌⊎◌, inl, inr, ℕ, ◌+◌, ◌<◌, ◌≤◌, Bool, List, length, get_or, None, Some, sym, ap, ◌∙◌, arith}
use Rattle.std.specs.Prelude.{slice_get, slice_index_or, slice_range}
use Rattle.std.specs.List.{list_all}
use Rattle.std.proofs.lemmas.List.FromFn.{length-map-range_with_len}
use Rattle.std.proofs.lemmas.Option.{slice_get_cases}
use Rattle.instant_net.specs.declared.parts.NetCell.{NetCell}
use Rattle.instant_net.specs.declared.words.How.{How}
use Rattle.instant_net.specs.declared.words.How.TheVariants.{Or}
use Rattle.instant_net.specs.Words.{hows, kind_hows, tell_word, told_to, AreWords}
use Rattle.instant_net.specs.Seen.{SeenView, is_settled_there, join_flags, settle}
use Rattle.instant_net.proofs.WordOrders.{told-AreWords}
use Rattle.instant_net.proofs.WordPlaces.{as_many}

-- there is a word for each how
pub word_there : (cells : List NetCell) (words : List ℕ) → AreWords cells words → (word : ℕ) → word < length (hows cells) → word < length words
word_there cells words are word h =
    let long = are.long in
    let many = as_many cells in
    omega arith

-- words to which this content is told are words
pub told_words : (cells : List NetCell) (words : List ℕ) → AreWords cells words → (word content : ℕ) (how : How) → word < length (hows cells) → how ≡ slice_index_or (hows cells) word Or
    → AreWords cells (tell_word words (told_to word how content))
told_words cells words are word content how h same = told-AreWords cells words are word content how (word_there cells words are word h) (sym same)

pub settle-long : (cells : List NetCell) (phase word : ℕ) (flags : List Bool) → length (settle cells phase word flags) ≡ length flags
settle-long cells phase word flags = length-map-range_with_len _ 0 (length flags)

pub join-long : (f g : List Bool) → length (join_flags f g) ≡ length f
join-long f g = length-map-range_with_len _ 0 (length f)

-- whether the cell is settled is read off the flags of its parts
pub settled_said : (cells : List NetCell) (s : SeenView) (k first past : ℕ) → k < length cells → ((c : NetCell) → slice_get cells k ≡ Some c → first ≡ c.first)
    → ((c : NetCell) → slice_get cells k ≡ Some c → past ≡ c.first + length (kind_hows c.cell.kind)) → list_all (λ flag. flag) (slice_range s.settled first past) ≡ is_settled_there s (slice_get cells k)
settled_said cells s k first past within at_first at_past = go (slice_get_cases cells k).1
  where
    go : ((c : NetCell) × (k < length cells) × (slice_get cells k ≡ Some c) × (get_or cells k c ≡ c)) ⊎ ((length cells ≤ k) × (slice_get cells k ≡ None)) → list_all (λ flag. flag) (slice_range s.settled first past) ≡ is_settled_there s (slice_get cells k)
    go (inl f) =
        ap (λ n. list_all (λ flag. flag) (slice_range s.settled n past)) (at_first f.0 f.2)
        ∙ ap (λ n. list_all (λ flag. flag) (slice_range s.settled f.0.first n)) (at_past f.0 f.2)
        ∙ sym (ap (is_settled_there s) f.2)
    go (inr f) = let none = f.0 in absurd (omega arith)
