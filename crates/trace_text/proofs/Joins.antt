-- Texts that are written one after another, with a separator between each two.
use Rattle.std.proofs.Common.{◌≡◌, ℕ, ◌+◌, ◌<◌, List, [], ◌∷◌, ◌++◌, length, sym, ap, ◌∙◌, append_assoc, arith}
use Rattle.std.specs.Prelude.{map}
use Rattle.std.specs.List.{range_with_len}
use Rattle.std.proofs.lemmas.List.{append-nil}
use Rattle.std.proofs.lemmas.List.Concat.{flat_map-append}
use Rattle.std.proofs.lemmas.List.FromFn.{length-map-range_with_len, map-range_with_len_more}
use Rattle.trace_text.specs.Generated.{joined_by}
use Rattle.trace_text.specs.Writing.{before, separated}

-- a text behind another one
pub behind : (x y z front now last : List ℕ) → now ≡ front ++ x → last ≡ now ++ (y ++ z) → last ≡ front ++ (x ++ y ++ z)
behind x y z front now last h l = l ∙ ap (λ (r : List ℕ). r ++ (y ++ z)) h ∙ append_assoc front x (y ++ z) ∙ ap (λ (r : List ℕ). front ++ r) (sym (append_assoc x y z))

separated-push : (separator : List ℕ) (texts : List (List ℕ)) (text : List ℕ) → separated separator (texts ++ text ∷ []) ≡ separated separator texts ++ (separator ++ text)
separated-push separator texts text =
    let each : List ℕ → List ℕ = λ t. separator ++ t in
    flat_map-append each texts (text ∷ []) ∙ ap (λ (r : List ℕ). separated separator texts ++ r) (append-nil (separator ++ text))

-- one text more
joined-push : (separator : List ℕ) (texts : List (List ℕ)) (text : List ℕ) → joined_by separator (texts ++ text ∷ []) ≡ joined_by separator texts ++ (before (length texts) separator ++ text)
joined-push separator [] text = append-nil text
joined-push separator (first ∷ texts) text = ap (λ (r : List ℕ). first ++ r) (separated-push separator texts text) ∙ sym (append_assoc first (separated separator texts) (separator ++ text))

-- more texts behind some
pub joined-append : (separator : List ℕ) (some more : List (List ℕ)) → 0 < length some → joined_by separator (some ++ more) ≡ joined_by separator some ++ separated separator more
joined-append separator [] more h = absurd (omega arith)
joined-append separator (first ∷ some) more h =
    let each : List ℕ → List ℕ = λ t. separator ++ t in
    ap (λ (r : List ℕ). first ++ r) (flat_map-append each some more) ∙ sym (append_assoc first (separated separator some) (separated separator more))

-- one text more is written behind the others
pub joined_written : (separator : List ℕ) (texts : List (List ℕ)) (text : List ℕ) (place : ℕ) (front now middle last : List ℕ)
    → length texts ≡ place → now ≡ front ++ joined_by separator texts → middle ≡ now ++ before place separator → last ≡ middle ++ text → last ≡ front ++ joined_by separator (texts ++ text ∷ [])
joined_written separator texts text place front now middle last e h m l =
    let so_far : List ℕ = joined_by separator texts in
    l
    ∙ ap (λ (r : List ℕ). r ++ text) (m ∙ ap (λ (r : List ℕ). r ++ before place separator) h ∙ ap (λ (k : ℕ). (front ++ so_far) ++ before k separator) (sym e))
    ∙ append_assoc (front ++ so_far) (before (length texts) separator) text
    ∙ append_assoc front so_far (before (length texts) separator ++ text)
    ∙ ap (λ (r : List ℕ). front ++ r) (sym (joined-push separator texts text))

-- the same where the texts are those of the numbers from a on
pub row_written : (separator : List ℕ) (f : ℕ → List ℕ) (a n j : ℕ) (front now middle last : List ℕ)
    → a + n ≡ j → now ≡ front ++ joined_by separator (map f (range_with_len a n)) → middle ≡ now ++ before n separator → last ≡ middle ++ f j → last ≡ front ++ joined_by separator (map f (range_with_len a (n + 1)))
row_written separator f a n j front now middle last e h m l =
    joined_written separator (map f (range_with_len a n)) (f j) n front now middle last (length-map-range_with_len f a n) h m l
    ∙ ap (λ (r : List (List ℕ)). front ++ joined_by separator r) (sym (map-range_with_len_more f a n j e))

-- the texts of a row of numbers are written to its end, between two texts
pub row_closed : (first separator close : List ℕ) (f : ℕ → List ℕ) (a m n : ℕ) (front now last : List ℕ)
    → m ≡ n → now ≡ (front ++ first) ++ joined_by separator (map f (range_with_len a m)) → last ≡ now ++ close → last ≡ front ++ (first ++ joined_by separator (map f (range_with_len a n)) ++ close)
row_closed first separator close f a m n front now last e h l =
    let row : ℕ → List ℕ = λ k. joined_by separator (map f (range_with_len a k)) in
    l
    ∙ ap (λ (r : List ℕ). r ++ close) (h ∙ ap (λ (k : ℕ). (front ++ first) ++ row k) e ∙ append_assoc front first (row n))
    ∙ append_assoc front (first ++ row n) close

-- one text more is written behind texts that each have the separator before them
pub separated_written : (separator : List ℕ) (texts : List (List ℕ)) (text front now middle last : List ℕ)
    → now ≡ front ++ separated separator texts → middle ≡ now ++ separator → last ≡ middle ++ text → last ≡ front ++ separated separator (texts ++ text ∷ [])
separated_written separator texts text front now middle last h m l =
    l
    ∙ ap (λ (r : List ℕ). r ++ text) (m ∙ ap (λ (r : List ℕ). r ++ separator) h)
    ∙ append_assoc (front ++ separated separator texts) separator text
    ∙ append_assoc front (separated separator texts) (separator ++ text)
    ∙ ap (λ (r : List ℕ). front ++ r) (sym (separated-push separator texts text))
