-- Text that is made of a list, piece by piece.
use Rattle.std.proofs.Common.{◌≡◌, ℕ, suc, ◌+◌, ◌<◌, ◌≤◌, List, ◌∷◌, ◌++◌, length, drop, get_or, sym, ap, ◌∙◌, append_assoc, add-one, drop-cons}
use Rattle.std.specs.List.{flat_map}
use Rattle.std.proofs.lemmas.List.{append-nil, drop_all}

-- the texts of the elements from n on are left, and they end the whole
abbrev pub Left : {X : Type 0} → (X → List ℕ) → List X → List ℕ → ℕ → List ℕ → Type 0
Left text xs whole n now = now ++ flat_map text (drop n xs) ≡ whole

-- one piece more
pub left-next : {X : Type 0} (text : X → List ℕ) (xs : List X) (whole : List ℕ) (n : ℕ) (x : X) (now after : List ℕ) → n < length xs → x ≡ get_or xs n x → after ≡ now ++ text x → Left text xs whole n now → Left text xs whole (n + 1) after
left-next {X} text xs whole n x now after lt is e h =
    let split : drop n xs ≡ x ∷ drop (n + 1) xs = rw add-one (drop-cons xs n x lt ∙ ap (λ (y : X). y ∷ drop (suc n) xs) (sym is)) in
    ap (λ (bytes : List ℕ). bytes ++ flat_map text (drop (n + 1) xs)) e ∙ append_assoc now (text x) (flat_map text (drop (n + 1) xs)) ∙ ap (λ (ys : List X). now ++ flat_map text ys) (sym split) ∙ h

-- no piece is left
pub left-none : {X : Type 0} (text : X → List ℕ) (xs : List X) (whole : List ℕ) (n : ℕ) (now : List ℕ) → length xs ≤ n → Left text xs whole n now → now ≡ whole
left-none text xs whole n now over h = sym (append-nil now) ∙ ap (λ ys. now ++ flat_map text ys) (sym (drop_all n xs over)) ∙ h
