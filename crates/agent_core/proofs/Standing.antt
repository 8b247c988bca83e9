-- Where a part of a list stands in it.
use Rattle.std.proofs.Common.{◌≡◌, ℕ, suc, ◌+◌, ◌≤◌, List, [], ◌∷◌, ◌++◌, Some, length, refl, sym, ap, ◌∙◌, arith, append_assoc, length-append}
use Rattle.std.specs.Prelude.{slice_get}
use Rattle.std.proofs.lemmas.List.{append-nil}

-- the part stands in the list from place n on
pub record StandsAt (X : Type 0) (all : List X) (n : ℕ) (part : List X) : Type 0 where
  pub front : List X
  pub back : List X
  pub whole : all ≡ front ++ (part ++ back)
  pub long : length front ≡ n

pub stands-itself : {X : Type 0} {all part : List X} → all ≡ part → StandsAt X all 0 part
stands-itself {X} {all} {part} e = record { front = []; back = []; whole = e ∙ sym (append-nil part); long = refl }

at_seam : {X : Type 0} (front : List X) (x : X) (back : List X) → slice_get (front ++ x ∷ back) (length front) ≡ Some x
at_seam [] x back = refl
at_seam (y ∷ front) x back = at_seam front x back

-- the first element of the part is the list's at that place
pub stands-head : {X : Type 0} {all : List X} {n : ℕ} {x : X} {part : List X} → StandsAt X all n (x ∷ part) → slice_get all n ≡ Some x
stands-head {X} {all} {n} {x} {part} s =
    ap (λ (k : ℕ). slice_get all k) (sym s.long) ∙ ap (λ (xs : List X). slice_get xs (length s.front)) s.whole ∙ at_seam s.front x (part ++ s.back)

pub stands-tail : {X : Type 0} {all : List X} {n : ℕ} {x : X} {part : List X} → StandsAt X all n (x ∷ part) → StandsAt X all (suc n) part
stands-tail {X} {all} {n} {x} {part} s = record {
  front = s.front ++ x ∷ [];
  back = s.back;
  whole = s.whole ∙ sym (append_assoc s.front (x ∷ []) (part ++ s.back));
  long = let h = s.long in omega (arith, length-append s.front (x ∷ []));
}

pub stands-left : {X : Type 0} {all : List X} {n : ℕ} (xs ys : List X) → StandsAt X all n (xs ++ ys) → StandsAt X all n xs
stands-left {X} xs ys s = record {
  front = s.front;
  back = ys ++ s.back;
  whole = s.whole ∙ ap (λ (zs : List X). s.front ++ zs) (append_assoc xs ys s.back);
  long = s.long;
}

pub stands-right : {X : Type 0} {all : List X} {n : ℕ} (xs ys : List X) → StandsAt X all n (xs ++ ys) → (m : ℕ) → m ≡ n + length xs → StandsAt X all m ys
stands-right {X} xs ys s m e = record {
  front = s.front ++ xs;
  back = s.back;
  whole = s.whole ∙ ap (λ (zs : List X). s.front ++ zs) (append_assoc xs ys s.back) ∙ sym (append_assoc s.front xs (ys ++ s.back));
  long = let h = s.long in omega (arith, length-append s.front xs);
}

pub stands-within : {X : Type 0} {all : List X} {n : ℕ} {part : List X} → StandsAt X all n part → n + length part ≤ length all
stands-within {X} {all} {n} {part} s =
    let e = ap length s.whole in let h = s.long in omega (arith, length-append s.front (part ++ s.back), length-append part s.back)
