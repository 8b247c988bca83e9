-- The pieces of a source in memory, given one by one.
use Rattle.std.proofs.Common.{◌≡◌, ◌<◌, ◌≤◌, ◌+◌, ℕ, suc, List, [], ◌∷◌, ◌++◌, Vec, length, take, drop, get_or, refl, sym, ap, ◌∙◌, subst, arith, drop-cons, drop_of_length-le, length-drop, append_assoc}
use Rattle.std.specs.List.{concat}
use Rattle.std.proofs.lemmas.List.{take-append-drop, drop-drop}
use Rattle.std.specs.declared.alloc.Global.{Global}
use Rattle.tdcc_base.specs.Chunks.{chunk_bytes, pieces_from, skip_empty, BeginsWithin}

pub concat-skip_empty : (pieces : List (List ℕ)) → concat (skip_empty pieces) ≡ concat pieces
concat-skip_empty [] = refl
concat-skip_empty ([] ∷ pieces) = concat-skip_empty pieces
concat-skip_empty ((b ∷ piece) ∷ pieces) = refl

pub pieces_from-zero : (pieces : List (Vec ℕ Global)) → pieces_from 0 pieces ≡ chunk_bytes pieces
pieces_from-zero [] = refl
pieces_from-zero (piece ∷ pieces) = refl

-- a piece of which all is given is skipped
pub skip_given : (pieces : List (Vec ℕ Global)) (place given : ℕ) (d : Vec ℕ Global) → place < length pieces → length (get_or pieces place d).items ≤ given
    → skip_empty (pieces_from 0 (drop (place + 1) pieces)) ≡ skip_empty (pieces_from given (drop place pieces))
skip_given pieces place given d within all =
    let next : suc place ≡ place + 1 = omega arith in
    let here : drop place pieces ≡ get_or pieces place d ∷ drop (place + 1) pieces = drop-cons pieces place d within ∙ ap (λ (k : ℕ). get_or pieces place d ∷ drop k pieces) next in
    let none : drop given (get_or pieces place d).items ≡ [] = drop_of_length-le (get_or pieces place d).items all in
    sym (ap (λ ps. skip_empty (pieces_from given ps)) here ∙ ap (λ (xs : List ℕ). skip_empty (xs ∷ chunk_bytes (drop (place + 1) pieces))) none ∙ ap skip_empty (sym (pieces_from-zero (drop (place + 1) pieces))))

-- the place of a piece is the front of the rest
at_place : (pieces : List (Vec ℕ Global)) (place : ℕ) (d : Vec ℕ Global) → place < length pieces → drop place pieces ≡ get_or pieces place d ∷ drop (place + 1) pieces
at_place pieces place d within =
    let next : suc place ≡ place + 1 = omega arith in
    drop-cons pieces place d within ∙ ap (λ (k : ℕ). get_or pieces place d ∷ drop k pieces) next

pub begins_past : (pieces : List (Vec ℕ Global)) (place given : ℕ) → length pieces ≤ place → BeginsWithin given (drop place pieces)
begins_past pieces place given past = subst (BeginsWithin given) (sym (drop_of_length-le pieces past)) tt

pub begins_at : (pieces : List (Vec ℕ Global)) (place given : ℕ) (d : Vec ℕ Global) → place < length pieces → given < length (get_or pieces place d).items → BeginsWithin given (drop place pieces)
begins_at pieces place given d within some = subst (BeginsWithin given) (sym (at_place pieces place d within)) some

skip_some : (piece : List ℕ) (pieces : List (List ℕ)) → 0 < length piece → skip_empty (piece ∷ pieces) ≡ piece ∷ pieces
skip_some [] pieces some = absurd (omega arith)
skip_some (b ∷ piece) pieces some = refl

-- A PIECE FROM WHICH n BYTES ARE GIVEN

module _ (pieces : List (Vec ℕ Global)) (place given : ℕ) (piece : Vec ℕ Global) (within : place < length pieces) (is : piece ≡ get_or pieces place piece) (begins : BeginsWithin given (drop place pieces)) where
  pub here : drop place pieces ≡ piece ∷ drop (place + 1) pieces
  here = at_place pieces place piece within ∙ ap (λ (p : Vec ℕ Global). p ∷ drop (place + 1) pieces) (sym is)

  pub some_left : given < length piece.items
  some_left = let at : BeginsWithin given (piece ∷ drop (place + 1) pieces) = subst (BeginsWithin given) here begins in at

  pub left_before : skip_empty (pieces_from given (drop place pieces)) ≡ drop given piece.items ∷ chunk_bytes (drop (place + 1) pieces)
  left_before =
      let some : 0 < length (drop given piece.items) = rw length-drop (omega (arith, some_left)) in
      ap (λ ps. skip_empty (pieces_from given ps)) here ∙ skip_some (drop given piece.items) (chunk_bytes (drop (place + 1) pieces)) some

  pub left_after : (n : ℕ) → skip_empty (pieces_from (given + n) (drop place pieces)) ≡ skip_empty (drop n (drop given piece.items) ∷ chunk_bytes (drop (place + 1) pieces))
  left_after n = ap (λ ps. skip_empty (pieces_from (given + n) ps)) here ∙ ap (λ (xs : List ℕ). skip_empty (xs ∷ chunk_bytes (drop (place + 1) pieces))) (sym (drop-drop n given piece.items))

  pub bytes_given : (n : ℕ) → concat (skip_empty (pieces_from given (drop place pieces))) ≡ take n (drop given piece.items) ++ concat (skip_empty (pieces_from (given + n) (drop place pieces)))
  bytes_given n =
      let rest : List (List ℕ) = chunk_bytes (drop (place + 1) pieces) in
      ap concat left_before ∙ ap (λ (xs : List ℕ). xs ++ concat rest) (sym (take-append-drop n (drop given piece.items)))
      ∙ append_assoc (take n (drop given piece.items)) (drop n (drop given piece.items)) (concat rest)
      ∙ ap (λ (xs : List ℕ). take n (drop given piece.items) ++ xs) (sym (ap concat (left_after n) ∙ concat-skip_empty (drop n (drop given piece.items) ∷ rest)))
