-- Lists that emit and shrink at their ends, as vectors do.
use Rattle.std.proofs.Common.{◌≡◌, List, [], ◌∷◌, ◌++◌, ap, sym, ◌∙◌}
use Rattle.std.specs.Prelude.{reverse}
use Rattle.std.proofs.lemmas.List.{append_assoc, reverse-append}

pub reverse_push : {X : Type 0} (xs : List X) (x : X) → reverse (xs ++ x ∷ []) ≡ x ∷ reverse xs
reverse_push xs x = reverse-append xs (x ∷ [])

-- the last of one list becomes the last of another
pub moved_over : {X : Type 0} (from less into more : List X) (x : X) → from ≡ less ++ x ∷ [] → more ≡ into ++ x ∷ [] → more ++ reverse less ≡ into ++ reverse from
moved_over {X} from less into more x e f =
    ap (λ (l : List X). l ++ reverse less) f
    ∙ append_assoc into (x ∷ []) (reverse less)
    ∙ ap (λ (l : List X). into ++ l) (sym (ap reverse e ∙ reverse_push less x))

-- the last of a list is put in front of another
pub put_in_front : {X : Type 0} (from less : List X) (x : X) (old new : List X) → from ≡ less ++ x ∷ [] → new ≡ x ∷ old → less ++ new ≡ from ++ old
put_in_front {X} from less x old new e f =
    ap (λ (l : List X). less ++ l) f
    ∙ sym (append_assoc less (x ∷ []) old)
    ∙ ap (λ (l : List X). l ++ old) (sym e)
