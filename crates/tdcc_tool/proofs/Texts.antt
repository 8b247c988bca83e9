-- Lists of texts and what is known of bytes.
use Rattle.std.proofs.Common.{◌≡◌, ℕ, ◌<◌, ◌≤◌, Bool, true, false, List, [], ◌∷◌, Some, None, map, length, get_or, sym, ap, ◌∙◌, subst, arith}
use Rattle.std.specs.Prelude.{Option, IfSome, IsTrue, String, string_bytes}
use Rattle.std.specs.declared.alloc.Global.{Global}
use Rattle.std.specs.Prelude.{nat_eq}
use Rattle.std.specs.Cmp.Lexicographic.{pointwise, bytes_decides}

pub IfSome-all : {T : Type 0} (o : Option T) (P : T → Type 0) → ((x : T) → P x) → IfSome o P
IfSome-all None P f = tt
IfSome-all (Some x) P f = f x

pub IfSome-map : {T : Type 0} (o : Option T) (P Q : T → Type 0) → IfSome o P → ((x : T) → P x → Q x) → IfSome o Q
IfSome-map None P Q p f = tt
IfSome-map (Some x) P Q p f = f x p

-- a list of one text
pub one_text : (ws : List (String Global)) (w : String Global) (text : List ℕ) → 1 ≤ length ws → length ws < 2 → w ≡ get_or ws 0 w → map string_bytes ws ≡ string_bytes w ∷ []
one_text [] w text a b e = absurd (omega arith)
one_text (x ∷ []) w text a b e = ap (λ (y : String Global). string_bytes y ∷ []) (sym e)
one_text (x ∷ y ∷ ws) w text a b e = absurd (omega arith)

pub true_and_false : (b : Bool) → b ≡ true → b ≡ false → ⊥
true_and_false b p q = cc

pub text_is : (w text : List ℕ) (ws : List (List ℕ)) (b : Bool) → b ≡ pointwise nat_eq w text → ws ≡ w ∷ [] → (IsTrue b → ws ≡ text ∷ []) × (ws ≡ text ∷ [] → IsTrue b)
text_is w text ws b e one =
    let d = bytes_decides w text in
    (λ t. one ∙ ap (λ (x : List ℕ). x ∷ []) (d.0 (sym e ∙ t)), λ h. e ∙ d.1 (let same : w ≡ text = (cc (sym one ∙ h)) in same))

pub IfSome-at : {T : Type 0} (o : Option T) (x : T) (P : T → Type 0) → o ≡ Some x → IfSome o P → P x
IfSome-at None x P e h = absurd (cc)
IfSome-at (Some y) x P e h = let same : y ≡ x = cc in subst P same h
