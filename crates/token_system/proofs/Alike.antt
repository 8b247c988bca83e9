-- Values of a cell that entail the same tokens are one value.
use Rattle.std.proofs.Common.{◌≡◌, Bool, true, false, ◌&&◌, ℤ, refl, sym, ap, ◌∙◌, arith}
use Rattle.std.specs.Prelude.{◌≤ℤ◌, IsTrue, int_le}
use Rattle.std.proofs.lemmas.Int.{ints}
use Rattle.token_system.specs.declared.cell.Kind.{Kind}
use Rattle.token_system.specs.declared.cell.Token.{Token}
use Rattle.token_system.specs.declared.cell.Token.TheVariants.{On, Off, AtLeast, AtMost, Clash}
use Rattle.token_system.specs.declared.cell.Value.{Value}
use Rattle.token_system.specs.declared.cell.Value.TheVariants as values
use Rattle.token_system.specs.Domain.{is_bound, is_cell}
use Rattle.token_system.specs.Tokens.{fits_kind}
use Rattle.token_system.specs.Values.{value_entails, IsProper, WithinDomain}
use Rattle.token_system.proofs.ByKind.{OfKind, signal, number, clash, of_kind}
pub use Rattle.token_system.proofs.ByKind.{true_false}

-- y entails what x entails, of what fits the kind
abbrev pub Covers : Kind → Value → Value → Type 0
Covers k x y = (t : Token) → IsTrue (fits_kind k t) → IsTrue (value_entails x t) → IsTrue (value_entails y t)

same_bools : (a b : Bool) → (IsTrue a → IsTrue b) → (IsTrue b → IsTrue a) → a ≡ b
same_bools true true f g = refl
same_bools true false f g = sym (f refl)
same_bools false true f g = g refl
same_bools false false f g = refl

pub within_bound : (a lo b hi : ℤ) → IsTrue (is_bound a && is_bound b && int_le a b) → a ≤ℤ lo → lo ≤ℤ hi → hi ≤ℤ b → IsTrue (is_bound lo) × IsTrue (is_bound hi)
within_bound a lo b hi c p q r = (grind (arith, ints), grind (arith, ints))

same_ints : (a b : ℤ) → IsTrue (int_le a b) → IsTrue (int_le b a) → a ≡ b
same_ints a b p q = grind (arith, ints)

pub le_itself : (a : ℤ) → IsTrue (int_le a a)
le_itself a = grind (arith, ints)

pub clash_alone : (v : Value) → IsTrue (value_entails v Clash) → v ≡ values.Clash
clash_alone values.Clash h = refl
clash_alone (values.Signal a b) h = absurd (true_false (sym h))
clash_alone (values.Number a b) h = absurd (true_false (sym h))

alike : (least most : ℤ) (k : Kind) (x y : Value) → IsTrue (is_cell k least most) → OfKind least most k x → OfKind least most k y → IsProper x → IsProper y → Covers k x y → Covers k y x → x ≡ y
alike least most _ _ y cell (clash k) q px py xy yx = sym (clash_alone y (xy Clash refl refl))
alike least most _ x _ cell q (clash k) px py xy yx = clash_alone x (yx Clash refl refl)
alike least most _ _ _ cell (signal a b) (signal c d) px py xy yx =
    ap (λ v. values.Signal v b) (same_bools a c (xy On refl) (yx On refl)) ∙ ap (values.Signal c) (same_bools b d (xy Off refl) (yx Off refl))
alike least most _ _ _ cell (number a b la bm) (number c d lc dm) px py xy yx =
    let u = within_bound least a most b cell la px bm in
    let v = within_bound least c most d cell lc py dm in
    ap (λ n. values.Number n b) (same_ints a c (xy (AtLeast a) u.0 (le_itself a)) (yx (AtLeast c) v.0 (le_itself c)))
    ∙ ap (values.Number c) (same_ints b d (yx (AtMost d) v.1 (le_itself d)) (xy (AtMost b) u.1 (le_itself b)))

pub same_tokens : (k : Kind) (least most : ℤ) (x y : Value) → IsTrue (is_cell k least most)
    → WithinDomain least most k x → IsProper x → WithinDomain least most k y → IsProper y
    → Covers k x y → Covers k y x → x ≡ y
same_tokens k least most x y cell dx px dy py xy yx = alike least most k x y cell (of_kind least most k x dx) (of_kind least most k y dy) px py xy yx
