-- The text of a token of a local cell says one thing, and reads back as it was written.
use Rattle.std.proofs.Common.{◌≡◌, ℕ, zero, suc, ◌+◌, ◌<◌, ◌≤◌, ◌^◌, Bool, true, false, cond, ℤ, List, [], ◌∷◌, ◌++◌, length, take, drop, get_or, Option, Some, None, refl, sym, ap, ◌∙◌, subst, append_assoc, arith}
use Rattle.std.specs.Prelude.{All, IsTrue, codes, nat_lt, not, unwrap_or, ◌==◌}
use Rattle.std.specs.Fmt.{signed_decimal}
use Rattle.std.specs.List.{position_or_len, slice_split}
use Rattle.std.proofs.lemmas.Bool.Decides.{nat_tests}
use Rattle.std.proofs.lemmas.List.{append-nil, length-append}
use Rattle.std.proofs.Math.Seq.{take-append_seam, drop-append_seam}
use Rattle.names_and_numbers.specs.Names.{is_digit}
use Rattle.token_system.specs.Domain.{is_bound}
use Rattle.token_system.specs.Texts.{text_of, IsTail, alone, at_least, at_most, exactly, plain as plain_text}
use Rattle.token_system.specs.declared.cell.Kind.{Kind}
use Rattle.token_system.specs.declared.cell.Token.{Token}
use Rattle.token_system.specs.declared.cell.Token.TheVariants.{On, AtLeast, AtMost}
use Rattle.token_system.specs.declared.name.CellName.{CellName}
use Rattle.token_system.specs.declared.name.CellName.TheVariants.{Local}
use Rattle.token_system.specs.declared.reading.Written.{Written}
use Rattle.token_system.proofs.ByKind.{Fitting, fitting}
use Rattle.token_system.proofs.ByKind as by
use Rattle.token_system.proofs.OneReading.{one_reading}
use Rattle.token_system.proofs.ReadBack.{number-signed_decimal}
use Rattle.agent_core.specs.Strata.{Each}
use Rattle.agent_laws.proofs.Eachs.{all_each}
use Rattle.trace_text.specs.StoreLines.{exact_text}
use Rattle.certificate_text.specs.LocalNames.{is_dot, local_name_of, local_text, naturals_of, numbered_name}
use Rattle.certificate_text.specs.LocalTokens.{begins_tail, name_end, IsLocalTokenText, off, clash, plain}
use Rattle.certificate_text.specs.Laws.{LocalTokensSayOne, LocalTokensReadBack, LocalValuesReadBack}
use Rattle.certificate_text.proofs.NameTexts.{digit_is_not, name_avoids, names_law}

-- ONE READING

-- what follows a name means one pair of tokens: that of the text behind any name
one_local_tail : (rest : List ℕ) (f g : Token) (s t : Option Token) → IsTail rest f s → IsTail rest g t → (f ≡ g) × (s ≡ t)
one_local_tail rest f g s t a b =
    let same = one_reading (97 ∷ rest) (record { name_start = 0; name_end = 1; first = f; second = s }) (record { name_start = 0; name_end = 1; first = g; second = t })
    (plain_text (record { name = 97 ∷ []; rest = rest; parts = refl; is_a_name = refl; tail = a; start = refl; ends = refl }))
    (plain_text (record { name = 97 ∷ []; rest = rest; parts = refl; is_a_name = refl; tail = b; start = refl; ends = refl })) in
    (ap (λ (w : Written). w.first) same, ap (λ (w : Written). w.second) same)

-- what begins with another byte than `@` is no name of a local cell
pub no_local_name : (mark : ℕ) (text : List ℕ) (k : ℕ) (name : CellName) → mark == 64 ≡ false → local_name_of (take k (mark ∷ text)) ≡ Some name → ⊥
no_local_name mark text zero name other e = absurd (cc)
no_local_name mark text (suc k) name other e =
    let none : None ≡ Some name = sym (ap (λ b. cond b (numbered_name (naturals_of (slice_split is_dot (take k text)))) None) other) ∙ e in absurd (cc)

pub marked_plain : (bytes text : List ℕ) (mark : ℕ) (name : CellName) → bytes ≡ mark ∷ text → mark == 64 ≡ false → local_name_of (take (name_end bytes) bytes) ≡ Some name → ⊥
marked_plain bytes text mark name parts other e = no_local_name mark text (name_end bytes) name other (ap (λ (bs : List ℕ). local_name_of (take (name_end bytes) bs)) (sym parts) ∙ e)

one_name : (xs ys : List ℕ) (m n : CellName) → xs ≡ ys → local_name_of xs ≡ Some m → local_name_of ys ≡ Some n → m ≡ n
one_name xs ys m n same a b = let e : Some m ≡ Some n = sym a ∙ ap local_name_of same ∙ b in cc

pub one_local_token : LocalTokensSayOne
one_local_token bytes m n f g s t (off x e a p q) (off y e' b p' q') = (one_name x y m n (let same : 33 ∷ x ≡ 33 ∷ y = sym e ∙ e' in cc) a b, p ∙ sym p', q ∙ sym q')
one_local_token bytes m n f g s t (clash x e a p q) (clash y e' b p' q') = (one_name x y m n (let same : 35 ∷ x ≡ 35 ∷ y = sym e ∙ e' in cc) a b, p ∙ sym p', q ∙ sym q')
one_local_token bytes m n f g s t (plain a x) (plain b y) =
    let tails = one_local_tail (drop (name_end bytes) bytes) f g s t x y in
    (one_name (take (name_end bytes) bytes) (take (name_end bytes) bytes) m n refl a b, tails.0, tails.1)
one_local_token bytes m n f g s t (off x e a p q) (clash y e' b p' q') = absurd (let same : 33 ∷ x ≡ 35 ∷ y = sym e ∙ e' in let first : 33 ≡ 35 = ap (λ bs. get_or bs 0 0) same in omega arith)
one_local_token bytes m n f g s t (clash x e a p q) (off y e' b p' q') = absurd (let same : 35 ∷ x ≡ 33 ∷ y = sym e ∙ e' in let first : 35 ≡ 33 = ap (λ bs. get_or bs 0 0) same in omega arith)
one_local_token bytes m n f g s t (off x e a p q) (plain b y) = absurd (marked_plain bytes x 33 n e refl b)
one_local_token bytes m n f g s t (clash x e a p q) (plain b y) = absurd (marked_plain bytes x 35 n e refl b)
one_local_token bytes m n f g s t (plain a x) (off y e' b p' q') = absurd (marked_plain bytes y 33 m e' refl a)
one_local_token bytes m n f g s t (plain a x) (clash y e' b p' q') = absurd (marked_plain bytes y 35 m e' refl a)

-- WHERE THE NAME ENDS

digit_no_tail : (b : ℕ) → is_digit b ≡ true → begins_tail b ≡ false
digit_no_tail b digit = rw (digit_is_not b 62 refl digit, digit_is_not b 60 refl digit, digit_is_not b 61 refl digit) refl

name_no_tail : (node : ℕ) (births : List ℕ) → node < 10 ^ 9 → Each (λ b. b < 10 ^ 9) births → Each (λ b. begins_tail b ≡ false) (local_text node births)
name_no_tail = name_avoids begins_tail digit_no_tail refl refl

-- what begins no tail is passed over
place_behind : (name rest : List ℕ) → Each (λ b. begins_tail b ≡ false) name → position_or_len begins_tail (name ++ rest) ≡ length name + position_or_len begins_tail rest
place_behind [] rest none = let same : position_or_len begins_tail rest ≡ 0 + position_or_len begins_tail rest = omega arith in same
place_behind (b ∷ name) rest none =
    ap (λ t. cond (not t) (1 + position_or_len begins_tail (name ++ rest)) 0) none.0
    ∙ (let later = place_behind name rest none.1 in let more : 1 + position_or_len begins_tail (name ++ rest) ≡ suc (length name) + position_or_len begins_tail rest = omega arith in more)

end_at : (bytes : List ℕ) (k : ℕ) → position_or_len begins_tail bytes ≡ k → k ≤ length bytes → name_end bytes ≡ k
end_at bytes k e within = ap (λ (m : ℕ). unwrap_or (cond (nat_lt m (length bytes)) (Some m) None) (length bytes)) e ∙ go (nat_lt k (length bytes)) refl
  where
    go : (t : Bool) → nat_lt k (length bytes) ≡ t → unwrap_or (cond t (Some k) None) (length bytes) ≡ k
    go true less = refl
    go false over = let k_is : length bytes ≤ k = grind (arith, nat_tests) in let same : length bytes ≡ k = omega arith in same

-- a name, and then nothing or what begins a tail
name_ends : (name rest : List ℕ) → Each (λ b. begins_tail b ≡ false) name → position_or_len begins_tail rest ≡ 0 → name_end (name ++ rest) ≡ length name
name_ends name rest none first =
    end_at (name ++ rest) (length name) (place_behind name rest none ∙ ap (λ (k : ℕ). length name + k) first ∙ (let k : length name + 0 ≡ length name = omega arith in k))
    (let both = length-append name rest in omega (arith, both))

-- a name and a tail are the text of a token
name_and_tail : (name rest : List ℕ) (n : CellName) (first : Token) (second : Option Token) → Each (λ b. begins_tail b ≡ false) name → local_name_of name ≡ Some n
    → position_or_len begins_tail rest ≡ 0 → IsTail rest first second → IsLocalTokenText (name ++ rest) n first second
name_and_tail name rest n first second none named begins tail =
    let ends = name_ends name rest none begins in
    plain
    (ap (λ (k : ℕ). local_name_of (take k (name ++ rest))) ends ∙ ap local_name_of (take-append_seam name rest) ∙ named)
    (subst (λ (bs : List ℕ). IsTail bs first second) (sym (ap (λ (k : ℕ). drop k (name ++ rest)) ends ∙ drop-append_seam name rest)) tail)

-- a name, a relation and a number
name_and_number : (name relation number : List ℕ) (n : CellName) (first : Token) (second : Option Token) → Each (λ b. begins_tail b ≡ false) name → local_name_of name ≡ Some n
    → position_or_len begins_tail (relation ++ number) ≡ 0 → IsTail (relation ++ number) first second → IsLocalTokenText (name ++ relation ++ number) n first second
name_and_number name relation number n first second none named begins tail =
    subst (λ (bs : List ℕ). IsLocalTokenText bs n first second) (sym (append_assoc name relation number)) (name_and_tail name (relation ++ number) n first second none named begins tail)

module _ (node : ℕ) (births : List ℕ) (lt : node < 10 ^ 9) (small : All (λ b. b < 10 ^ 9) births) where
  none : Each (λ b. begins_tail b ≡ false) (local_text node births)
  none = name_no_tail node births lt (all_each (λ b. b < 10 ^ 9) births small)

  named : local_name_of (local_text node births) ≡ Some (Local node births)
  named = names_law node births lt small

  by_kind : (k : Kind) (t : Token) → Fitting k t → IsLocalTokenText (text_of (local_text node births) t) (Local node births) t None
  by_kind _ _ by.on =
      subst (λ (bs : List ℕ). IsLocalTokenText bs (Local node births) On None) (append-nil (local_text node births))
      (name_and_tail (local_text node births) [] (Local node births) On None none named refl (alone refl refl refl))
  by_kind _ _ by.off = off (local_text node births) refl named refl refl
  by_kind _ _ (by.Fitting.clash _) = clash (local_text node births) refl named refl refl
  by_kind _ _ (by.at_least k bound) =
      name_and_number (local_text node births) (codes ">=") (signed_decimal k) (Local node births) (AtLeast k) None none named refl
      (at_least (signed_decimal k) k refl (number-signed_decimal k bound) refl refl)
  by_kind _ _ (by.at_most k bound) =
      name_and_number (local_text node births) (codes "<=") (signed_decimal k) (Local node births) (AtMost k) None none named refl
      (at_most (signed_decimal k) k refl (number-signed_decimal k bound) refl refl)

  by_number : (k : ℤ) → IsTrue (is_bound k) → IsLocalTokenText (exact_text (local_text node births) k) (Local node births) (AtLeast k) (Some (AtMost k))
  by_number k bound =
      name_and_number (local_text node births) (codes "=") (signed_decimal k) (Local node births) (AtLeast k) (Some (AtMost k)) none named refl
      (exactly (signed_decimal k) k refl (number-signed_decimal k bound) refl refl)

pub tokens_read_back : LocalTokensReadBack
tokens_read_back c node births t lt small fits = by_kind node births lt small c.kind t (fitting c.kind t fits)

pub values_read_back : LocalValuesReadBack
values_read_back node births k lt small bound = by_number node births lt small k bound
