-- Bytes are the text of a token, or they are none.
use Rattle.std.proofs.Common.{◌≡◌, ◌⊎◌, inl, inr, ℕ, eqb, Bool, true, false, ℤ, List, [], ◌∷◌, ◌++◌, length, get_or, Some, None, refl, sym, ap, ◌∙◌, subst, arith}
use Rattle.std.specs.Prelude.{Option, IsTrue}
use Rattle.std.specs.List.{list_all}
use Rattle.std.proofs.lemmas.Bool.Decides.{eqb_tells}
use Rattle.token_system.specs.declared.cell.Token.{Token}
use Rattle.token_system.specs.declared.cell.Token.TheVariants.{On, Off, AtLeast, AtMost, Clash}
use Rattle.token_system.specs.declared.reading.Written.{Written}
use Rattle.token_system.specs.Texts.{is_name, is_word_byte, number_of_text, marked_name, IsTail, alone, at_least, at_most, exactly, IsNamed, IsTokenText, off, clash, plain}
use Rattle.token_system.proofs.Alike.{true_false}
use Rattle.token_system.proofs.NameFronts.{StartsOutside, tail-outside, name_bytes}
use Rattle.agent_core.proofs.Bools.{both, first_of_both, second_of_both}

heads : (a b : ℕ) (xs ys : List ℕ) → a ∷ xs ≡ b ∷ ys → a ≡ b
heads a b xs ys e = ap (λ zs. get_or zs 0 0) e

-- a test holds, or it does not
pub decide : (b : Bool) → (b ≡ true) ⊎ (b ≡ false)
decide true = inl refl
decide false = inr refl

decide_number : (bytes : List ℕ) → ((k : ℤ) × (number_of_text bytes ≡ Some k)) ⊎ (number_of_text bytes ≡ None)
decide_number bytes = go (number_of_text bytes)
  where
    go : (o : Option ℤ) → ((k : ℤ) × (o ≡ Some k)) ⊎ (o ≡ None)
    go None = inr refl
    go (Some k) = inl (k, refl)

-- what follows a name means tokens, or it means none
abbrev HasTail : List ℕ → Type 0
HasTail rest = (first : Token) × (second : Option Token) × IsTail rest first second

abbrev HasNoTail : List ℕ → Type 0
HasNoTail rest = (first : Token) (second : Option Token) → IsTail rest first second → ⊥

-- an equality sign, and what stands behind it
equality : (after : List ℕ) → HasTail (61 ∷ after) ⊎ HasNoTail (61 ∷ after)
equality after = go (decide_number after)
  where
    none : number_of_text after ≡ None → HasNoTail (61 ∷ after)
    none e first second (alone h f s) = cc
    none e first second (at_least number k h n f s) = let m = heads 61 62 _ _ h in omega arith
    none e first second (at_most number k h n f s) = let m = heads 61 60 _ _ h in omega arith
    none e first second (exactly number k h n f s) =
        let same : after ≡ number = cc in
        let wrong : None ≡ Some k = sym e ∙ ap number_of_text same ∙ n in cc

    go : ((k : ℤ) × (number_of_text after ≡ Some k)) ⊎ (number_of_text after ≡ None) → HasTail (61 ∷ after) ⊎ HasNoTail (61 ∷ after)
    go (inl (k, e)) = inl (AtLeast k, Some (AtMost k), exactly after k refl e refl refl)
    go (inr e) = inr (none e)

-- a sign of another kind, which is to have an equality sign behind it
bound : (r : ℕ) (after : List ℕ) → (r ≡ 61 → ⊥) → ((r ≡ 62) ⊎ (r ≡ 60)) ⊎ ((r ≡ 62 → ⊥) × (r ≡ 60 → ⊥)) → HasTail (r ∷ after) ⊎ HasNoTail (r ∷ after)
bound r after other (inr (no_least, no_most)) = inr none
  where
    none : HasNoTail (r ∷ after)
    none first second (alone h f s) = cc
    none first second (at_least number k h n f s) = no_least (heads r 62 _ _ h)
    none first second (at_most number k h n f s) = no_most (heads r 60 _ _ h)
    none first second (exactly number k h n f s) = other (heads r 61 _ _ h)
bound r [] other (inl sign) = inr none
  where
    none : HasNoTail (r ∷ [])
    none first second (alone h f s) = cc
    none first second (at_least number k h n f s) = let same : [] ≡ 61 ∷ number = cc in cc
    none first second (at_most number k h n f s) = let same : [] ≡ 61 ∷ number = cc in cc
    none first second (exactly number k h n f s) = other (heads r 61 _ _ h)
bound r (e ∷ digits) other (inl sign) = go (eqb_tells e 61) (decide_number digits) sign
  where
    no_equals : (e ≡ 61 → ⊥) → HasNoTail (r ∷ e ∷ digits)
    no_equals differs first second (alone h f s) = cc
    no_equals differs first second (at_least number k h n f s) = let same : e ∷ digits ≡ 61 ∷ number = cc in differs (heads e 61 _ _ same)
    no_equals differs first second (at_most number k h n f s) = let same : e ∷ digits ≡ 61 ∷ number = cc in differs (heads e 61 _ _ same)
    no_equals differs first second (exactly number k h n f s) = other (heads r 61 _ _ h)

    no_number : number_of_text digits ≡ None → HasNoTail (r ∷ e ∷ digits)
    no_number none first second (alone h f s) = cc
    no_number none first second (at_least number k h n f s) =
        let same : digits ≡ number = cc in let wrong : None ≡ Some k = sym none ∙ ap number_of_text same ∙ n in cc
    no_number none first second (at_most number k h n f s) =
        let same : digits ≡ number = cc in let wrong : None ≡ Some k = sym none ∙ ap number_of_text same ∙ n in cc
    no_number none first second (exactly number k h n f s) = other (heads r 61 _ _ h)

    go : ((eqb e 61 ≡ true) × (e ≡ 61)) ⊎ ((eqb e 61 ≡ false) × (e ≡ 61 → ⊥)) → ((k : ℤ) × (number_of_text digits ≡ Some k)) ⊎ (number_of_text digits ≡ None) → (r ≡ 62) ⊎ (r ≡ 60)
        → HasTail (r ∷ e ∷ digits) ⊎ HasNoTail (r ∷ e ∷ digits)
    go (inr (t, differs)) number sign = inr (no_equals differs)
    go (inl (t, equals)) (inr none) sign = inr (no_number none)
    go (inl (t, equals)) (inl (k, n)) (inl least) = inl (AtLeast k, None, at_least digits k (ap (λ (x : ℕ). x ∷ e ∷ digits) least ∙ ap (λ (x : ℕ). 62 ∷ x ∷ digits) equals) n refl refl)
    go (inl (t, equals)) (inl (k, n)) (inr most) = inl (AtMost k, None, at_most digits k (ap (λ (x : ℕ). x ∷ e ∷ digits) most ∙ ap (λ (x : ℕ). 60 ∷ x ∷ digits) equals) n refl refl)

decide_tail : (rest : List ℕ) → HasTail rest ⊎ HasNoTail rest
decide_tail [] = inl (On, None, alone refl refl refl)
decide_tail (r ∷ after) = go (eqb_tells r 61) (eqb_tells r 62) (eqb_tells r 60)
  where
    go : ((eqb r 61 ≡ true) × (r ≡ 61)) ⊎ ((eqb r 61 ≡ false) × (r ≡ 61 → ⊥)) → ((eqb r 62 ≡ true) × (r ≡ 62)) ⊎ ((eqb r 62 ≡ false) × (r ≡ 62 → ⊥)) → ((eqb r 60 ≡ true) × (r ≡ 60)) ⊎ ((eqb r 60 ≡ false) × (r ≡ 60 → ⊥))
        → HasTail (r ∷ after) ⊎ HasNoTail (r ∷ after)
    go (inl (t, is)) least most = subst (λ (x : ℕ). HasTail (x ∷ after) ⊎ HasNoTail (x ∷ after)) (sym is) (equality after)
    go (inr (t, other)) (inl (u, least)) most = bound r after other (inl (inl least))
    go (inr (t, other)) (inr (u, no_least)) (inl (v, most)) = bound r after other (inl (inr most))
    go (inr (t, other)) (inr (u, no_least)) (inr (v, no_most)) = bound r after other (inr (no_least, no_most))

-- the front of some bytes that names may have, and the rest
record Front (bytes : List ℕ) : Type 0 where
  name : List ℕ
  rest : List ℕ
  parts : bytes ≡ name ++ rest
  all : list_all is_word_byte name ≡ true
  outside : StartsOutside rest

front_of : (bytes : List ℕ) → Front bytes
front_of [] = record { name = []; rest = []; parts = refl; all = refl; outside = tt }
front_of (b ∷ bytes) = go (decide (is_word_byte b)) (front_of bytes)
  where
    go : (is_word_byte b ≡ true) ⊎ (is_word_byte b ≡ false) → Front bytes → Front (b ∷ bytes)
    go (inl e) f = record { name = b ∷ f.name; rest = f.rest; parts = ap (λ (xs : List ℕ). b ∷ xs) f.parts; all = both (is_word_byte b) (list_all is_word_byte f.name) e f.all; outside = f.outside }
    go (inr e) f = record { name = []; rest = b ∷ bytes; parts = refl; all = refl; outside = e }

one_front : (a b x y : List ℕ) → a ++ x ≡ b ++ y → list_all is_word_byte a ≡ true → list_all is_word_byte b ≡ true → StartsOutside x → StartsOutside y → (a ≡ b) × (x ≡ y)
one_front [] [] x y e p q ox oy = (refl, e)
one_front [] (c ∷ b) x y e p q ox oy = absurd (true_false (sym (first_of_both (is_word_byte c) (list_all is_word_byte b) q) ∙ subst StartsOutside e ox))
one_front (c ∷ a) [] x y e p q ox oy = absurd (true_false (sym (first_of_both (is_word_byte c) (list_all is_word_byte a) p) ∙ subst StartsOutside (sym e) oy))
one_front (c ∷ a) (d ∷ b) x y e p q ox oy =
    let tails : a ++ x ≡ b ++ y = cc in
    let first : c ≡ d = heads c d (a ++ x) (b ++ y) e in
    let later = one_front a b x y tails (second_of_both (is_word_byte c) (list_all is_word_byte a) p) (second_of_both (is_word_byte d) (list_all is_word_byte b) q) ox oy in
    (ap (λ (n : ℕ). n ∷ a) first ∙ ap (λ (xs : List ℕ). d ∷ xs) later.0, later.1)

abbrev IsReadAs : (List ℕ → Written → Type 0) → List ℕ → Type 0
IsReadAs Reads bytes = ((w : Written) × Reads bytes w) ⊎ ((w : Written) → Reads bytes w → ⊥)

decide_named : (bytes : List ℕ) → IsReadAs IsNamed bytes
decide_named bytes = go (front_of bytes)
  where
    same : (f : Front bytes) (w : Written) (h : IsNamed bytes w) → (f.name ≡ h.name) × (f.rest ≡ h.rest)
    same f w h = one_front f.name h.name f.rest h.rest (sym f.parts ∙ h.parts) f.all (name_bytes h.name h.is_a_name) f.outside (tail-outside h.rest w.first w.second h.tail)

    with_tail : (f : Front bytes) → IsTrue (is_name f.name) → HasTail f.rest ⊎ HasNoTail f.rest → IsReadAs IsNamed bytes
    with_tail f named (inl (first, second, tail)) = inl (
      record { name_start = 0; name_end = length f.name; first = first; second = second },
      record { name = f.name; rest = f.rest; parts = f.parts; is_a_name = named; tail = tail; start = refl; ends = refl },
    )
    with_tail f named (inr none) = inr (λ w h. none w.first w.second (subst (λ (r : List ℕ). IsTail r w.first w.second) (sym (same f w h).1) h.tail))

    with_name : (f : Front bytes) → (is_name f.name ≡ true) ⊎ (is_name f.name ≡ false) → IsReadAs IsNamed bytes
    with_name f (inl named) = with_tail f named (decide_tail f.rest)
    with_name f (inr fails) = inr (λ w h. true_false (sym h.is_a_name ∙ ap is_name (sym (same f w h).0) ∙ fails))

    go : Front bytes → IsReadAs IsNamed bytes
    go f = with_name f (decide (is_name f.name))

-- a mark, and a name behind it
abbrev IsMarked : ℕ → List ℕ → Type 0
IsMarked m bytes = (name : List ℕ) × (bytes ≡ m ∷ name) × IsTrue (is_name name)

decide_marked : (m : ℕ) (bytes : List ℕ) → IsMarked m bytes ⊎ (IsMarked m bytes → ⊥)
decide_marked m [] = inr (λ (name, e, h). let wrong : [] ≡ m ∷ name = e in cc)
decide_marked m (b ∷ bytes) = go (eqb_tells b m) (decide (is_name bytes))
  where
    unnamed : is_name bytes ≡ false → IsMarked m (b ∷ bytes) → ⊥
    unnamed fails (name, e, h) = let same : bytes ≡ name = cc in true_false (sym h ∙ ap is_name (sym same) ∙ fails)

    go : ((eqb b m ≡ true) × (b ≡ m)) ⊎ ((eqb b m ≡ false) × (b ≡ m → ⊥)) → (is_name bytes ≡ true) ⊎ (is_name bytes ≡ false) → IsMarked m (b ∷ bytes) ⊎ (IsMarked m (b ∷ bytes) → ⊥)
    go (inl (t, is)) (inl named) = inl (bytes, ap (λ (n : ℕ). n ∷ bytes) is, named)
    go (inl (t, is)) (inr fails) = inr (unnamed fails)
    go (inr (t, differs)) named = inr (λ (name, e, h). differs (heads b m bytes name e))

-- the text of a token, or none
pub decide_text : (bytes : List ℕ) → ((w : Written) × IsTokenText bytes w) ⊎ ((w : Written) → IsTokenText bytes w → ⊥)
decide_text bytes = go (decide_marked 33 bytes) (decide_marked 35 bytes) (decide_named bytes)
  where
    none : (IsMarked 33 bytes → ⊥) → (IsMarked 35 bytes → ⊥) → ((w : Written) → IsNamed bytes w → ⊥) → (w : Written) → IsTokenText bytes w → ⊥
    none no_off no_clash no_plain w (off name e h is) = no_off (name, e, h)
    none no_off no_clash no_plain w (clash name e h is) = no_clash (name, e, h)
    none no_off no_clash no_plain w (plain h) = no_plain w h

    go : IsMarked 33 bytes ⊎ (IsMarked 33 bytes → ⊥) → IsMarked 35 bytes ⊎ (IsMarked 35 bytes → ⊥) → IsReadAs IsNamed bytes → ((w : Written) × IsTokenText bytes w) ⊎ ((w : Written) → IsTokenText bytes w → ⊥)
    go (inl (name, e, h)) other named = inl (marked_name name Off, off name e h refl)
    go (inr no_off) (inl (name, e, h)) named = inl (marked_name name Clash, clash name e h refl)
    go (inr no_off) (inr no_clash) (inl (w, h)) = inl (w, plain h)
    go (inr no_off) (inr no_clash) (inr no_plain) = inr (none no_off no_clash no_plain)
