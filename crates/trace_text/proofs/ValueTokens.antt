-- The tokens that stand in a store line for a value: the value entails them, and it is the least that does.
use Rattle.std.proofs.Common.{◌≡◌, Bool, true, false, cond, ◌&&◌, not, ℤ, List, [], ◌∷◌, ◌++◌, refl, sym, subst, arith}
use Rattle.std.specs.Prelude.{◌≤ℤ◌, IsTrue, int_le, int_lt}
use Rattle.std.specs.Ordering.{int_eq}
use Rattle.std.proofs.lemmas.Bool.Decides.{Decides-int_eq}
use Rattle.std.proofs.lemmas.Int.{ints}
use Rattle.token_system.specs.declared.cell.Kind.{Kind}
use Rattle.token_system.specs.declared.cell.Kind.TheVariants as kinds
use Rattle.token_system.specs.declared.cell.Token.{Token}
use Rattle.token_system.specs.declared.cell.Token.TheVariants.{On, Off, AtLeast, AtMost, Clash}
use Rattle.token_system.specs.declared.cell.Value.{Value}
use Rattle.token_system.specs.declared.cell.Value.TheVariants as values
use Rattle.token_system.specs.Domain.{is_cell}
use Rattle.token_system.specs.Tokens.{fits_kind}
use Rattle.token_system.specs.Values.{bottom_for, value_entails, value_eq, IsProper, WithinDomain}
use Rattle.token_system.proofs.Alike.{Covers, true_false, within_bound, le_itself}
use Rattle.token_system.proofs.Adding.{signal_covers, number_covers, clash_covers, bottom_covered, value_eq-true}
use Rattle.agent_core.specs.Strata.{Each}

pub Each-append : {X : Type 0} (P : X → Type 0) (xs ys : List X) → Each P xs → Each P ys → Each P (xs ++ ys)
Each-append P [] ys a b = b
Each-append P (x ∷ xs) ys a b = (a.0, Each-append P xs ys a.1 b)

pub Each-front : {X : Type 0} (P : X → Type 0) (xs ys : List X) → Each P (xs ++ ys) → Each P xs
Each-front P [] ys a = tt
Each-front P (x ∷ xs) ys a = (a.0, Each-front P xs ys a.1)

pub Each-back : {X : Type 0} (P : X → Type 0) (xs ys : List X) → Each P (xs ++ ys) → Each P ys
Each-back P [] ys a = a
Each-back P (x ∷ xs) ys a = Each-back P xs ys a.1

abbrev pub token_if : Bool → Token → List Token
token_if true t = t ∷ []
token_if false t = []

-- the tokens of a value of which something is told
abbrev pub told_tokens : ℤ → ℤ → Value → List Token
told_tokens least most (values.Signal true off) = On ∷ []
told_tokens least most (values.Signal false off) = Off ∷ []
told_tokens least most (values.Number lo hi) = cond (int_eq lo hi) (AtLeast lo ∷ AtMost lo ∷ []) (token_if (int_lt least lo) (AtLeast lo) ++ token_if (int_lt hi most) (AtMost hi))
told_tokens least most values.Clash = Clash ∷ []

-- the tokens of a value, none for the bottom
abbrev pub value_tokens : Kind → ℤ → ℤ → Value → List Token
value_tokens k least most v = cond (value_eq v (bottom_for k least most)) [] (told_tokens least most v)

-- the token is of the kind, and the value entails it
abbrev pub IsHeld : Kind → Value → Token → Type 0
IsHeld k v t = IsTrue (fits_kind k t) × IsTrue (value_entails v t)

abbrev pub Entails : Value → Token → Type 0
Entails v t = IsTrue (value_entails v t)

held_if : (k : Kind) (v : Value) (t : Token) (b : Bool) → IsHeld k v t → Each (IsHeld k v) (token_if b t)
held_if k v t true h = (h, tt)
held_if k v t false h = tt

equal_upper : (a b : ℤ) → a ≡ b → IsTrue (int_le b a)
equal_upper a b e = subst (λ (n : ℤ). IsTrue (int_le n a)) e (le_itself a)

number_held : (least most a b : ℤ) → IsTrue (is_cell kinds.Number least most) → least ≤ℤ a → a ≤ℤ b → b ≤ℤ most → Each (IsHeld kinds.Number (values.Number a b)) (told_tokens least most (values.Number a b))
number_held least most a b cell la ab bm =
    let u = within_bound least a most b cell la ab bm in go u.0 u.1 (int_eq a b) refl
  where
    go : IsTrue (fits_kind kinds.Number (AtLeast a)) → IsTrue (fits_kind kinds.Number (AtMost b)) → (t : Bool) → int_eq a b ≡ t
        → Each (IsHeld kinds.Number (values.Number a b)) (cond t (AtLeast a ∷ AtMost a ∷ []) (token_if (int_lt least a) (AtLeast a) ++ token_if (int_lt b most) (AtMost b)))
    go f g true e = ((f, le_itself a), ((f, equal_upper a b ((Decides-int_eq a b).0 e)), tt))
    go f g false e = Each-append (IsHeld kinds.Number (values.Number a b)) (token_if (int_lt least a) (AtLeast a)) (token_if (int_lt b most) (AtMost b))
        (held_if kinds.Number (values.Number a b) (AtLeast a) (int_lt least a) (f, le_itself a)) (held_if kinds.Number (values.Number a b) (AtMost b) (int_lt b most) (g, le_itself b))

pub told_held : (k : Kind) (least most : ℤ) (v : Value) → IsTrue (is_cell k least most) → WithinDomain least most k v → IsProper v → value_eq v (bottom_for k least most) ≡ false → Each (IsHeld k v) (told_tokens least most v)
told_held k least most values.Clash cell d p e = ((refl, refl), tt)
told_held kinds.Signal least most (values.Signal true b) cell d p e = ((refl, refl), tt)
told_held kinds.Signal least most (values.Signal false true) cell d p e = ((refl, refl), tt)
told_held kinds.Signal least most (values.Signal false false) cell d p e = absurd (true_false e)
told_held kinds.Number least most (values.Number a b) cell d p e = number_held least most a b cell d.0 p d.1
told_held kinds.Signal least most (values.Number a b) cell d p e = absurd d
told_held kinds.Number least most (values.Signal a b) cell d p e = absurd d

-- a value entails its tokens
pub value_held : (k : Kind) (least most : ℤ) (v : Value) → IsTrue (is_cell k least most) → WithinDomain least most k v → IsProper v → Each (Entails v) (value_tokens k least most v)
value_held k least most v cell d p = go (value_eq v (bottom_for k least most)) refl
  where
    entailed : (ts : List Token) → Each (IsHeld k v) ts → Each (Entails v) ts
    entailed [] h = tt
    entailed (t ∷ ts) h = (h.0.1, entailed ts h.1)

    go : (t : Bool) → value_eq v (bottom_for k least most) ≡ t → Each (Entails v) (cond t [] (told_tokens least most v))
    go true e = tt
    go false e = entailed (told_tokens least most v) (told_held k least most v cell d p e)

signal_told : (a b : Bool) (y : Value) (least most : ℤ) → IsTrue (not (a && b)) → WithinDomain least most kinds.Signal y → value_eq (values.Signal a b) (values.Signal false false) ≡ false → Each (Entails y) (told_tokens least most (values.Signal a b)) → Covers kinds.Signal (values.Signal a b) y
signal_told a b values.Clash least most p d e h = clash_covers kinds.Signal (values.Signal a b)
signal_told a b (values.Number c f) least most p d e h = absurd d
signal_told true true (values.Signal c f) least most p d e h = absurd (true_false (sym p))
signal_told true false (values.Signal c f) least most p d e h = signal_covers true false c f (λ _. h.0) (λ z. absurd (true_false (sym z)))
signal_told false true (values.Signal c f) least most p d e h = signal_covers false true c f (λ z. absurd (true_false (sym z))) (λ _. h.0)
signal_told false false (values.Signal c f) least most p d e h = absurd (true_false e)

lower_told : (least a c most d : ℤ) (t : Bool) → int_lt least a ≡ t → least ≤ℤ c → Each (Entails (values.Number c d)) (token_if t (AtLeast a)) → a ≤ℤ c
lower_told least a c most d true e l h = let k : int_le a c ≡ true = h.0 in grind (arith, ints)
lower_told least a c most d false e l h = grind (arith, ints)

upper_told : (most b c d : ℤ) (t : Bool) → int_lt b most ≡ t → d ≤ℤ most → Each (Entails (values.Number c d)) (token_if t (AtMost b)) → d ≤ℤ b
upper_told most b c d true e l h = let k : int_le d b ≡ true = h.0 in grind (arith, ints)
upper_told most b c d false e l h = grind (arith, ints)

exact_lower : (a c : ℤ) → int_le a c ≡ true → a ≤ℤ c
exact_lower a c k = grind (arith, ints)

exact_upper : (a b d : ℤ) → a ≡ b → int_le d a ≡ true → d ≤ℤ b
exact_upper a b d e k = grind (arith, ints)

number_told : (least most a b : ℤ) (y : Value) → WithinDomain least most kinds.Number y → Each (Entails y) (told_tokens least most (values.Number a b)) → Covers kinds.Number (values.Number a b) y
number_told least most a b values.Clash d h = clash_covers kinds.Number (values.Number a b)
number_told least most a b (values.Signal c f) d h = absurd d
number_told least most a b (values.Number c f) d h = go (int_eq a b) refl h
  where
    go : (t : Bool) → int_eq a b ≡ t → Each (Entails (values.Number c f)) (cond t (AtLeast a ∷ AtMost a ∷ []) (token_if (int_lt least a) (AtLeast a) ++ token_if (int_lt b most) (AtMost b))) → Covers kinds.Number (values.Number a b) (values.Number c f)
    go true e h = number_covers a b c f (exact_lower a c h.0) (exact_upper a b f ((Decides-int_eq a b).0 e) h.1.0)
    go false e h = number_covers a b c f
        (lower_told least a c most f (int_lt least a) refl d.0 (Each-front (Entails (values.Number c f)) (token_if (int_lt least a) (AtLeast a)) (token_if (int_lt b most) (AtMost b)) h))
        (upper_told most b c f (int_lt b most) refl d.1 (Each-back (Entails (values.Number c f)) (token_if (int_lt least a) (AtLeast a)) (token_if (int_lt b most) (AtMost b)) h))

clash_told : (k : Kind) (y : Value) → Each (Entails y) (Clash ∷ []) → Covers k values.Clash y
clash_told k values.Clash h = clash_covers k values.Clash
clash_told k (values.Signal a b) h = absurd (true_false (sym h.0))
clash_told k (values.Number a b) h = absurd (true_false (sym h.0))

told_covered : (k : Kind) (least most : ℤ) (v y : Value) → WithinDomain least most k v → IsProper v → WithinDomain least most k y → value_eq v (bottom_for k least most) ≡ false → Each (Entails y) (told_tokens least most v) → Covers k v y
told_covered k least most values.Clash y d p dy e h = clash_told k y h
told_covered kinds.Signal least most (values.Signal a b) y d p dy e h = signal_told a b y least most p dy e h
told_covered kinds.Number least most (values.Number a b) y d p dy e h = number_told least most a b y dy h
told_covered kinds.Signal least most (values.Number a b) y d p dy e h = absurd d
told_covered kinds.Number least most (values.Signal a b) y d p dy e h = absurd d

-- what entails the tokens of a value entails all that the value does
pub value_covered : (k : Kind) (least most : ℤ) (v y : Value) → WithinDomain least most k v → IsProper v → WithinDomain least most k y → Each (Entails y) (value_tokens k least most v) → Covers k v y
value_covered k least most v y d p dy h = go (value_eq v (bottom_for k least most)) refl h
  where
    go : (t : Bool) → value_eq v (bottom_for k least most) ≡ t → Each (Entails y) (cond t [] (told_tokens least most v)) → Covers k v y
    go true e h = subst (λ (x : Value). Covers k x y) (sym (value_eq-true v (bottom_for k least most) e)) (bottom_covered k least most y dy)
    go false e h = told_covered k least most v y d p dy e h
