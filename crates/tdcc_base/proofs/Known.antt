-- Known bytes that grow and shrink in steps.
use Rattle.std.proofs.Common.{◌≡◌, ◌≢◌, ℕ, ◌+◌, ◌-◌, ◌<◌, ◌≤◌, List, [], ◌∷◌, ◌++◌, Some, None, length, take, drop, refl, sym, ap, ◌∙◌, append_assoc, arith, drop-cons, Vec, get_or, false}
use Rattle.std.specs.Prelude.{◌==◌, zero, suc, vec_len}
use Rattle.std.proofs.lemmas.Grind.{common_steps}
use Rattle.std.proofs.lemmas.List.{append-nil}
use Rattle.std.specs.Prelude.{Option}
use Rattle.std.specs.declared.alloc.Global.{Global}
use Rattle.tdcc_base.specs.declared.read_ahead.ReadAhead.{ReadAhead}
use Rattle.tdcc_base.specs.Unread.{pending, unread}
use Rattle.std.specs.Io.KnownBytes.{Appends, Keeps, Consumes, prepend_known}

-- one growth after another
pub Appends-then : (a b c : Option (List ℕ)) (xs ys : List ℕ) → Appends a b xs → Appends b c ys → Appends a c (xs ++ ys)
Appends-then None b c xs ys p q = tt
Appends-then (Some old) None c xs ys p q = absurd p
Appends-then (Some old) (Some mid) None xs ys p q = absurd q
Appends-then (Some old) (Some mid) (Some new) xs ys p q = q ∙ ap (λ zs. zs ++ ys) p ∙ append_assoc old xs ys

pub Appends-nothing : (a : Option (List ℕ)) → Appends a a []
Appends-nothing None = tt
Appends-nothing (Some old) = sym (append-nil old)

pub Appends-kept : (a b c : Option (List ℕ)) (xs : List ℕ) → Appends a b xs → Keeps b c → Appends a c xs
Appends-kept None b c xs p q = tt
Appends-kept (Some old) None c xs p q = absurd p
Appends-kept (Some old) (Some mid) None xs p q = absurd q
Appends-kept (Some old) (Some mid) (Some new) xs p q = q ∙ p

-- the whole of what lies behind n
pub take-tail : (n : ℕ) (l : List ℕ) → take (length l - n) (drop n l) ≡ drop n l
take-tail n l = grind (arith, common_steps)

-- the first of the bytes from i to n
pub take-first : (i n : ℕ) (l : List ℕ) (d : ℕ) → i < n → n ≤ length l → take (n - i) (drop i l) ≡ get_or l i d ∷ take (n - (i + 1)) (drop (i + 1) l)
take-first i n l d lt le =
    let within : i < length l = omega arith in
    let step : n - i ≡ suc (n - (i + 1)) = omega arith in
    let next : suc i ≡ i + 1 = omega arith in
    ap (λ (k : ℕ). take k (drop i l)) step ∙ ap (take (suc (n - (i + 1)))) (drop-cons l i d within) ∙ ap (λ (k : ℕ). get_or l i d ∷ take (n - (i + 1)) (drop k l)) next

-- a byte of what is known is handed out
pub Consumes-first : (old left : Option (List ℕ)) (x : ℕ) (xs : List ℕ) → Keeps old (prepend_known (x ∷ xs) left) → Consumes old (prepend_known xs left) (x ∷ [])
Consumes-first None left x xs k = tt
Consumes-first (Some os) None x xs k = absurd k
Consumes-first (Some os) (Some ls) x xs k = sym k

-- one taking after another
pub Consumes-then : (a b c : Option (List ℕ)) (xs ys : List ℕ) → Consumes a b xs → Consumes b c ys → Consumes a c (xs ++ ys)
Consumes-then None b c xs ys p q = tt
Consumes-then (Some old) None c xs ys p q = absurd p
Consumes-then (Some old) (Some mid) None xs ys p q = absurd q
Consumes-then (Some old) (Some mid) (Some new) xs ys p q = p ∙ ap (λ zs. xs ++ zs) q ∙ sym (append_assoc xs ys new)

pub Consumes-kept : (a b c : Option (List ℕ)) (xs : List ℕ) → Consumes a b xs → Keeps b c → Consumes a c xs
Consumes-kept None b c xs p q = tt
Consumes-kept (Some old) None c xs p q = absurd p
Consumes-kept (Some old) (Some mid) None xs p q = absurd q
Consumes-kept (Some old) (Some mid) (Some new) xs p q = p ∙ ap (λ zs. xs ++ zs) (sym q)

pub Consumes-nothing : (a : Option (List ℕ)) → Consumes a a []
Consumes-nothing None = tt
Consumes-nothing (Some old) = refl

-- a vector that is not empty has bytes
pub some_items : (v : Vec ℕ Global) → false ≡ (vec_len v == 0) → v.items ≢ []
some_items v e none = absurd (none_left (vec_len v) (v.ok.0 ∙ ap length none) e)
  where
    none_left : (n : ℕ) → n ≡ 0 → false ≡ (n == 0) → ⊥
    none_left zero z f = absurd (cc)
    none_left (suc n) z f = omega (arith, z)

-- where nothing is held back, what is not handed out is what the source has left
pub unread-none : {S : Type 0} (left : S → Option (List ℕ)) (ahead : ReadAhead) (source : S) → pending ahead ≡ [] → unread left ahead source ≡ left source
unread-none left ahead source none = ap (λ xs. prepend_known xs (left source)) none ∙ prepend_nothing (left source)
  where
    prepend_nothing : (known : Option (List ℕ)) → prepend_known [] known ≡ known
    prepend_nothing None = refl
    prepend_nothing (Some bytes) = refl
