-- A list of forms is the form_listing of at most one tree.
use Rattle.std.proofs.Common.{◌≡◌, ℕ, suc, ◌+◌, List, [], ◌++◌, refl, sym, ap, ◌∙◌, append_assoc}
use Rattle.std.proofs.lemmas.List.{append-nil}
use Rattle.tdcc_reader.specs.declared.surface.Form.{Form}
use Rattle.tdcc_reader.specs.Trees.{Tree, Skip, Tell, Then, Else, Par, New, Hence, Next, Always, When, Watch, Time, form_count, form_listing}

-- what begins with the listings of two trees begins with one tree
one_front : (a b : Tree) (n : ℕ) (x y : List Form) → form_listing n a ++ x ≡ form_listing n b ++ y → (a ≡ b) × (x ≡ y)
one_front Skip Skip n x y e = (refl, cc)
one_front Skip b n x y e = absurd (cc)
one_front (Tell c) (Tell d) n x y e = let same : c ≡ d = cc in (ap Tell same, cc)
one_front (Tell c) b n x y e = absurd (cc)
one_front (Then c a) (Then d b) n x y e = let same : c ≡ d = cc in let rest = one_front a b (suc n) x y (cc) in (cc, rest.1)
one_front (Then c a) b n x y e = absurd (cc)
one_front (Else c a) (Else d b) n x y e = let same : c ≡ d = cc in let rest = one_front a b (suc n) x y (cc) in (cc, rest.1)
one_front (Else c a) b n x y e = absurd (cc)
one_front (Par l r) (Par l' r') n x y e =
    let tail : (form_listing (suc n) l ++ form_listing (suc n + form_count l) r) ++ x ≡ (form_listing (suc n) l' ++ form_listing (suc n + form_count l') r') ++ y = cc in
    let left = one_front l l' (suc n) (form_listing (suc n + form_count l) r ++ x) (form_listing (suc n + form_count l') r' ++ y)
    (sym (append_assoc (form_listing (suc n) l) (form_listing (suc n + form_count l) r) x) ∙ tail ∙ append_assoc (form_listing (suc n) l') (form_listing (suc n + form_count l') r') y) in
    let right = one_front r r' (suc n + form_count l) x y (left.1 ∙ ap (λ (t : Tree). form_listing (suc n + form_count t) r' ++ y) (sym left.0)) in
    (ap (λ (t : Tree). Par t r) left.0 ∙ ap (Par l') right.0, right.1)
one_front (Par l r) b n x y e = absurd (cc)
one_front (New c a) (New d b) n x y e = let same : c ≡ d = cc in let rest = one_front a b (suc n) x y (cc) in (cc, rest.1)
one_front (New c a) b n x y e = absurd (cc)
one_front (Hence a) (Hence b) n x y e = let rest = one_front a b (suc n) x y (cc) in (ap Hence rest.0, rest.1)
one_front (Hence a) b n x y e = absurd (cc)
one_front (Next a) (Next b) n x y e = let rest = one_front a b (suc n) x y (cc) in (ap Next rest.0, rest.1)
one_front (Next a) b n x y e = absurd (cc)
one_front (Always a) (Always b) n x y e = let rest = one_front a b (suc n) x y (cc) in (ap Always rest.0, rest.1)
one_front (Always a) b n x y e = absurd (cc)
one_front (When c a) (When d b) n x y e = let same : c ≡ d = cc in let rest = one_front a b (suc n) x y (cc) in (cc, rest.1)
one_front (When c a) b n x y e = absurd (cc)
one_front (Watch a c) (Watch b d) n x y e = let same : c ≡ d = cc in let rest = one_front a b (suc n) x y (cc) in (cc, rest.1)
one_front (Watch a c) b n x y e = absurd (cc)
one_front (Time a c) (Time b d) n x y e = let same : c ≡ d = cc in let rest = one_front a b (suc n) x y (cc) in (cc, rest.1)
one_front (Time a c) b n x y e = absurd (cc)

-- A form_listing is that of one tree.
pub one_tree : (a b : Tree) → form_listing 0 a ≡ form_listing 0 b → a ≡ b
one_tree a b e = (one_front a b 0 [] [] (append-nil (form_listing 0 a) ∙ e ∙ sym (append-nil (form_listing 0 b)))).0
