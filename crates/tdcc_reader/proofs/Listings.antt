-- The forms of a tree's flat forms are the tree's form_listing.
use Rattle.std.proofs.Common.{◌≡◌, ℕ, suc, ◌+◌, ◌≤◌, List, [], ◌∷◌, ◌++◌, length, refl, ap, ◌∙◌, arith, length-append}
use Rattle.tdcc_reader.specs.declared.surface.Form.{Form}
use Rattle.tdcc_reader.specs.declared.surface.Form.TheVariants as form
use Rattle.tdcc_reader.specs.Trees.{Tree, Skip, Tell, Then, Else, Par, New, Hence, Next, Always, When, Watch, Time, form_count, form_listing}
use Rattle.tdcc_reader.specs.FlatForms.{Entry, flat_forms, link, form_at, forms_at}

length-flat_forms : (t : Tree) → length (flat_forms t) ≡ form_count t
length-flat_forms Skip = refl
length-flat_forms (Tell c) = refl
length-flat_forms (Then c a) = ap suc (length-flat_forms a)
length-flat_forms (Else c a) = ap suc (length-flat_forms a)
length-flat_forms (Par l r) = ap suc (length-append (flat_forms l) (flat_forms r) ∙ ap (λ n. n + length (flat_forms r)) (length-flat_forms l) ∙ ap (λ n. form_count l + n) (length-flat_forms r))
length-flat_forms (New cell a) = ap suc (length-flat_forms a)
length-flat_forms (Hence a) = ap suc (length-flat_forms a)
length-flat_forms (Next a) = ap suc (length-flat_forms a)
length-flat_forms (Always a) = ap suc (length-flat_forms a)
length-flat_forms (When c a) = ap suc (length-flat_forms a)
length-flat_forms (Watch a c) = ap suc (length-flat_forms a)
length-flat_forms (Time a c) = ap suc (length-flat_forms a)

forms_at-append : (at : ℕ) (xs ys : List Entry) → forms_at at (xs ++ ys) ≡ forms_at at xs ++ forms_at (at + length xs) ys
forms_at-append at [] ys = let e : at ≡ at + length {A = Entry} [] = omega arith in ap (λ n. forms_at n ys) e
forms_at-append at (x ∷ xs) ys =
    let e : at + 1 + length xs ≡ at + length (x ∷ xs) = omega arith in
    ap (λ l. form_at at x.kind x.ask ∷ l) (forms_at-append (at + 1) xs ys ∙ ap (λ n. forms_at (at + 1) xs ++ forms_at n ys) e)

next_one : (at : ℕ) → at + 1 ≡ suc at
next_one at = omega arith

link_next : (at n : ℕ) → at + suc n ≤ 4294967295 → link at 1 ≡ suc at
link_next at n h = omega arith

-- a form in front of its body
below : (make : ℕ → Form) (a : Tree) (at : ℕ) → at + suc (form_count a) ≤ 4294967295 → forms_at (suc at) (flat_forms a) ≡ form_listing (suc at) a → make (link at 1) ∷ forms_at (at + 1) (flat_forms a) ≡ make (suc at) ∷ form_listing (suc at) a
below make a at h ih =
    ap (λ k. make k ∷ forms_at (at + 1) (flat_forms a)) (link_next at (form_count a) h)
    ∙ ap (λ k. make (suc at) ∷ forms_at k (flat_forms a)) (next_one at)
    ∙ ap (λ l. make (suc at) ∷ l) ih

body_fits : (at n : ℕ) → at + suc n ≤ 4294967295 → suc at + n ≤ 4294967295
body_fits at n h = omega arith

-- The forms of flat forms are numbered as the tree's.
pub listed : (t : Tree) (at : ℕ) → at + form_count t ≤ 4294967295 → forms_at at (flat_forms t) ≡ form_listing at t
listed Skip at h = refl
listed (Tell c) at h = refl
listed (Then c a) at h = below (form.Then c) a at h (listed a (suc at) (body_fits at (form_count a) h))
listed (Else c a) at h = below (form.Else c) a at h (listed a (suc at) (body_fits at (form_count a) h))
listed (Par l r) at h =
    let left : suc at + form_count l ≤ 4294967295 = omega arith in
    let right : suc at + form_count l + form_count r ≤ 4294967295 = omega arith in
    let long : length (flat_forms l) ≡ form_count l = length-flat_forms l in
    let behind : link at (1 + length (flat_forms l)) ≡ suc at + form_count l = omega arith in
    ap (λ k. form.Par k (link at (1 + length (flat_forms l))) ∷ forms_at (at + 1) (flat_forms l ++ flat_forms r)) (link_next at (form_count l + form_count r) h)
    ∙ ap (λ k. form.Par (suc at) k ∷ forms_at (at + 1) (flat_forms l ++ flat_forms r)) behind
    ∙ ap (λ q. form.Par (suc at) (suc at + form_count l) ∷ q)
    (ap (λ k. forms_at k (flat_forms l ++ flat_forms r)) (next_one at)
    ∙ forms_at-append (suc at) (flat_forms l) (flat_forms r)
    ∙ ap (λ k. forms_at (suc at) (flat_forms l) ++ forms_at (suc at + k) (flat_forms r)) long
    ∙ ap (λ q. q ++ forms_at (suc at + form_count l) (flat_forms r)) (listed l (suc at) left)
    ∙ ap (λ q. form_listing (suc at) l ++ q) (listed r (suc at + form_count l) right))
listed (New cell a) at h = below (form.New cell) a at h (listed a (suc at) (body_fits at (form_count a) h))
listed (Hence a) at h = below form.Hence a at h (listed a (suc at) (body_fits at (form_count a) h))
listed (Next a) at h = below form.Next a at h (listed a (suc at) (body_fits at (form_count a) h))
listed (Always a) at h = below form.Always a at h (listed a (suc at) (body_fits at (form_count a) h))
listed (When c a) at h = below (form.When c) a at h (listed a (suc at) (body_fits at (form_count a) h))
listed (Watch a c) at h = below (λ k. form.Watch k c) a at h (listed a (suc at) (body_fits at (form_count a) h))
listed (Time a c) at h = below (λ k. form.Time k c) a at h (listed a (suc at) (body_fits at (form_count a) h))
