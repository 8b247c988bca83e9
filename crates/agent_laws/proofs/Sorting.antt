-- The order of closures, and the list of the distinct closures of a list in that order.
use Rattle.std.proofs.Common.{◌≡◌, ℕ, Bool, true, false, ◌||◌, cond, List, [], ◌∷◌, length, map, refl, sym, ap, ◌∙◌, arith}
use Rattle.std.specs.Prelude.{Option, Some, None}
use Rattle.std.specs.List.{list_any}
use Rattle.std.specs.FinMap as finmap
use Rattle.std.specs.FinMap.{IsAntisymmetric, slice_cmp-IsAntisymmetric, nat_cmp-IsAntisymmetric}
use Rattle.std.specs.Cmp.{IsTotalOrder}
use Rattle.std.proofs.lemmas.Cmp.{on_total, nat_list_cmp_total}
use Rattle.std.proofs.Math.Bool.{or_self_left}
use Rattle.std.specs.Ordering.{eq_by_cmp}
use Rattle.std.specs.declared.cmp.Ordering.{Ordering}
use Rattle.std.specs.declared.cmp.Ordering.TheVariants.{Less, Equal, Greater}
use Rattle.agent_core.specs.declared.node.Closure.{Closure}
use Rattle.agent_core.specs.Closures.{closure_key, closure_cmp, put_by, put, sorted}
use Rattle.agent_core.specs.Strata.{Each}
use Rattle.agent_laws.proofs.Booleans.{or_swap}

pub closure_total : IsTotalOrder closure_cmp
closure_total = on_total closure_key nat_list_cmp_total

pub closure_anti : IsAntisymmetric closure_cmp
closure_anti x y e =
    let keys : closure_key x ≡ closure_key y = slice_cmp-IsAntisymmetric nat_cmp-IsAntisymmetric (closure_key x) (closure_key y) e in
    let node : x.node ≡ y.node = ap head keys in
    let births : x.births ≡ y.births = ap rest keys in
    λ i. record { node = node i; births = births i }
  where
    head : List ℕ → ℕ
    head [] = 0
    head (n ∷ ns) = n

    rest : List ℕ → List ℕ
    rest [] = []
    rest (n ∷ ns) = ns

-- what holds of each closure of a list holds of each of the sorted list
pub each_put : (P : Closure → Type 0) (r : Closure) (rs : List Closure) → P r → Each P rs → Each P (put r rs)
each_put P r [] h g = (h, tt)
each_put P r (first ∷ rest) h g = go (closure_cmp r first) (each_put P r rest h g.1)
  where
    go : (o : Ordering) → Each P (put r rest) → Each P (put_by o r first rest (put r rest))
    go Less m = (h, g)
    go Equal m = g
    go Greater m = (g.0, m)

pub each_sorted : (P : Closure → Type 0) (rs : List Closure) → Each P rs → Each P (sorted rs)
each_sorted P [] h = tt
each_sorted P (r ∷ rs) h = each_put P r (sorted rs) h.0 (each_sorted P rs h.1)

-- SORTED LISTS AS MAPS

abbrev closure_map : List Closure → finmap.FinMap closure_cmp (Unit {0})
closure_map [] = finmap.empty
closure_map (r ∷ rs) = finmap.insert (closure_map rs) r tt

abbrev marked : Bool → Option (Unit {0})
marked b = cond b (Some tt) None

get-closure_map : (rs : List Closure) (q : Closure) → finmap.get (closure_map rs) q ≡ marked (list_any (eq_by_cmp closure_cmp q) rs)
get-closure_map [] q = finmap.get-empty closure_cmp q
get-closure_map (r ∷ rs) q = finmap.get-insert closure_total (closure_map rs) r tt q ∙ go (eq_by_cmp closure_cmp q r) (list_any (eq_by_cmp closure_cmp q) rs) (get-closure_map rs q)
  where
    go : (a b : Bool) → finmap.get (closure_map rs) q ≡ marked b → cond a (Some tt) (finmap.get (closure_map rs) q) ≡ marked (a || b)
    go true b h = refl
    go false b h = h

abbrev key_of : Closure × Unit {0} → Closure
key_of e = e.0

no_entries : (es : List (Closure × Unit {0})) → length es ≡ 0 → map key_of es ≡ []
no_entries [] h = refl
no_entries (e ∷ es) h = absurd (omega arith)

abbrev by_three : Ordering → List (Closure × Unit {0}) → List (Closure × Unit {0}) → List (Closure × Unit {0}) → List (Closure × Unit {0})
by_three Less a b c = a
by_three Equal a b c = b
by_three Greater a b c = c

keys_put : (r : Closure) (e : Closure × Unit {0}) (es after : List (Closure × Unit {0})) (put : List Closure) → map key_of after ≡ put → (o : Ordering) → map key_of (by_three o ((r, tt) ∷ e ∷ es) ((e.0, tt) ∷ es) (e ∷ after)) ≡ put_by o r e.0 (map key_of es) put
keys_put r e es after put h Less = refl
keys_put r e es after put h Equal = refl
keys_put r e es after put h Greater = ap (λ x. e.0 ∷ x) h

put-keys : (r : Closure) (es : List (Closure × Unit {0})) → map key_of (finmap.put closure_cmp r tt es) ≡ put r (map key_of es)
put-keys r [] = refl
put-keys r (e ∷ es) = keys_put r e es (finmap.put closure_cmp r tt es) (put r (map key_of es)) (put-keys r es) (closure_cmp r e.0)

entries-sorted : (rs : List Closure) → map key_of (finmap.entries (closure_map rs)) ≡ sorted rs
entries-sorted [] = no_entries (finmap.entries (closure_map [])) (sym (finmap.len-entries (closure_map [])) ∙ finmap.len-empty closure_cmp (Unit {0}))
entries-sorted (r ∷ rs) = ap (map key_of) (finmap.entries-insert closure_total (closure_map rs) r tt) ∙ put-keys r (finmap.entries (closure_map rs)) ∙ ap (put r) (entries-sorted rs)

-- lists of which the same passes each test sort to one list
pub same_sorted : (xs ys : List Closure) → ((P : Closure → Bool) → list_any P xs ≡ list_any P ys) → sorted xs ≡ sorted ys
same_sorted xs ys h =
    let same : closure_map xs ≡ closure_map ys = finmap.same_map closure_total closure_anti (closure_map xs) (closure_map ys) (λ q. get-closure_map xs q ∙ ap marked (h (eq_by_cmp closure_cmp q)) ∙ sym (get-closure_map ys q)) in
    sym (entries-sorted xs) ∙ ap (λ (m : finmap.FinMap closure_cmp (Unit {0})). map key_of (finmap.entries m)) same ∙ entries-sorted ys

put-any : (F : Closure → Bool) (r : Closure) (rs : List Closure) → list_any F (put r rs) ≡ (F r || list_any F rs)
put-any F r [] = refl
put-any F r (first ∷ rest) = go (closure_cmp r first) refl (put-any F r rest)
  where
    go : (o : Ordering) → closure_cmp r first ≡ o → list_any F (put r rest) ≡ (F r || list_any F rest) → list_any F (put_by o r first rest (put r rest)) ≡ (F r || (F first || list_any F rest))
    go Less e ih = refl
    go Equal e ih = sym (or_self_left (F first) (list_any F rest)) ∙ ap (λ x. F x || (F first || list_any F rest)) (sym (closure_anti r first e))
    go Greater e ih = ap (λ x. F first || x) ih ∙ or_swap (F first) (F r) (list_any F rest)

pub sorted-any : (F : Closure → Bool) (rs : List Closure) → list_any F (sorted rs) ≡ list_any F rs
sorted-any F [] = refl
sorted-any F (r ∷ rs) = put-any F r (sorted rs) ∙ ap (λ x. F r || x) (sorted-any F rs)
