-- The test that the cells of new nodes are counted up.
use Rattle.std.proofs.Common.{◌≡◌, ℕ, zero, suc, ◌+◌, ◌-◌, ◌<◌, ◌≤◌, List, [], ◌∷◌, length, drop, get_or, refl, sym, ap, ◌∙◌, subst, arith, ◌⊎◌, inl, inr}
use Rattle.std.specs.Prelude.{◌↔◌, IsTrue, filter_map, nat_eq}
use Rattle.std.proofs.lemmas.Bool.{eqb-true, eq-eqb}
use Rattle.std.proofs.lemmas.List.{drop_more, drop_all}
use Rattle.agent_core.specs.declared.node.Node.{Node}
use Rattle.agent_core.specs.declared.node.Node.TheVariants as nodes
use Rattle.agent_core.specs.WellFormed.{cell_of, count_up}

-- the cells of these new nodes are the numbers from next on, below the end
abbrev pub AreCounted : List Node → ℕ → ℕ → Type 0
AreCounted all next end = filter_map cell_of all ≡ count_up next (end - next)

-- all are counted where those from place i on are
pub record Counted (all : List Node) (first end i next : ℕ) : Type 0 where
  pub within : next ≤ end
  pub same : AreCounted (drop i all) next end ↔ AreCounted all first end

-- a node that is no new node changes nothing
pub no_new : (node : Node) (rest : List Node) → ((cell body : ℕ) → node ≡ nodes.New cell body → ⊥) → filter_map cell_of (node ∷ rest) ≡ filter_map cell_of rest
no_new (nodes.New cell body) rest h = absurd (h cell body refl)
no_new _ rest h = refl

-- the next number
one_counted : (cell body : ℕ) (rest : List Node) (next end : ℕ) → cell ≡ next → next < end → AreCounted rest (suc next) end ↔ AreCounted (nodes.New cell body ∷ rest) next end
one_counted cell body rest next end e lt =
    let count : count_up next (end - next) ≡ next ∷ count_up (suc next) (end - suc next) = ap (count_up next) (let f : end - next ≡ suc (end - suc next) = omega arith in f) in
    (λ h. ap (λ (xs : List ℕ). cell ∷ xs) h ∙ ap (λ (c : ℕ). c ∷ count_up (suc next) (end - suc next)) e ∙ sym count, λ h. let g = h ∙ count in cc)

-- another number
not_counted : (cell body : ℕ) (rest : List Node) (next end : ℕ) → (next ≡ end) ⊎ (cell ≡ next → ⊥) → AreCounted (nodes.New cell body ∷ rest) next end → ⊥
not_counted cell body rest next end why h = go (end - next) refl why h
  where
    go : (k : ℕ) → end - next ≡ k → (next ≡ end) ⊎ (cell ≡ next → ⊥) → filter_map cell_of (nodes.New cell body ∷ rest) ≡ count_up next k → ⊥
    go zero e why h = cc
    go (suc k) e (inl same) h = omega arith
    go (suc k) e (inr other) h = other cc

-- nothing is left
all_counted : (next end : ℕ) → next ≤ end → IsTrue (nat_eq next end) ↔ AreCounted [] next end
all_counted next end le = (
  λ h. let e : next ≡ end = eqb-true next end h in ap (count_up next) (let f : 0 ≡ end - next = omega arith in f),
  λ h. go (end - next) refl h,
)
  where
    go : (k : ℕ) → end - next ≡ k → [] ≡ count_up next k → IsTrue (nat_eq next end)
    go zero e h = eq-eqb next end (omega arith)
    go (suc k) e h = absurd (let g : [] ≡ next ∷ count_up (suc next) k = h in cc)

module _ (all : List Node) (first end : ℕ) where
  pub Counted-begins : first ≤ end → Counted all first end 0 first
  Counted-begins le = record { within = le; same = (λ h. h, λ h. h) }

  front_is : (i : ℕ) (node d : Node) → i < length all → get_or all i d ≡ node → drop i all ≡ node ∷ drop (i + 1) all
  front_is i node d lt e = drop_more all i d lt ∙ ap (λ (x : Node). x ∷ drop (i + 1) all) e

  -- a list that is counted where what is left is
  on : (i : ℕ) (rest : List Node) (next : ℕ) → drop i all ≡ rest → Counted all first end i next → AreCounted rest next end ↔ AreCounted all first end
  on i rest next e c = subst (λ (xs : List Node). AreCounted xs next end ↔ AreCounted all first end) e c.same

  pub Counted-other : (i next : ℕ) (d : Node) → i < length all → ((cell body : ℕ) → get_or all i d ≡ nodes.New cell body → ⊥) → Counted all first end i next → Counted all first end (i + 1) next
  Counted-other i next d lt other c =
      let t = on i (get_or all i d ∷ drop (i + 1) all) next (drop_more all i d lt) c in
      let e = no_new (get_or all i d) (drop (i + 1) all) other in
      record { within = c.within; same = (λ h. t.0 (e ∙ h), λ h. sym e ∙ t.1 h) }

  pub Counted-new : (i next : ℕ) (d : Node) (cell body : ℕ) → i < length all → get_or all i d ≡ nodes.New cell body → cell ≡ next → (next ≡ end → ⊥) → Counted all first end i next → Counted all first end (i + 1) (next + 1)
  Counted-new i next d cell body lt e same more c =
      let within = c.within in
      let t = on i (nodes.New cell body ∷ drop (i + 1) all) next (front_is i (nodes.New cell body) d lt e) c in
      let one = one_counted cell body (drop (i + 1) all) next end same (omega (arith, more)) in
      let f : next + 1 ≡ suc next = omega arith in
      record {
        within = omega (arith, more);
        same = subst (λ (k : ℕ). AreCounted (drop (i + 1) all) k end ↔ AreCounted all first end) (sym f) (λ h. t.0 (one.0 h), λ h. one.1 (t.1 h));
      }

  pub Counted-not : (i next : ℕ) (d : Node) (cell body : ℕ) → i < length all → get_or all i d ≡ nodes.New cell body → (next ≡ end) ⊎ (cell ≡ next → ⊥) → Counted all first end i next → AreCounted all first end → ⊥
  Counted-not i next d cell body lt e why c h =
      let t = on i (nodes.New cell body ∷ drop (i + 1) all) next (front_is i (nodes.New cell body) d lt e) c in
      not_counted cell body (drop (i + 1) all) next end why (t.1 h)

  pub Counted-ends : (i next : ℕ) → length all ≤ i → Counted all first end i next → IsTrue (nat_eq next end) ↔ AreCounted all first end
  Counted-ends i next le c =
      let t = on i [] next (drop_all i all le) c in
      let last = all_counted next end c.within in
      (λ h. t.0 (last.0 h), λ h. last.1 (t.1 h))
