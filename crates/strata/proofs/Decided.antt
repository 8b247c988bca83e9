-- A program has a table that stratifies it, and then a least one, or a first case in which what is told below an else reaches what that else asks for.
use Rattle.std.proofs.Common.{◌≡◌, ◌⊎◌, inl, inr, ℕ, zero, suc, ◌+◌, ◌*◌, ◌-◌, ◌<◌, ◌≤◌, Bool, true, false, List, ◌∷◌, length, take, set, replicate, leb, Some, None, refl, sym, ap, ◌∙◌, subst, arith}
use Rattle.std.specs.Prelude.{Option, All, Contains, slice_index, sum}
use Rattle.std.proofs.lemmas.List.{length-set}
use Rattle.std.proofs.lemmas.Bool.Decides.{leb_tells}
use Rattle.agent_core.specs.Programs.{CoreProgram}
use Rattle.agent_core.specs.WellFormed.{IsWellFormed}
use Rattle.agent_core.specs.Strata.{Edge, edges, cases, In, Each, Stratifies, IsLeastTable, HasNoTable, IsFirstCase}
use Rattle.agent_core.specs.Strata as strata
use Rattle.order_tables.specs.declared.bound.Bound.{Bound}
use Rattle.order_tables.specs.Bounds.{needs, Satisfies, Within, HasTable, IsLeast}
use Rattle.order_tables.proofs.Lists.{all_by, all_at}
use Rattle.order_tables.proofs.Spread.{reaches, reaches-to, path-reaches, true_false}
use Rattle.order_tables.proofs.Steps.{set-least, set-sum, smaller}
use Rattle.order_tables.proofs.Tables.{IsBad, least-below}
use Rattle.strata.specs.Items.{program_bounds}
use Rattle.strata.specs.Search.{first_that}
use Rattle.strata.proofs.Members.{in_left, in_right, in_each, each_in, each_all, map_in, contains_in, in_contains}
use Rattle.strata.proofs.EdgeBounds.{edge_bound, edge_bounds, to_path, from_path, back-none, good-table}
use Rattle.strata.proofs.Extended.{full, full-meets, bounds-within}
use Rattle.strata.proofs.CaseEdges.{case-edge, edge-case}
use Rattle.strata.proofs.Searches.{IsFirst, first-is, none-is}
use Rattle.strata.proofs.Results.{table-is}

-- A TABLE OR A FIRST CASE

module _ (p : CoreProgram) (is : IsWellFormed p) where
  abbrev test : Edge → Bool
  test e = reaches (edge_bounds p) e.told e.guard.cell

  back : (e : Edge) → test e ≡ true → strata.Reaches (edges p) e.told e.guard.cell
  back e h = let r = reaches-to (edge_bounds p) e.told e.guard.cell h in (r.0, from_path (edges p) r.0 e.told e.guard.cell r.1)

  not_back : (e : Edge) → test e ≡ false → strata.Reaches (edges p) e.told e.guard.cell → ⊥
  not_back e h r = true_false (sym (path-reaches (edge_bounds p) r.0 e.told e.guard.cell (to_path (edges p) r.0 e.told e.guard.cell r.1)) ∙ h)

  found : (e : Edge) → IsFirst test (cases p) e → IsFirstCase p e × HasNoTable p
  found e f =
      let i : In e (cases p) = subst (In e) (sym f.stands) (in_right e f.before (e ∷ f.later) (inl refl)) in
      let edge = case-edge p is e i in
      let bad = back e f.passes in (
        record {
          before = f.before;
          later = f.later;
          stands = f.stands;
          bad = bad;
          none = each_in (λ (x : Edge). strata.Reaches (edges p) x.told x.guard.cell → ⊥) f.before (λ x j. not_back x (in_each (λ (y : Edge). test y ≡ false) f.before x f.none j));
        },
        back-none p e edge.0 edge.1 bad,
      )

  none : Each (λ e. test e ≡ false) (cases p) → (t : List ℕ) × Stratifies p t
  none all_pass = good-table p is (all_by (λ a. IsBad (edge_bounds p) a → ⊥) (edge_bounds p) (λ a i bad.
      let x = map_in edge_bound a (edges p) (contains_in a (edge_bounds p) i) in
      let own = subst (IsBad (edge_bounds p)) x.2 bad in
      let case = edge-case p is x.0 x.1 own.0 in
      not_back x.0 (in_each (λ (y : Edge). test y ≡ false) (cases p) x.0 all_pass case) (own.1.0, from_path (edges p) own.1.0 x.0.told x.0.guard.cell own.1.1)))

  pub table_or_case : ((t : List ℕ) × Stratifies p t) ⊎ ((e : Edge) × IsFirstCase p e × HasNoTable p)
  table_or_case = go (first_that test (cases p)) refl
    where
      go : (o : Option Edge) → first_that test (cases p) ≡ o → ((t : List ℕ) × Stratifies p t) ⊎ ((e : Edge) × IsFirstCase p e × HasNoTable p)
      go None h = inl (none (none-is test (cases p) h))
      go (Some e) h = let r = found e (first-is test (cases p) e h) in inr (e, r.0, r.1)

-- THE LEAST TABLE: numbers are raised for one bound after another that is not met

-- the bound asks for more than its high end has
abbrev fails : List ℕ → Bound → Bool
fails t a = leb (suc (slice_index t a.high)) (needs t a)

fails-meets : (t : List ℕ) (a : Bound) → fails t a ≡ false → Satisfies t a
fails-meets t a h = go (leb_tells (suc (slice_index t a.high)) (needs t a))
  where
    go : ((fails t a ≡ true) × (suc (slice_index t a.high) ≤ needs t a)) ⊎ ((fails t a ≡ false) × (needs t a < suc (slice_index t a.high))) → Satisfies t a
    go (inl (e, le)) = absurd (true_false (sym e ∙ h))
    go (inr (e, lt)) = omega arith

fails-lt : (t : List ℕ) (a : Bound) → fails t a ≡ true → slice_index t a.high < needs t a
fails-lt t a h = go (leb_tells (suc (slice_index t a.high)) (needs t a))
  where
    go : ((fails t a ≡ true) × (suc (slice_index t a.high) ≤ needs t a)) ⊎ ((fails t a ≡ false) × (needs t a < suc (slice_index t a.high))) → slice_index t a.high < needs t a
    go (inl (e, le)) = omega arith
    go (inr (e, lt)) = absurd (true_false (sym h ∙ e))

zeros_long : (n : ℕ) → length (replicate {A = ℕ} n 0) ≡ n
zeros_long zero = refl
zeros_long (suc n) = ap suc (zeros_long n)

zero_below : (n k m : ℕ) → slice_index (replicate {A = ℕ} n 0) k ≤ m
zero_below zero k m = omega arith
zero_below (suc n) zero m = omega arith
zero_below (suc n) (suc k) m = zero_below n k m

module _ (list : List Bound) (size : ℕ) (within : All (Within size) list) (some : HasTable list) where
  -- a least table of so many numbers that meets the bounds
  record Least : Type 0 where
    pub table : List ℕ
    pub long : length table ≡ size
    pub least : IsLeast list table
    pub meets : All (Satisfies table) list

  -- one bound more, where a table whose sum is greater has a least one behind it
  one_bound : (t : List ℕ) → length t ≡ size → IsLeast list t → ((new : List ℕ) → length new ≡ size → IsLeast list new → size * size - sum new < size * size - sum t → Least) → (o : Option Bound) → first_that (fails t) list ≡ o → Least
  one_bound t long least later None h = record {
    table = t;
    long = long;
    least = least;
    meets = each_all (Satisfies t) list (each_in (Satisfies t) list (λ a i. fails-meets t a (in_each (λ (x : Bound). fails t x ≡ false) list a (none-is (fails t) list h) i)));
  }
  one_bound t long least later (Some a) h =
      let f = first-is (fails t) list a h in
      let i : Contains list a = in_contains a list (subst (In a) (sym f.stands) (in_right a f.before (a ∷ f.later) (inl refl))) in
      let w : Within (length t) a = subst (λ (n : ℕ). Within n a) (sym long) (all_at (Within size) list a within i) in
      let new : List ℕ = set t a.high (needs t a) in
      let long' : length new ≡ size = length-set t a.high (needs t a) ∙ long in
      let least' = set-least list t a i w least in
      let more = set-sum t a.high (needs t a) w.1 (fails-lt t a f.passes) in
      let below = least-below list new (subst (λ (n : ℕ). All (Within n) list) (sym long') within) some least' in
      later new long' least' (smaller size t new long' below more)

  raised : (fuel : ℕ) (t : List ℕ) → length t ≡ size → IsLeast list t → size * size - sum t < fuel → Least
  raised zero t long least lt = absurd (omega arith)
  raised (suc fuel) t long least lt = one_bound t long least (λ new long' least' fewer. raised fuel new long' least' (omega arith)) (first_that (fails t) list) refl

  least_table : Least
  least_table = raised (suc (size * size)) (replicate size 0) (zeros_long size) (λ other meets k lt. zero_below size k (slice_index other k)) (omega arith)

-- a program that some table stratifies has a least such table
pub some_least : (p : CoreProgram) → IsWellFormed p → (t : List ℕ) → Stratifies p t → (least : List ℕ) × Stratifies p least × IsLeastTable p least
some_least p is t strat =
    let x = least_table (program_bounds p) (length p.cells + length p.nodes) (bounds-within p is) (full p t strat, full-meets p t strat is) in
    let r = table-is p is p.cells p.nodes (program_bounds p) x.table (take (length p.cells) x.table) refl refl refl x.long x.meets x.least refl in
    (take (length p.cells) x.table, r.0, r.1)
