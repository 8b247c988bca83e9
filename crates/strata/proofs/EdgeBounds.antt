-- The edges of a program as bounds between its cells.
use Rattle.std.proofs.Common.{◌≡◌, ℕ, zero, suc, ◌+◌, ◌<◌, Bool, true, false, List, [], ◌∷◌, ◌++◌, length, map, sym, ap, ◌∙◌, subst, arith}
use Rattle.std.specs.Prelude.{All, slice_index}
use Rattle.std.proofs.lemmas.List.FromFn.{length-map-range_with_len}
use Rattle.agent_core.specs.Programs.{CoreProgram}
use Rattle.agent_core.specs.Agents.{Agent, Constraint, Skip, Tell, Then, Else, Par, New, Hence, Next, agent_at}
use Rattle.agent_core.specs.Listing.{size}
use Rattle.agent_core.specs.WellFormed.{Scoped, IsWellFormed}
use Rattle.agent_core.specs.Strata.{Asked, Edge, asked_by, agent_edges, edges, In, Each, Stratifies, HasNoTable}
use Rattle.agent_core.specs.Strata as strata
use Rattle.order_tables.specs.declared.bound.Bound.{Bound}
use Rattle.order_tables.specs.Bounds.{Satisfies, Within, HasTable, Path}
use Rattle.order_tables.proofs.Tables.{IsBad, bad-none, good_bounds, ranks, ranks-meet, ranks-below}
use Rattle.strata.specs.Items.{bound, AskInside}
use Rattle.strata.proofs.Members.{in_map, map_in, join, each_all, all_each, in_contains, contains_in}
use Rattle.strata.proofs.Under.{edge_of, scope-inside}

abbrev pub edge_bound : Edge → Bound
edge_bound e = bound e.guard.cell e.told e.guard.negative

abbrev pub edge_bounds : CoreProgram → List Bound
edge_bounds p = map edge_bound (edges p)

-- CHAINS

pub to_path : (es : List Edge) (n a b : ℕ) → strata.Chain es a b n → Path (map edge_bound es) a b n
to_path es zero a b e = e
to_path es (suc n) a b (e, chain, i, is) = (edge_bound e, to_path es n a e.guard.cell chain, in_contains (edge_bound e) (map edge_bound es) (in_map edge_bound e es i), is)

pub from_path : (es : List Edge) (n a b : ℕ) → Path (map edge_bound es) a b n → strata.Chain es a b n
from_path es zero a b e = e
from_path es (suc n) a b (e, chain, i, is) =
    let x = map_in edge_bound e es (contains_in e (map edge_bound es) i) in
    (x.0, subst (λ (y : Bound). strata.Chain es a y.low n) x.2 (from_path es n a e.low chain), x.1, ap (λ (y : Bound). y.high) (sym x.2) ∙ is)

-- TABLES

to_meets : (t : List ℕ) (es : List Edge) → Each (strata.Meets t) es → Each (Satisfies t) (map edge_bound es)
to_meets t [] h = tt
to_meets t (e ∷ es) h = (h.0, to_meets t es h.1)

from_meets : (t : List ℕ) (es : List Edge) → Each (Satisfies t) (map edge_bound es) → Each (strata.Meets t) es
from_meets t [] h = tt
from_meets t (e ∷ es) h = (h.0, from_meets t es h.1)

pub edges-table : (p : CoreProgram) (t : List ℕ) → Stratifies p t → HasTable (edge_bounds p)
edges-table p t s = (t, each_all (Satisfies t) (edge_bounds p) (to_meets t (edges p) s.each))

-- a told cell that reaches the cell that its else asks for leaves no table
pub back-none : (p : CoreProgram) (e : Edge) → In e (edges p) → e.guard.negative ≡ true → strata.Reaches (edges p) e.told e.guard.cell → HasNoTable p
back-none p e i negative r table s =
    bad-none (edge_bounds p) (edge_bound e) (in_contains (edge_bound e) (edge_bounds p) (in_map edge_bound e (edges p) i)) (negative, (r.0, to_path (edges p) r.0 e.told e.guard.cell r.1)) (edges-table p table s)

-- EDGES LIE WITHIN

module _ (p : CoreProgram) where
  abbrev IsIn : Edge → Type 0
  IsIn e = Within (length p.cells) (edge_bound e)

  abbrev AskedIn : Asked → Type 0
  AskedIn g = g.cell < length p.cells

  asks_in : (n : ℕ) (negative : Bool) (c : Constraint) → AskInside (length p.cells) c → Each AskedIn (asked_by n negative c)
  asks_in n negative [] h = tt
  asks_in n negative (x ∷ c) h = (h.0, asks_in n negative c h.1)

  one_in : (n d : ℕ) (path : List Asked) → d < length p.cells → Each AskedIn path → Each IsIn (map (λ g. edge_of g n d) path)
  one_in n d [] lt h = tt
  one_in n d (g ∷ path) lt h = ((h.0, lt), one_in n d path lt h.1)

  tell_in : (n : ℕ) (c : Constraint) (path : List Asked) → AskInside (length p.cells) c → Each AskedIn path → Each IsIn (agent_edges n (Tell c) path)
  tell_in n [] path h g = tt
  tell_in n (x ∷ c) path h g = join IsIn (map (λ g. edge_of g n x.0) path) (agent_edges n (Tell c) path) (one_in n x.0 path h.0 g) (tell_in n c path h.1 g)

  agent_in : (a : Agent) (n : ℕ) (locals : List ℕ) (path : List Asked) → Scoped p locals a → Each AskedIn path → Each IsIn (agent_edges n a path)
  agent_in Skip n locals path h g = tt
  agent_in (Tell c) n locals path h g = tell_in n c path (scope-inside p locals c h.tokens) g
  agent_in (Then c a) n locals path h g = agent_in a (suc n) locals (path ++ asked_by n false c) h.1 (join AskedIn path (asked_by n false c) g (asks_in n false c (scope-inside p locals c h.0.tokens)))
  agent_in (Else c a) n locals path h g = agent_in a (suc n) locals (path ++ asked_by n true c) h.1 (join AskedIn path (asked_by n true c) g (asks_in n true c (scope-inside p locals c h.0.tokens)))
  agent_in (Par l r) n locals path h g = join IsIn (agent_edges (suc n) l path) (agent_edges (suc n + size l) r path) (agent_in l (suc n) locals path h.0 g) (agent_in r (suc n + size l) locals path h.1 g)
  agent_in (New cell a) n locals path h g = agent_in a (suc n) (cell ∷ locals) path h g
  agent_in (Hence a) n locals path h g = agent_in a (suc n) locals [] h tt
  agent_in (Next a) n locals path h g = agent_in a (suc n) locals [] h tt

  pub edges-inside : IsWellFormed p → Each (λ e. Within (length p.cells) (edge_bound e)) (edges p)
  edges-inside is = agent_in (agent_at p.nodes 0) 0 [] [] is.scoped tt

  within : (es : List Edge) → Each IsIn es → Each (Within (length p.cells)) (map edge_bound es)
  within [] h = tt
  within (e ∷ es) h = (h.0, within es h.1)

  edge_bounds-within : IsWellFormed p → All (Within (length p.cells)) (edge_bounds p)
  edge_bounds-within is = each_all (Within (length p.cells)) (edge_bounds p) (within (edges p) (edges-inside is))

  -- where no edge is bad, the ranks of the cells stratify
  pub good-table : IsWellFormed p → All (λ e. IsBad (edge_bounds p) e → ⊥) (edge_bounds p) → (t : List ℕ) × Stratifies p t
  good-table is good =
      let t = ranks (edge_bounds p) (length p.cells) (edge_bounds-within is) good in
      let meets = ranks-meet (edge_bounds p) (length p.cells) (edge_bounds-within is) good in (
        t,
        record {
          long = length-map-range_with_len _ 0 (length p.cells);
          each = from_meets t (edges p) (all_each (Satisfies t) (edge_bounds p) meets);
        },
      )

  -- so the numbers of the least table are less than the number of cells
  pub least-inside : IsWellFormed p → (t : List ℕ) → Stratifies p t → strata.IsLeastTable p t → (c : ℕ) → c < length p.cells → slice_index t c < length p.cells
  least-inside is t s least c lt =
      let good = good_bounds (edge_bounds p) (edges-table p t s) in
      let other = ranks (edge_bounds p) (length p.cells) (edge_bounds-within is) good in
      let meets = ranks-meet (edge_bounds p) (length p.cells) (edge_bounds-within is) good in
      let le = least other (record { long = length-map-range_with_len _ 0 (length p.cells); each = from_meets other (edges p) (all_each (Satisfies other) (edge_bounds p) meets) }) c lt in
      let below = ranks-below (edge_bounds p) (length p.cells) (edge_bounds-within is) good c lt in
      omega arith
