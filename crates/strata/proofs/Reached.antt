-- Cells that bounds join are joined by edges.
use Rattle.std.proofs.Common.{◌≡◌, inl, inr, ℕ, zero, suc, ◌+◌, ◌<◌, length, refl, sym, subst, arith}
use Rattle.agent_core.specs.Programs.{CoreProgram}
use Rattle.agent_core.specs.WellFormed.{IsWellFormed}
use Rattle.agent_core.specs.Strata.{Edge, edges, In, Each}
use Rattle.agent_core.specs.Strata as strata
use Rattle.order_tables.specs.declared.bound.Bound.{Bound}
use Rattle.order_tables.specs.Bounds.{Path, HasPath}
use Rattle.order_tables.proofs.Lists.{all_at}
use Rattle.strata.specs.Items.{program_bounds}
use Rattle.strata.proofs.Members.{each_all, each-map}
use Rattle.strata.proofs.Under.{tells}
use Rattle.strata.proofs.Grounded.{ToldBound, DownBound, AskBound, Grounded, bounds-grounded}

module _ (p : CoreProgram) (d : ℕ) where
  abbrev cells : ℕ
  cells = length p.cells

  -- of an item that is reached: a cell is reached by edges, and so is each cell that is told below a node
  abbrev IsReached : ℕ → Type 0
  IsReached x = (x < cells → strata.Reaches (edges p) d x) × ((n : ℕ) → x ≡ cells + n → (t : ℕ × ℕ) → In t (tells p n) → strata.Reaches (edges p) d t.1)

  abbrev Step : Bound → Type 0
  Step e = IsReached e.low → IsReached e.high

  -- a cell is no node, and a node no cell
  cell_reached : (x : ℕ) → x < cells → strata.Reaches (edges p) d x → IsReached x
  cell_reached x lt r = (λ lt. r, λ m e t i. absurd (omega arith))

  node_reached : (n : ℕ) → ((t : ℕ × ℕ) → In t (tells p n) → strata.Reaches (edges p) d t.1) → IsReached (cells + n)
  node_reached n h = (λ lt. absurd (omega arith), λ m e t i. let same : n ≡ m = omega arith in h t (subst (λ (k : ℕ). In t (tells p k)) (sym same) i))

  told_step : (e : Bound) → ToldBound p e → Step e
  told_step e g = subst Step (sym g.is) (λ r. cell_reached g.told g.cell (r.1 g.from refl (g.below.0, g.told) g.below.1))

  down_step : (e : Bound) → DownBound p e → Step e
  down_step e g = subst Step (sym g.is) (λ r. node_reached g.to (λ t i. r.1 g.from refl t (g.below t i)))

  ask_step : (e : Bound) → AskBound p e → Step e
  ask_step e g = subst Step (sym g.is) (λ r. node_reached g.to (λ t i.
      let m = g.makes t i in
      let before = subst (strata.Reaches (edges p) d) (sym m.2) (r.0 g.cell) in
      subst (strata.Reaches (edges p) d) m.4 (suc before.0, (m.0, before.1, m.1, refl))))

  step : (e : Bound) → Grounded p e → Step e
  step e (inl g) = told_step e g
  step e (inr (inl g)) = down_step e g
  step e (inr (inr g)) = ask_step e g

  chain-reached : IsWellFormed p → d < cells → (n x : ℕ) → Path (program_bounds p) d x n → IsReached x
  chain-reached is lt zero x e = subst IsReached e (cell_reached d lt (0, refl))
  chain-reached is lt (suc n) x (e, chain, i, same) =
      subst IsReached same (all_at Step (program_bounds p) e (each_all Step (program_bounds p) (each-map (Grounded p) Step step (program_bounds p) (bounds-grounded p is))) i (chain-reached is lt n e.low chain))

  pub bounds-edges : IsWellFormed p → (b : ℕ) → d < cells → b < cells → HasPath (program_bounds p) d b → strata.Reaches (edges p) d b
  bounds-edges is b ld lb r = (chain-reached is ld r.0 b r.1).0 lb
