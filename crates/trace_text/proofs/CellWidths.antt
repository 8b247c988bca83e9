-- The bounds of a cell's domain are numbers of 64 bits.
use Rattle.std.proofs.Common.{◌≡◌, ℤ, pos, neg_ℤ, ◌&&◌, arith}
use Rattle.std.specs.Prelude.{◌≤ℤ◌, IsTrue, int_le}
use Rattle.std.specs.Ordering.{int_eq}
use Rattle.std.proofs.lemmas.Bool.Decides.{Decides-int_eq}
use Rattle.std.proofs.lemmas.Int.{ints}
use mir.Syntax.{w64}
use mir.Val.{to_z, of_z}
use Rattle.token_system.specs.declared.cell.Kind.{Kind}
use Rattle.token_system.specs.declared.cell.Kind.TheVariants as kinds
use Rattle.token_system.specs.declared.cell.Cell.{Cell}
use Rattle.token_system.specs.Limits.{greatest_bound}
use Rattle.token_system.specs.Domain.{is_bound, is_cell}
use Rattle.agent_core.proofs.Bools.{first_of_both, second_of_both}

bound_width : (k : ℤ) → IsTrue (is_bound k) → to_z w64 (of_z w64 k) ≡ k
bound_width k h =
    let low : neg_ℤ greatest_bound ≤ℤ k = grind (arith, ints) in
    let high : k ≤ℤ greatest_bound = grind (arith, ints) in
    omega (arith, ints)

zero_width : (k : ℤ) → k ≡ pos 0 → to_z w64 (of_z w64 k) ≡ k
zero_width k e = omega (arith, ints)

widths : (k : Kind) (lo hi : ℤ) → IsTrue (is_cell k lo hi) → (to_z w64 (of_z w64 lo) ≡ lo) × (to_z w64 (of_z w64 hi) ≡ hi)
widths kinds.Signal lo hi h = (
  zero_width lo ((Decides-int_eq lo (pos 0)).0 (first_of_both (int_eq lo (pos 0)) (int_eq hi (pos 0)) h)),
  zero_width hi ((Decides-int_eq hi (pos 0)).0 (second_of_both (int_eq lo (pos 0)) (int_eq hi (pos 0)) h)),
)
widths kinds.Number lo hi h =
    let both = first_of_both (is_bound lo && is_bound hi) (int_le lo hi) h in
    (bound_width lo (first_of_both (is_bound lo) (is_bound hi) both), bound_width hi (second_of_both (is_bound lo) (is_bound hi) both))

-- reading the bits of a cell's bounds back gives them
pub cell_widths : (c : Cell) → (to_z w64 (of_z w64 c.lo) ≡ c.lo) × (to_z w64 (of_z w64 c.hi) ≡ c.hi)
cell_widths c = widths c.kind c.lo c.hi c.lawful
