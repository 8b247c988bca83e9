use Rattle.std.proofs.Common.{◌≡◌, ℕ, ℤ, List, true, false, ap, sym, ◌∙◌, w64}
use Rattle.std.specs.Prelude.{if◌then◌else◌}
use Rattle.std.proofs.lemmas.Int.{to_z-of_z}
use Rattle.token_system.specs.Domain.{is_cell}
use Rattle.token_system.specs.declared.cell.Kind.TheVariants as kind
use Rattle.tdcc_reader.specs.Surfaces.{declared, declared_signal, declared_number}
use Rattle.tdcc_reader.proofs.cells.number_cell.Goals as goal

number_is : (x : List ℕ) (lo hi : ℤ) → is_cell kind.Number lo hi ≡ true → declared x kind.Number lo hi ≡ declared_number x lo hi
number_is x lo hi e = sym (ap (λ b. if b then declared x kind.Number lo hi else declared_signal x) e)

pub returns : goal.returns
returns c =
    let lo = to_z-of_z w64 c.args.lo c.ranges.lo in
    let hi = to_z-of_z w64 c.args.hi c.ranges.hi in
    let e : is_cell kind.Number c.args.lo c.args.hi ≡ true = simp (lo, hi) at (sym c.is_domain.ensures ∙ c.if-not-is_domain.false) in
    λ x. simp (lo, hi) (number_is x c.args.lo c.args.hi e)

number_not : (x : List ℕ) (lo hi : ℤ) → is_cell kind.Number lo hi ≡ false → declared_signal x ≡ declared_number x lo hi
number_not x lo hi e = sym (ap (λ b. if b then declared x kind.Number lo hi else declared_signal x) e)

pub returns-then-not-is_domain : goal.returns-then-not-is_domain
returns-then-not-is_domain c =
    let lo = to_z-of_z w64 c.args.lo c.ranges.lo in
    let hi = to_z-of_z w64 c.args.hi c.ranges.hi in
    let e : is_cell kind.Number c.args.lo c.args.hi ≡ false = simp (lo, hi) at (sym c.is_domain.ensures ∙ c.if-not-is_domain.true) in
    λ x. c.signal_cell.ensures x ∙ number_not x c.args.lo c.args.hi e
