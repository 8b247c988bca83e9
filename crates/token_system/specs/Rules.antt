-- What tokens of a cell entail, as the least set that holds them and is closed under the rules of entailment. The form is that of Saraswat, Jagadeesan and Gupta (1994); the rules are this project's own.
use Rattle.std.specs.Prelude.{◌≡◌, ◌<ℤ◌, ◌≤ℤ◌, ℤ, List, Contains}
use Rattle.token_system.specs.declared.cell.Kind.TheVariants as kinds
use Rattle.token_system.specs.declared.cell.Cell.{Cell}
use Rattle.token_system.specs.declared.cell.Token.{Token}
use Rattle.token_system.specs.declared.cell.Token.TheVariants.{On, Off, AtLeast, AtMost, Clash}
use Rattle.token_system.specs.Tokens.{Fits}

-- the token follows from these tokens of the cell, by these steps and no others:
-- a token follows from itself; on and off together clash; a lower bound above an upper bound clashes;
-- a clash entails each token of its cell; a bound entails each weaker one; a number lies within its domain
pub data IsDerived (c : Cell) (ts : List Token) : Token → Type 0 where
  by_itself : (t : Token) → Contains ts t → IsDerived c ts t
  by_on_and_off : IsDerived c ts On → IsDerived c ts Off → IsDerived c ts Clash
  by_crossed_bounds : (j k : ℤ) → k <ℤ j → IsDerived c ts (AtLeast j) → IsDerived c ts (AtMost k) → IsDerived c ts Clash
  by_clash : (t : Token) → Fits c t → IsDerived c ts Clash → IsDerived c ts t
  by_greater_bound : (j k : ℤ) → Fits c (AtLeast j) → j ≤ℤ k → IsDerived c ts (AtLeast k) → IsDerived c ts (AtLeast j)
  by_smaller_bound : (j k : ℤ) → Fits c (AtMost j) → k ≤ℤ j → IsDerived c ts (AtMost k) → IsDerived c ts (AtMost j)
  by_least : c.kind ≡ kinds.Number → IsDerived c ts (AtLeast c.lo)
  by_greatest : c.kind ≡ kinds.Number → IsDerived c ts (AtMost c.hi)
