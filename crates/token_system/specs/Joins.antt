-- The order of values by what they entail, and their join. After the lattice of a constraint system's closed sets; the values are this project's own.
use Rattle.std.specs.Prelude.{Bool, true, false, ◌&&◌, ◌||◌, cond, ℤ, IsTrue, int_le, int_lt}
use Rattle.std.specs.Int.{int_max, int_min}
use Rattle.token_system.specs.declared.cell.Cell.{Cell}
use Rattle.token_system.specs.declared.cell.Token.{Token}
use Rattle.token_system.specs.declared.cell.Value.{Value}
use Rattle.token_system.specs.declared.cell.Value.TheVariants as values
use Rattle.token_system.specs.Tokens.{Fits}
use Rattle.token_system.specs.Values.{value_entails}

-- y entails each token of the cell that x entails
abbrev pub IsBelow : Cell → Value → Value → Type 0
IsBelow c x y = (t : Token) → Fits c t → IsTrue (value_entails x t) → IsTrue (value_entails y t)

-- two values are of one kind, where a clash is of each
abbrev pub AreOfOneKind : Value → Value → Type 0
AreOfOneKind values.Clash w = Unit {0}
AreOfOneKind v values.Clash = Unit {0}
AreOfOneKind (values.Signal a b) (values.Signal c d) = Unit {0}
AreOfOneKind (values.Number a b) (values.Number c d) = Unit {0}
AreOfOneKind _ _ = ⊥

-- b holds where a does
abbrev pub implies : Bool → Bool → Bool
implies true b = b
implies false b = true

-- the test whether x is below y, of one kind: a clash is above each, and wider bounds are below narrower ones
abbrev pub value_leq : Value → Value → Bool
value_leq x values.Clash = true
value_leq (values.Signal a b) (values.Signal c d) = implies a c && implies b d
value_leq (values.Number a b) (values.Number c d) = int_le a c && int_le d b
value_leq _ _ = false

-- a signal of which this is told: a clash where both are
abbrev pub signal_of : Bool → Bool → Value
signal_of on off = cond (on && off) values.Clash (values.Signal on off)

-- a number between these bounds: a clash where they cross
abbrev pub number_between : ℤ → ℤ → Value
number_between lo hi = cond (int_lt hi lo) values.Clash (values.Number lo hi)

-- the join of two values of one kind
abbrev pub value_join : Value → Value → Value
value_join (values.Signal a b) (values.Signal c d) = signal_of (a || c) (b || d)
value_join (values.Number a b) (values.Number c d) = number_between (int_max a c) (int_min b d)
value_join _ _ = values.Clash
