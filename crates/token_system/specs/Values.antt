-- Values: each stands for all tokens of a cell that some tokens entail. A value is what this project keeps in their place.
use Rattle.std.specs.Prelude.{◌↔◌, ◌≤ℤ◌, Bool, true, false, ◌&&◌, not, cond, ℤ, List, [], ◌∷◌, ◌++◌, IsTrue, int_le, int_lt}
use Rattle.std.specs.Ordering.{int_eq}
use Rattle.token_system.specs.declared.cell.Kind.{Kind}
use Rattle.token_system.specs.declared.cell.Kind.TheVariants as kinds
use Rattle.token_system.specs.declared.cell.Cell.{Cell}
use Rattle.token_system.specs.declared.cell.Token.{Token}
use Rattle.token_system.specs.declared.cell.Token.TheVariants.{On, Off, AtLeast, AtMost, Clash}
use Rattle.token_system.specs.declared.cell.Value.{Value}
use Rattle.token_system.specs.declared.cell.Value.TheVariants as values
use Rattle.token_system.specs.Tokens.{Fits, TokensEntail}

-- the value entails the token: a clash entails each, a signal what is told of it, and a number each bound that its own imply
abbrev pub value_entails : Value → Token → Bool
value_entails values.Clash t = true
value_entails (values.Signal on off) On = on
value_entails (values.Signal on off) Off = off
value_entails (values.Number lo hi) (AtLeast k) = int_le k lo
value_entails (values.Number lo hi) (AtMost k) = int_le hi k
value_entails _ _ = false

-- the value stands for the tokens: it entails what they entail, of what fits the cell
abbrev pub StandsFor : Cell → Value → List Token → Type 0
StandsFor c v ts = (t : Token) → Fits c t → (IsTrue (value_entails v t)) ↔ (TokensEntail c ts t)

-- a clash is written only as a clash
abbrev pub IsProper : Value → Type 0
IsProper (values.Signal on off) = IsTrue (not (on && off))
IsProper (values.Number lo hi) = lo ≤ℤ hi
IsProper values.Clash = Unit {0}

-- the value is of the kind, and its bounds lie within the domain
abbrev pub WithinDomain : ℤ → ℤ → Kind → Value → Type 0
WithinDomain least most kinds.Signal (values.Signal on off) = Unit {0}
WithinDomain least most kinds.Number (values.Number lo hi) = (least ≤ℤ lo) × (hi ≤ℤ most)
WithinDomain least most _ values.Clash = Unit {0}
WithinDomain least most _ _ = ⊥

-- the value is one of the cell's
pub record IsValueOf (c : Cell) (v : Value) : Type 0 where
  pub domain : WithinDomain c.lo c.hi c.kind v
  pub proper : IsProper v

-- the bottom of a kind over a domain
abbrev pub bottom_for : Kind → ℤ → ℤ → Value
bottom_for kinds.Signal lo hi = values.Signal false false
bottom_for kinds.Number lo hi = values.Number lo hi

-- the value of a cell of which nothing is told
abbrev pub bottom_of : Cell → Value
bottom_of c = bottom_for c.kind c.lo c.hi

-- a value and a token are of one kind, where a clash is of each
abbrev pub OfOneKind : Value → Token → Type 0
OfOneKind values.Clash t = Unit {0}
OfOneKind v Clash = Unit {0}
OfOneKind (values.Signal on off) On = Unit {0}
OfOneKind (values.Signal on off) Off = Unit {0}
OfOneKind (values.Number lo hi) (AtLeast k) = Unit {0}
OfOneKind (values.Number lo hi) (AtMost k) = Unit {0}
OfOneKind _ _ = ⊥

-- the value with one token more
abbrev pub value_with : Value → Token → Value
value_with values.Clash t = values.Clash
value_with (values.Signal on off) On = cond off values.Clash (values.Signal true off)
value_with (values.Signal on off) Off = cond on values.Clash (values.Signal on true)
value_with (values.Number lo hi) (AtLeast k) = cond (int_le k lo) (values.Number lo hi) (cond (int_lt hi k) values.Clash (values.Number k hi))
value_with (values.Number lo hi) (AtMost k) = cond (int_le hi k) (values.Number lo hi) (cond (int_lt k lo) values.Clash (values.Number lo k))
value_with _ _ = values.Clash

-- a token, if it is told
abbrev pub token_where : Bool → Token → List Token
token_where true t = t ∷ []
token_where false t = []

-- tokens that tell all that the value entails
abbrev pub value_tokens : Value → List Token
value_tokens values.Clash = Clash ∷ []
value_tokens (values.Signal on off) = token_where on On ++ token_where off Off
value_tokens (values.Number lo hi) = AtLeast lo ∷ AtMost hi ∷ []

-- both are true, or both are false
abbrev pub bool_eq : Bool → Bool → Bool
bool_eq true b = b
bool_eq false b = not b

-- the test whether two values are equal
abbrev pub value_eq : Value → Value → Bool
value_eq (values.Signal a b) (values.Signal c d) = bool_eq a c && bool_eq b d
value_eq (values.Number a b) (values.Number c d) = int_eq a c && int_eq b d
value_eq values.Clash values.Clash = true
value_eq _ _ = false
