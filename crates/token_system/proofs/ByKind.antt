-- The tokens that fit a kind, and the values of a kind, case by case: what a lemma looks at in place of each pair of a kind with a token or a value.
use Rattle.std.proofs.Common.{◌≡◌, Bool, true, false, ℤ, sym}
use Rattle.std.specs.Prelude.{◌≤ℤ◌, IsTrue}
use Rattle.token_system.specs.declared.cell.Kind.{Kind}
use Rattle.token_system.specs.declared.cell.Kind.TheVariants as kinds
use Rattle.token_system.specs.declared.cell.Token.{Token}
use Rattle.token_system.specs.declared.cell.Token.TheVariants.{On, Off, AtLeast, AtMost, Clash}
use Rattle.token_system.specs.declared.cell.Value.{Value}
use Rattle.token_system.specs.declared.cell.Value.TheVariants as values
use Rattle.token_system.specs.Domain.{is_bound}
use Rattle.token_system.specs.Tokens.{fits_kind}
use Rattle.token_system.specs.Values.{WithinDomain}

pub true_false : true ≡ false → ⊥
true_false e = cc

-- the tokens that fit a kind
pub data Fitting : Kind → Token → Type 0 where
  on : Fitting kinds.Signal On
  off : Fitting kinds.Signal Off
  at_least : (k : ℤ) → IsTrue (is_bound k) → Fitting kinds.Number (AtLeast k)
  at_most : (k : ℤ) → IsTrue (is_bound k) → Fitting kinds.Number (AtMost k)
  clash : (k : Kind) → Fitting k Clash

pub fitting : (k : Kind) (t : Token) → IsTrue (fits_kind k t) → Fitting k t
fitting k Clash f = clash k
fitting kinds.Signal On f = on
fitting kinds.Signal Off f = off
fitting kinds.Number (AtLeast n) f = at_least n f
fitting kinds.Number (AtMost n) f = at_most n f
fitting kinds.Signal (AtLeast n) f = absurd (true_false (sym f))
fitting kinds.Signal (AtMost n) f = absurd (true_false (sym f))
fitting kinds.Number On f = absurd (true_false (sym f))
fitting kinds.Number Off f = absurd (true_false (sym f))

-- the values of a kind over a domain
pub data OfKind (least most : ℤ) : Kind → Value → Type 0 where
  signal : (a b : Bool) → OfKind least most kinds.Signal (values.Signal a b)
  number : (lo hi : ℤ) → least ≤ℤ lo → hi ≤ℤ most → OfKind least most kinds.Number (values.Number lo hi)
  clash : (k : Kind) → OfKind least most k values.Clash

pub of_kind : (least most : ℤ) (k : Kind) (v : Value) → WithinDomain least most k v → OfKind least most k v
of_kind least most k values.Clash d = clash k
of_kind least most kinds.Signal (values.Signal a b) d = signal a b
of_kind least most kinds.Number (values.Number lo hi) d = number lo hi d.0 d.1
of_kind least most kinds.Signal (values.Number lo hi) d = absurd d
of_kind least most kinds.Number (values.Signal a b) d = absurd d
