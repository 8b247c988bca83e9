-- Tokens, and what a list of tokens of one cell entails: a constraint system in the sense of Saraswat, Jagadeesan and Gupta (1994), of which this instance is this project's own.
use Rattle.std.specs.Prelude.{◌≡◌, ◌⊎◌, ◌<ℤ◌, ◌≤ℤ◌, Bool, true, false, ◌&&◌, ℤ, List, Contains, IsTrue}
use Rattle.token_system.specs.declared.cell.Kind.{Kind}
use Rattle.token_system.specs.declared.cell.Kind.TheVariants as kinds
use Rattle.token_system.specs.declared.cell.Cell.{Cell}
use Rattle.token_system.specs.declared.cell.Token.{Token}
use Rattle.token_system.specs.declared.cell.Token.TheVariants.{On, Off, AtLeast, AtMost, Clash}
use Rattle.token_system.specs.Domain.{is_bound}

-- the kind is that of signals
abbrev pub is_signal : Kind → Bool
is_signal kinds.Signal = true
is_signal _ = false

-- the kind is that of numbers
abbrev pub is_number : Kind → Bool
is_number kinds.Number = true
is_number _ = false

-- the token is of the kind, and its bound is within the limits
abbrev pub fits_kind : Kind → Token → Bool
fits_kind k On = is_signal k
fits_kind k Off = is_signal k
fits_kind k (AtLeast n) = is_number k && is_bound n
fits_kind k (AtMost n) = is_number k && is_bound n
fits_kind k Clash = true

-- the token is one of the cell's
abbrev pub token_fits : Cell → Token → Bool
token_fits c t = fits_kind c.kind t

-- the token is one of the cell's, as a fact
abbrev pub Fits : Cell → Token → Type 0
Fits c t = IsTrue (token_fits c t)

-- j is the cell's least number, or a lower bound in the list
abbrev pub IsLower : Cell → List Token → ℤ → Type 0
IsLower c ts j = (j ≡ c.lo) ⊎ Contains ts (AtLeast j)

-- k is the cell's greatest number, or an upper bound in the list
abbrev pub IsUpper : Cell → List Token → ℤ → Type 0
IsUpper c ts k = (k ≡ c.hi) ⊎ Contains ts (AtMost k)

-- two of the tokens contradict each other: on and off, or a lower bound above an upper one
abbrev pub AreOpposed : Cell → Kind → List Token → Type 0
AreOpposed c kinds.Signal ts = Contains ts On × Contains ts Off
AreOpposed c kinds.Number ts = (j k : ℤ) × (k <ℤ j) × IsLower c ts j × IsUpper c ts k

-- the tokens clash
abbrev pub Clashes : Cell → List Token → Type 0
Clashes c ts = Contains ts Clash ⊎ AreOpposed c c.kind ts

-- what tokens that do not clash entail: those that are told, and the bounds that a told one or the domain implies
abbrev pub EntailsWithoutClash : Cell → List Token → Token → Type 0
EntailsWithoutClash c ts On = Contains ts On
EntailsWithoutClash c ts Off = Contains ts Off
EntailsWithoutClash c ts (AtLeast k) = (j : ℤ) × IsLower c ts j × (k ≤ℤ j)
EntailsWithoutClash c ts (AtMost k) = (j : ℤ) × IsUpper c ts j × (j ≤ℤ k)
EntailsWithoutClash c ts Clash = ⊥

-- the tokens of one cell entail the token: it fits the cell, and they clash or entail it otherwise
abbrev pub TokensEntail : Cell → List Token → Token → Type 0
TokensEntail c ts t = Fits c t × (Clashes c ts ⊎ EntailsWithoutClash c ts t)
