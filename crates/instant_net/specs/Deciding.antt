-- What may be said of leaves and guards by one who has not seen all: a leaf is decided where whatever else is told cannot keep it from running. This project's own.
use Rattle.std.specs.Prelude.{ℕ, zero, suc, Bool, false, ◌&&◌, ◌||◌, not, nat_lt, List, [], ◌∷◌, length, Option, None, Some, slice_get}
use Rattle.std.specs.List.{list_all}
use Rattle.instant_net.specs.declared.parts.NetGuard.{NetGuard}
use Rattle.instant_net.specs.NamedLeaves.{allows_named}
use Rattle.instant_net.specs.Nets.{Flat, named_guard}
use Rattle.instant_net.specs.Readers.{above_of, greatest_stratum, is_tell_of, last_of}
use Rattle.instant_net.specs.Words.{store_in}
use Rattle.instant_net.specs.Seen.{SeenView, is_settled}

-- the guard is a then's, or all that it asks for is settled, and its stratum known to be at rest
abbrev pub is_sure : Flat → SeenView → NetGuard → Bool
is_sure net s g = not g.negative || (nat_lt (greatest_stratum net.cells g.ask) s.known && list_all (is_settled net.cells s) g.ask)

-- what is seen allows the guard, and whatever else is told will
abbrev pub is_passed : Flat → SeenView → Option NetGuard → Bool
is_passed net s None = false
is_passed net s (Some g) = allows_named (store_in net.cells s.words) (named_guard net.cells g) && is_sure net s g

-- this guard, where there is one, and those above it, from the lowest up, at most so many
abbrev pub guards_up : List NetGuard → ℕ → Option ℕ → List ℕ
guards_up guards zero o = []
guards_up guards (suc most) None = []
guards_up guards (suc most) (Some k) = k ∷ guards_up guards most (above_of (slice_get guards k))

-- this guard, where there is one, and each guard above it is passed
abbrev pub is_open : Flat → SeenView → Option ℕ → Bool
is_open net s o = list_all (λ k. is_passed net s (slice_get net.guards k)) (guards_up net.guards (length net.guards) o)

-- the leaf tells, and each guard above it is passed
abbrev pub is_decided : Flat → SeenView → ℕ → Bool
is_decided net s leaf = is_tell_of (slice_get net.leaves leaf) && is_open net s (last_of (slice_get net.leaves leaf))

-- each guard above this one is passed
abbrev pub is_reached : Flat → SeenView → ℕ → Bool
is_reached net s guard = is_open net s (above_of (slice_get net.guards guard))
