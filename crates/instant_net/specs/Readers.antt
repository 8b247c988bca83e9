-- What is read off the parts of a net, by number: None stands where there is no such part. This project's own.
use Rattle.std.specs.Prelude.{ℕ, min, max, Bool, true, false, List, [], ◌∷◌, Option, None, Some, slice_get}
use Rattle.agent_core.specs.declared.node.Closure.{Closure}
use Rattle.instant_net.specs.declared.parts.Atom.{Atom}
use Rattle.instant_net.specs.declared.parts.NetCell.{NetCell}
use Rattle.instant_net.specs.declared.parts.NetGuard.{NetGuard}
use Rattle.instant_net.specs.declared.parts.NetLeaf.{NetLeaf}
use Rattle.instant_net.specs.declared.parts.LeafKind.{LeafKind}
use Rattle.instant_net.specs.declared.parts.LeafKind.TheVariants as kinds
use Rattle.instant_net.specs.Nets.{atoms_of}

-- LEAVES

abbrev pub leaf_tells_of : Option NetLeaf → List Atom
leaf_tells_of None = []
leaf_tells_of (Some l) = atoms_of l.kind

abbrev pub last_of : Option NetLeaf → Option ℕ
last_of None = None
last_of (Some l) = l.last

abbrev pub is_tell_kind : LeafKind → Bool
is_tell_kind (kinds.Tells told) = true
is_tell_kind _ = false

abbrev pub is_tell_of : Option NetLeaf → Bool
is_tell_of None = false
is_tell_of (Some l) = is_tell_kind l.kind

abbrev pub is_hence_kind : LeafKind → Bool
is_hence_kind (kinds.StartsHence closure) = true
is_hence_kind _ = false

abbrev pub is_hence_of : Option NetLeaf → Bool
is_hence_of None = false
is_hence_of (Some l) = is_hence_kind l.kind

abbrev pub starts_kind : LeafKind → Option Closure
starts_kind (kinds.StartsHence closure) = Some closure
starts_kind (kinds.StartsNext closure) = Some closure
starts_kind _ = None

abbrev pub starts_of : Option NetLeaf → Option Closure
starts_of None = None
starts_of (Some l) = starts_kind l.kind

-- GUARDS

abbrev pub is_else_of : Option NetGuard → Bool
is_else_of None = false
is_else_of (Some g) = g.negative

abbrev pub guard_ask_of : Option NetGuard → List Atom
guard_ask_of None = []
guard_ask_of (Some g) = g.ask

abbrev pub above_of : Option NetGuard → Option ℕ
above_of None = None
above_of (Some g) = g.above

abbrev pub first_of_guard : Option NetGuard → ℕ
first_of_guard None = 0
first_of_guard (Some g) = g.first

abbrev pub past_of_guard : Option NetGuard → ℕ
past_of_guard None = 0
past_of_guard (Some g) = g.past

-- STRATA

abbrev pub stratum_of : Option NetCell → ℕ
stratum_of None = 0
stratum_of (Some c) = c.stratum

abbrev pub lesser : ℕ → Option ℕ → ℕ
lesser n None = n
lesser n (Some m) = min n m

-- the least stratum of the atoms' cells, where there are any
abbrev pub least_stratum : List NetCell → List Atom → Option ℕ
least_stratum cells [] = None
least_stratum cells (a ∷ atoms) = Some (lesser (stratum_of (slice_get cells a.cell)) (least_stratum cells atoms))

-- the greatest stratum of the atoms' cells, or 0 where there are none
abbrev pub greatest_stratum : List NetCell → List Atom → ℕ
greatest_stratum cells [] = 0
greatest_stratum cells (a ∷ atoms) = max (stratum_of (slice_get cells a.cell)) (greatest_stratum cells atoms)
