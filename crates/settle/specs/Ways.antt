-- How words come along the way from an input to an output of a net, and which leaves are still to tell. This project's own.
use Rattle.std.specs.Prelude.{ℕ, ◌+◌, Bool, false, ◌&&◌, not, cond, List, [], ◌∷◌, Option, None, Some, nat_le}
use Rattle.token_system.specs.Stores.{StoreMap}
use Rattle.instant_net.specs.declared.parts.NetLeaf.{NetLeaf}
use Rattle.instant_net.specs.NamedLeaves.{runs_named}
use Rattle.instant_net.specs.Nets.{Flat, named_leaf, atoms_of}
use Rattle.instant_net.specs.Outputs.{IsNetOutput, IsStratified}
use Rattle.instant_net.specs.Readers.{least_stratum}
use Rattle.instant_net.specs.Words.{store_in}
use Rattle.net_laws.specs.Ways.{IsOnNetWay, has_told}

-- on the way from any input to any output of the net, where it is stratified, these words come from standing below stratum k to standing below stratum m
abbrev pub Advances : Flat → ℕ → ℕ → List ℕ → List ℕ → Type 0
Advances net k m before after =
    (input output : StoreMap) → IsStratified net → IsNetOutput net input output
    → IsOnNetWay net input output k (store_in net.cells before) → IsOnNetWay net input output m (store_in net.cells after)

abbrev pub is_level_upto : ℕ → Option ℕ → Bool
is_level_upto k None = false
is_level_upto k (Some level) = nat_le level k

-- the leaf is to be told: some told cell has at most stratum k, the store runs the leaf, and does not yet entail all that it tells
abbrev pub is_leaf_due : Flat → ℕ → StoreMap → NetLeaf → Bool
is_leaf_due net k w l = is_level_upto k (least_stratum net.cells (atoms_of l.kind)) && (runs_named w (named_leaf net l) && not (has_told net w l))

-- how many of the leaves tell something that the store does not entail
abbrev pub untold : Flat → StoreMap → List NetLeaf → ℕ
untold net w [] = 0
untold net w (l ∷ ls) = cond (has_told net w l) 0 1 + untold net w ls
