-- When a leaf of an instant rests under a store u and a guess v of the instant's final store. This project's own.
use Rattle.std.specs.Prelude.{Bool, true, ◌&&◌, not}
use Rattle.std.specs.List.{list_all}
use Rattle.token_system.specs.Stores.{StoreMap}
use Rattle.agent_core.specs.Programs.{CoreProgram}
use Rattle.agent_core.specs.Rests.{◌⇒◌, entails}
use Rattle.agent_core.specs.Leaves.{Guard, Positive, Negative, Leaf, tells}

-- the store entails the guard, where it is a then ask
abbrev pub asked : CoreProgram → StoreMap → Guard → Bool
asked p u (Positive b c) = entails p b u c
asked p u (Negative b c) = true

-- the store does not entail the guard, where it is an else ask
abbrev pub free : CoreProgram → StoreMap → Guard → Bool
free p v (Positive b c) = true
free p v (Negative b c) = not (entails p b v c)

-- where the path is free, what is told is in u if it is asked by u, and in v if it is asked by v
abbrev pub path_rests : Bool → Bool → Bool → Bool → Bool → Bool
path_rests free by_u by_v in_u in_v = free ⇒ ((by_u ⇒ in_u) && (by_v ⇒ in_v))

-- where v entails no else ask of the path: u entails what the leaf tells if it entails each then ask, and so does v
abbrev pub leaf_rests : CoreProgram → StoreMap → StoreMap → Leaf → Bool
leaf_rests p u v l =
    path_rests
    (list_all (free p v) l.path)
    (list_all (asked p u) l.path)
    (list_all (asked p v) l.path)
    (entails p l.births u (tells l.agent))
    (entails p l.births v (tells l.agent))
