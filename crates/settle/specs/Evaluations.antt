-- How often asks are evaluated while an instant is completed: once at first, and again for each token that a cell of theirs is told. This project's own.
use Rattle.std.specs.Prelude.{ℕ, ◌+◌, ◌≤◌, ◌&&◌, not, cond, List, [], ◌∷◌, length}
use Rattle.token_system.specs.Stores.{StoreMap}
use Rattle.instant_net.specs.declared.parts.Atom.{Atom}
use Rattle.instant_net.specs.declared.parts.NetLeaf.{NetLeaf}
use Rattle.instant_net.specs.NamedLeaves.{runs_named}
use Rattle.instant_net.specs.Nets.{Flat, named_leaf, atoms_of}
use Rattle.instant_net.specs.Outputs.{IsNetOutput, IsStratified}
use Rattle.instant_net.specs.Words.{store_in}
use Rattle.parked_asks.specs.Watches.{watchers}
use Rattle.net_laws.specs.Ways.{IsOnNetWay, has_told}

-- how many guards name the cell of each of these tokens
abbrev pub watch_count : Flat → List Atom → ℕ
watch_count net [] = 0
watch_count net (a ∷ atoms) = length (watchers net a.cell) + watch_count net atoms

-- and so for all that the store runs of these leaves
abbrev pub watching_told : Flat → StoreMap → List NetLeaf → ℕ
watching_told net v [] = 0
watching_told net v (l ∷ ls) = cond (runs_named v (named_leaf net l)) (watch_count net (atoms_of l.kind)) 0 + watching_told net v ls

-- of those that v runs, for those that have something left to tell where w is reached
abbrev pub watching_left : Flat → StoreMap → StoreMap → List NetLeaf → ℕ
watching_left net v w [] = 0
watching_left net v w (l ∷ ls) = cond (runs_named v (named_leaf net l) && not (has_told net w l)) (watch_count net (atoms_of l.kind)) 0 + watching_left net v w ls

-- on the way to an output, at most as many evaluations were made as guards watch what the leaves told since
abbrev pub Evaluates : Flat → ℕ → List ℕ → List ℕ → ℕ → ℕ → Type 0
Evaluates net k before after steps more =
    (input output : StoreMap) → IsStratified net → IsNetOutput net input output → IsOnNetWay net input output k (store_in net.cells before)
    → more + watching_left net output (store_in net.cells after) net.leaves ≤ steps + watching_left net output (store_in net.cells before) net.leaves
