-- Where a table stratifies a program, the told cells below each node are high enough for the asks above them, begun at that node.
use Rattle.std.proofs.Common.{ℕ, ◌<◌, List, [], length, sym, subst, arith}
use Rattle.agent_core.specs.declared.node.Node.{Node}
use Rattle.agent_core.specs.Agents.{Agent, agent_at}
use Rattle.agent_core.specs.Programs.{CoreProgram}
use Rattle.agent_core.specs.Listing.{listing}
use Rattle.agent_core.specs.WellFormed.{IsWellFormed}
use Rattle.agent_core.specs.Strata.{Stratifies}
use Rattle.agent_core.proofs.Standing.{StandsAt, stands-tail}
use Rattle.agent_core.proofs.ListingTrees.{left_listed, right_listed, listed_tree}
use Rattle.agent_core.proofs.Places.{GoesDown, each_node, root_place, size-root}
use Rattle.agent_laws.proofs.Floors.{Floors, Floors-le, floor, root_floors}

-- the tree is listed at n, and its told cells are high enough
record HasFloors (all : List Node) (table : List ℕ) (n : ℕ) (locals : List ℕ) (a : Agent) : Type 0 where
  listed : StandsAt Node all n (listing n a)
  floors : Floors table a 0

HasFloors-goes_down : (all : List Node) (table : List ℕ) → GoesDown (HasFloors all table)
HasFloors-goes_down all table = record {
  then_body = λ n locals c a h. record { listed = stands-tail h.listed; floors = Floors-le table a 0 (floor table 0 0 c) (omega arith) h.floors };
  else_body = λ n locals c a h. record { listed = stands-tail h.listed; floors = Floors-le table a 0 (floor table 1 0 c) (omega arith) h.floors };
  left = λ n locals a b h. record { listed = left_listed a b h.listed; floors = h.floors.0 };
  right = λ n locals a b h. record { listed = right_listed a b h.listed; floors = h.floors.1 };
  new_body = λ n locals cell a h. record { listed = stands-tail h.listed; floors = h.floors };
  hence_body = λ n locals a h. record { listed = stands-tail h.listed; floors = h.floors };
  next_body = λ n locals a h. record { listed = stands-tail h.listed; floors = h.floors };
}

pub node_floors : (p : CoreProgram) (table : List ℕ) → IsWellFormed p → Stratifies p table → (n : ℕ) → n < length p.nodes → Floors table (agent_at p.nodes n) 0
node_floors p table is strat n lt =
    let long = size-root p.nodes is.tree in
    let root : HasFloors p.nodes table 0 [] (agent_at p.nodes 0) = record { listed = (root_place p.nodes is.tree).listed; floors = root_floors p table strat } in
    let found = each_node (HasFloors p.nodes table) (HasFloors-goes_down p.nodes table) 0 [] (agent_at p.nodes 0) root n n (omega arith) (omega arith) in
    subst (λ (a : Agent). Floors table a 0) (sym (listed_tree p.nodes n found.1 found.2.listed)) found.2.floors
