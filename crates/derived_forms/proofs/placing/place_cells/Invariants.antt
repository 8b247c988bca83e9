use Rattle.std.proofs.Common.{◌≡◌, ◌+◌, ◌≤◌, length, vec_len}
use Rattle.std.specs.Prelude.{reverse}
use Rattle.expansion_laws.specs.SymbolicAgents.{SymbolicAgent}
use Rattle.derived_forms.specs.FlatNodes.{flat_nodes}
use Rattle.derived_forms.proofs.PlacedWorks.{IsPlaced}
use Rattle.derived_forms.proofs.placing.place_cells.Given as goal

-- some symbolic agents are still to get their cells, and what is placed stands in front of them
abbrev pub invariant-loop-flat_node : goal.invariant-loop-flat_node
invariant-loop-flat_node l = record {
  few : l.scope.next ≤ l.declared + length l.placed.items;
  all : length l.placed.items + length l.emitted.items ≡ length l.fn.emitted.items;
  done : (d : SymbolicAgent) → reverse l.fn.emitted.items ≡ flat_nodes d → IsPlaced d l.declared (reverse l.emitted.items) l.placed.items l.scope;
}

abbrev pub decreases-loop-flat_node : goal.decreases-loop-flat_node
decreases-loop-flat_node l = vec_len l.emitted
