-- Lists of closures in order, each once. This project's own.
use Rattle.std.specs.Prelude.{List, ◌↔◌}
use Rattle.std.specs.List.Sorted.{IsStrictlySortedBy}
use Rattle.agent_core.specs.declared.node.Closure.{Closure}
use Rattle.agent_core.specs.Closures.{closure_cmp}
use Rattle.agent_core.specs.Strata.{In}

-- xs are the closures of cs, each once and in order
pub record IsSortedOf (cs xs : List Closure) : Type 0 where
  pub order : IsStrictlySortedBy closure_cmp xs
  pub members : (c : Closure) → In c xs ↔ In c cs
