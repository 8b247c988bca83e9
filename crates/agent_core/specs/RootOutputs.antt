-- The outputs of a list of roots at one instant. This project's own.
use Rattle.std.specs.Prelude.{ℕ, Bool, List}
use Rattle.std.specs.List.{list_all}
use Rattle.token_system.specs.Stores.{StoreMap}
use Rattle.agent_core.specs.declared.node.Closure.{Closure}
use Rattle.agent_core.specs.Programs.{CoreProgram}
use Rattle.agent_core.specs.Rests.{rests}
use Rattle.agent_core.specs.Outputs.{IsStable}

-- each root, started at t, rests under (u, v)
abbrev pub roots_rest : CoreProgram → List Closure → ℕ → StoreMap → StoreMap → Bool
roots_rest p rs t u v = list_all (λ r. rests p r.node r.births t u v) rs

-- v is an output of the roots, started at t, on the input
abbrev pub IsOutputOf : CoreProgram → List Closure → ℕ → StoreMap → StoreMap → Type 0
IsOutputOf p rs t input v = IsStable p (roots_rest p rs t) input v
