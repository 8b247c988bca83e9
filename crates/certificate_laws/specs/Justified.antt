-- When a leaf may tell next, where the output is known and some leaves have told before it. This project's own.
use Rattle.std.specs.Prelude.{Bool, true, false, IsTrue}
use Rattle.std.specs.List.{list_all}
use Rattle.token_system.specs.Stores.{StoreMap}
use Rattle.agent_core.specs.Agents.{Agent, Tell}
use Rattle.agent_core.specs.Programs.{CoreProgram}
use Rattle.agent_core.specs.Tellings.{tell_all}
use Rattle.agent_core.specs.Leaves.{Leaf, tells}
use Rattle.agent_laws.specs.LeafRests.{asked, free}

abbrev pub is_tell : Agent → Bool
is_tell (Tell c) = true
is_tell _ = false

-- the store after the leaf has told
abbrev pub after_leaf : CoreProgram → Leaf → StoreMap → StoreMap
after_leaf p l u = tell_all p l.births (tells l.agent) u

-- the leaf is a tell; u, what is told so far, entails each of its positive guards, and v, the output, none of its negative ones
pub record IsJustified (p : CoreProgram) (u v : StoreMap) (l : Leaf) : Type 0 where
  pub tells : IsTrue (is_tell l.agent)
  pub asked : IsTrue (list_all (asked p u) l.path)
  pub free : IsTrue (list_all (free p v) l.path)
