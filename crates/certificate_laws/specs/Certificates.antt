-- Certificates of an instant: an order in which the tells that its output runs may tell, each with its grounds.
-- This project's own; an order of founded steps, as answer sets of logic programs have one.
use Rattle.std.specs.Prelude.{◌≡◌, List, [], ◌∷◌, IsTrue}
use Rattle.token_system.specs.Stores.{StoreMap}
use Rattle.agent_core.specs.Programs.{CoreProgram}
use Rattle.agent_core.specs.Leaves.{Leaf, runs}
use Rattle.agent_core.specs.Strata.{Each, In}
use Rattle.certificate_laws.specs.Justified.{is_tell, after_leaf, IsJustified}

-- the leaves tell one after the other, from u to w, and each is justified by what was told before it and by the output v
abbrev pub Leads : CoreProgram → StoreMap → List Leaf → StoreMap → StoreMap → Type 0
Leads p v [] u w = u ≡ w
Leads p v (l ∷ run) u w = IsJustified p u v l × Leads p v run (after_leaf p l u) w

-- each tell of the leaves that v runs is among those of the run
abbrev pub IsWhole : CoreProgram → List Leaf → StoreMap → List Leaf → Type 0
IsWhole p ls v run = Each (λ l. IsTrue (is_tell l.agent) → IsTrue (runs p v l) → In l run) ls

-- the run is of these leaves, leads from the input i to v, and leaves out no tell that v runs
pub record Certifies (p : CoreProgram) (ls : List Leaf) (i v : StoreMap) (run : List Leaf) : Type 0 where
  pub from : Each (λ l. In l ls) run
  pub leads : Leads p v run i v
  pub whole : IsWhole p ls v run
