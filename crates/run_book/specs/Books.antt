-- The book of a run: what is kept of it from instant to instant. This project's own.
use Rattle.std.specs.Prelude.{◌≡◌, ℕ, ◌≤◌, List, [], ◌∷◌, ◌++◌, length, All}
use Rattle.token_system.specs.Stores.{StoreMap}
use Rattle.agent_core.specs.Programs.{CoreProgram}
use Rattle.agent_core.specs.WellFormed.{IsWellFormed}
use Rattle.agent_core.specs.Limits.{most_instants}
use Rattle.agent_core.specs.Stores.{IsInput}
use Rattle.agent_core.specs.Outputs.{IsRun}
use Rattle.agent_core.specs.Closures as closures
use Rattle.agent_core.specs.Strata.{Stratifies}
use Rattle.residuals.specs.RootLists.{RootLists, AreRootsOf}
use Rattle.token_system.specs.DeclaredParts.{IsDeclaredPart, AreDeclaredParts}

-- what a book is seen as: the inputs of the closed instants, what their outputs say of declared cells, and the roots of the instant after them
pub record BookView : Type 0 where
  pub program : CoreProgram
  pub levels : List ℕ
  pub ins : List StoreMap
  pub outs : List StoreMap
  pub roots : RootLists

-- the book keeps this run of its program: the run's inputs, the declared parts of its outputs, and the roots that these outputs leave
pub record KeepsRun (b : BookView) (full : List StoreMap) : Type 0 where
  pub run : IsRun b.program b.ins full
  pub declared : AreDeclaredParts full b.outs
  pub roots : AreRootsOf b.program (closures.roots b.program full) b.roots

-- what holds of every book
pub record IsBook (b : BookView) : Type 0 where
  pub program : IsWellFormed b.program
  pub stratified : Stratifies b.program b.levels
  pub inputs : All (IsInput b.program) b.ins
  pub few : length b.ins ≤ most_instants
  pub full : List StoreMap
  pub keeps : KeepsRun b full

-- one more instant was closed, with this input and this output
pub record HasClosedInstant (before after : BookView) (input output : StoreMap) : Type 0 where
  pub program : after.program ≡ before.program
  pub levels : after.levels ≡ before.levels
  pub ins : after.ins ≡ before.ins ++ input ∷ []
  pub part : StoreMap
  pub declared : IsDeclaredPart output part
  pub outs : after.outs ≡ before.outs ++ part ∷ []
