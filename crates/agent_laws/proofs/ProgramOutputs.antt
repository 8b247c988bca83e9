-- A program that a table stratifies has exactly one output on each input, after whatever closed stores.
use Rattle.std.proofs.Common.{◌≡◌, ℕ, List, length, sym, ◌∙◌}
use Rattle.token_system.specs.Stores.{StoreMap}
use Rattle.agent_core.specs.Programs.{CoreProgram}
use Rattle.agent_core.specs.WellFormed.{IsWellFormed}
use Rattle.agent_core.specs.Stores.{IsStore}
use Rattle.agent_core.specs.Outputs.{IsOutput}
use Rattle.agent_core.specs.Closures.{roots}
use Rattle.agent_core.specs.Strata.{Stratifies}
use Rattle.agent_core.specs.RootOutputs.{IsOutputOf}
use Rattle.agent_laws.proofs.Started.{roots-closures}
use Rattle.agent_laws.proofs.RootRests.{obs-roots}
use Rattle.agent_laws.proofs.ClosureOutputs.{closures-have_output, closures-one_output}

-- the outputs of a program are those of its roots
pub output-of_roots : (p : CoreProgram) → IsWellFormed p → (z : List StoreMap) (i v : StoreMap) → IsOutputOf p (roots p z) (length z) i v → IsOutput p z i v
output-of_roots p is z i v out = record {
  given = out.given;
  store = out.store;
  above = out.above;
  rests = obs-roots p z v v is.tree ∙ out.rests;
  least = λ u iu low high h. out.least u iu low high (sym (obs-roots p z u v is.tree) ∙ h);
}

pub roots_of-output : (p : CoreProgram) → IsWellFormed p → (z : List StoreMap) (i v : StoreMap) → IsOutput p z i v → IsOutputOf p (roots p z) (length z) i v
roots_of-output p is z i v out = record {
  given = out.given;
  store = out.store;
  above = out.above;
  rests = sym (obs-roots p z v v is.tree) ∙ out.rests;
  least = λ u iu low high h. out.least u iu low high (obs-roots p z u v is.tree ∙ h);
}

module _ (p : CoreProgram) (table : List ℕ) (is : IsWellFormed p) (strat : Stratifies p table) (z : List StoreMap) where
  pub has_output : (i : StoreMap) → IsStore p i → (v : StoreMap) × IsOutput p z i v
  has_output i ii =
      let h = closures-have_output p table is strat (roots p z) (roots-closures p is z) (length z) i ii in
      (h.0, output-of_roots p is z i h.0 h.1)

  pub one_output : (i v w : StoreMap) → IsOutput p z i v → IsOutput p z i w → v ≡ w
  one_output i v w ov ow = closures-one_output p table is strat (roots p z) (roots-closures p is z) (length z) i v w (roots_of-output p is z i v ov) (roots_of-output p is z i w ow)
