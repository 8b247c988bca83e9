-- The outputs of a program, and its runs: the stable stores of Default cc, instant by instant. This project's own, after Saraswat, Jagadeesan and Gupta 1996.
use Rattle.std.specs.Prelude.{◌≡◌, ℕ, Bool, List, [], length, take, Some, slice_get, IsTrue}
use Rattle.token_system.specs.Stores.{StoreMap}
use Rattle.agent_core.specs.Programs.{CoreProgram}
use Rattle.agent_core.specs.Stores.{IsStore, Below}
use Rattle.agent_core.specs.RestsAfter.{obs}

-- v lies above the input and rests under itself as guess, while no smaller store above the input rests under that guess
pub record IsStable (p : CoreProgram) (rest : StoreMap → StoreMap → Bool) (input v : StoreMap) : Type 0 where
  pub given : IsStore p input
  pub store : IsStore p v
  pub above : Below p input v
  pub rests : IsTrue (rest v v)
  pub least : (u : StoreMap) → IsStore p u → Below p input u → Below p u v → IsTrue (rest u v) → u ≡ v

-- v is an output of the program on the input, after the closed stores: the root was started at instant 0 and rests now
abbrev pub IsOutput : CoreProgram → List StoreMap → StoreMap → StoreMap → Type 0
IsOutput p closed input v = IsStable p (obs p 0 [] 0 closed) input v

-- the outputs belong to the inputs, each after the outputs before it
pub record IsRun (p : CoreProgram) (ins outs : List StoreMap) : Type 0 where
  pub whole : length outs ≡ length ins
  pub each : (n : ℕ) (i v : StoreMap) → slice_get ins n ≡ Some i → slice_get outs n ≡ Some v → IsOutput p (take n outs) i v
