-- The lines of steps: the worker's number, what it does, and to what, with one space between each two. A number has one to nine digits. This project's own.
use Rattle.std.specs.Prelude.{◌≡◌, ℕ, Bool, ◌==◌, List, [], ◌∷◌, codes, Some}
use Rattle.std.specs.List.{slice_split}
use Rattle.names_and_numbers.specs.Numbers.{natural_of_text}
use Rattle.agent_core.specs.Programs.{CoreProgram}
use Rattle.instant_net.specs.Nets.{Flat}
use Rattle.instant_core.specs.declared.step.CoreStep.{CoreStep}
use Rattle.instant_core.specs.declared.step.CoreStep.TheVariants.{Load, Seek, Announce, Claim, Post, Finish, Count, Phase, Raise, Split, Join}
use Rattle.step_lines.specs.WordNames.{NamesWord}

-- who takes the step
abbrev pub worker_of : CoreStep → ℕ
worker_of (Load worker word) = worker
worker_of (Seek worker leaf) = worker
worker_of (Announce worker leaf) = worker
worker_of (Claim worker leaf) = worker
worker_of (Post worker) = worker
worker_of (Finish worker) = worker
worker_of (Count worker) = worker
worker_of (Phase worker) = worker
worker_of (Raise worker phase) = worker
worker_of (Split worker other) = worker
worker_of (Join worker other) = worker

-- what it does, as it is written
abbrev pub action_of : CoreStep → List ℕ
action_of (Load worker word) = codes "load"
action_of (Seek worker leaf) = codes "seek"
action_of (Announce worker leaf) = codes "announce"
action_of (Claim worker leaf) = codes "claim"
action_of (Post worker) = codes "post"
action_of (Finish worker) = codes "finish"
action_of (Count worker) = codes "count"
action_of (Phase worker) = codes "phase"
action_of (Raise worker phase) = codes "raise"
action_of (Split worker other) = codes "split"
action_of (Join worker other) = codes "join"

-- what a step is done to: nothing that is written, a number, or a word of the instant
pub data Object : Type 0 where
  Nothing : Object
  Numbered : ℕ → Object
  Word : ℕ → Object

-- to what it does that
abbrev pub object_of : CoreStep → Object
object_of (Load worker word) = Word word
object_of (Seek worker leaf) = Numbered leaf
object_of (Announce worker leaf) = Numbered leaf
object_of (Claim worker leaf) = Numbered leaf
object_of (Post worker) = Nothing
object_of (Finish worker) = Nothing
object_of (Count worker) = Nothing
object_of (Phase worker) = Nothing
object_of (Raise worker phase) = Numbered phase
object_of (Split worker other) = Numbered other
object_of (Join worker other) = Numbered other

-- these parts of a line say the object
abbrev pub SaysObject : CoreProgram → Flat → List (List ℕ) → Object → Type 0
SaysObject p net parts Nothing = parts ≡ []
SaysObject p net parts (Numbered n) = (text : List ℕ) × (parts ≡ text ∷ []) × (natural_of_text text ≡ Some n)
SaysObject p net parts (Word word) = (text : List ℕ) × (parts ≡ text ∷ []) × NamesWord p net.cells text word

-- the parts of a line are the worker's number, the action and its object
pub record SaysStep (p : CoreProgram) (net : Flat) (parts : List (List ℕ)) (step : CoreStep) : Type 0 where
  pub number : List ℕ
  pub behind : List (List ℕ)
  pub all : parts ≡ number ∷ action_of step ∷ behind
  pub worker : natural_of_text number ≡ Some (worker_of step)
  pub object : SaysObject p net behind (object_of step)

-- a space
abbrev pub is_space : ℕ → Bool
is_space b = b == 32

-- the line says the step
abbrev pub IsStepLine : CoreProgram → Flat → List ℕ → CoreStep → Type 0
IsStepLine p net line step = SaysStep p net (slice_split is_space line) step

-- the step is the worker's, with this action and the object that these parts say
pub record IsStepWith (p : CoreProgram) (net : Flat) (worker : ℕ) (action : List ℕ) (behind : List (List ℕ)) (step : CoreStep) : Type 0 where
  pub who : worker_of step ≡ worker
  pub does : action_of step ≡ action
  pub what : SaysObject p net behind (object_of step)

-- the step is the worker's, with this action and object
pub record IsStepOf (worker : ℕ) (action : List ℕ) (object : Object) (step : CoreStep) : Type 0 where
  pub who : worker_of step ≡ worker
  pub does : action_of step ≡ action
  pub what : object_of step ≡ object
