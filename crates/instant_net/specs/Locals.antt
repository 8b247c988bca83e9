-- Where a program makes its local cells: at its new nodes, one for each cell. This project's own.
use Rattle.std.specs.Prelude.{◌≡◌, ℕ, suc, ◌+◌, ◌<◌, List, [], ◌∷◌, ◌++◌, length, Some, slice_get}
use Rattle.agent_core.specs.Agents.{Agent, Skip, Tell, Then, Else, Par, New, Hence, Next}
use Rattle.agent_core.specs.Listing.{size}
use Rattle.agent_core.specs.Names.{depth_of, new_of}
use Rattle.agent_core.specs.Programs.{CoreProgram}
use Rattle.instant_net.specs.declared.locals.Local.{Local}

-- the new nodes of an agent whose root has number n and stands below d others, in preorder
abbrev pub news_of : ℕ → ℕ → Agent → List Local
news_of n d Skip = []
news_of n d (Tell told) = []
news_of n d (Then ask a) = news_of (suc n) d a
news_of n d (Else ask a) = news_of (suc n) d a
news_of n d (Par a b) = news_of (suc n) d a ++ news_of (suc n + size a) d b
news_of n d (New cell a) = record { cell = cell; node = n; births = suc d } ∷ news_of (suc n) (suc d) a
news_of n d (Hence a) = news_of (suc n) d a
news_of n d (Next a) = news_of (suc n) d a

-- the cell has this new node, and its names the births of that node and of the new nodes around it
pub record IsLocalOf (p : CoreProgram) (cell : ℕ) (l : Local) : Type 0 where
  pub node : l.node ≡ new_of p.nodes cell
  pub births : l.births ≡ suc (depth_of p.nodes l.node)

-- these are the local cells of the program, in order
pub record AreLocalsOf (p : CoreProgram) (locals : List Local) : Type 0 where
  pub each : (k : ℕ) → p.declared + k < length p.cells → (l : Local) × (slice_get locals k ≡ Some l) × IsLocalOf p (p.declared + k) l
