-- What is noted of the asks of a net while its words rise. This project's own.
use Rattle.std.specs.Prelude.{◌≡◌, ◌⊎◌, ℕ, ◌+◌, ◌*◌, ◌<◌, ◌≤◌, Bool, List, All, Contains, IsTrue, length, slice_get}
use Rattle.instant_net.specs.NamedLeaves.{named_entails}
use Rattle.instant_net.specs.Nets.{Flat, named_atoms}
use Rattle.instant_net.specs.Readers.{guard_ask_of}
use Rattle.instant_net.specs.Words.{store_in}
use Rattle.parked_asks.specs.Held.{Held, is_noted, unheld}

-- the words entail the ask of this guard
abbrev pub is_held : Flat → List ℕ → ℕ → Bool
is_held net words g = named_entails (store_in net.cells words) (named_atoms net.cells (guard_ask_of (slice_get net.guards g)))

-- these are guards of the net
abbrev pub AreGuards : Flat → List ℕ → Type 0
AreGuards net gs = All (λ g. g < length net.guards) gs

-- of each guard it is noted whether the words entail its ask
pub record AreNoted (net : Flat) (words : List ℕ) (asks : Held) : Type 0 where
  pub long : length asks.held ≡ length net.guards
  pub held : (g : ℕ) → g < length net.guards → is_noted asks.held g ≡ is_held net words g
  pub due : AreGuards net asks.due

-- an ask that is not noted to hold may have to be noted and looked below, one that is due looked below
abbrev pub work_left : Held → ℕ
work_left asks = 2 * unheld asks.held + length asks.due

-- more asks are noted to hold, each of which the words entail and is due now; nothing was forgotten
pub record NotesMore (net : Flat) (words : List ℕ) (before after : Held) : Type 0 where
  pub long : length after.held ≡ length before.held
  pub kept : (g : ℕ) → IsTrue (is_noted before.held g) → IsTrue (is_noted after.held g)
  pub more : (g : ℕ) → IsTrue (is_noted after.held g) → IsTrue (is_noted before.held g) ⊎ (IsTrue (is_held net words g) × Contains after.due g)
  pub due : (g : ℕ) → Contains before.due g → Contains after.due g
  pub guards : AreGuards net before.due → AreGuards net after.due
  pub work : work_left after ≤ work_left before
