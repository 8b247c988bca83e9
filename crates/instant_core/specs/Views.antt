-- What one worker knows of an instant. This project's own.
use Rattle.std.specs.Prelude.{ℕ, Bool, List, Option}
use Rattle.instant_net.specs.Seen.{SeenView}
use Rattle.instant_core.specs.declared.hand.Hand.{Hand}
use Rattle.instant_core.specs.Notes.{Notes}

pub record Knows : Type 0 where
  pub live : Bool
  pub number : ℕ
  -- the numbers that it may hand on
  pub spare : List ℕ
  pub seen : SeenView
  -- the pairs of a worker's number and a leaf that were announced, and those of them whose leaf was not claimed before
  pub announced : List (ℕ × ℕ)
  pub won : List (ℕ × ℕ)
  pub hand : Hand
  pub mark : Option Notes
