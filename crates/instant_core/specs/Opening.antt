-- What an instant is opened on, and with. This project's own.
use Rattle.std.specs.Prelude.{◌≡◌, ℕ, ◌+◌, ◌/◌, ◌<◌, ◌≤◌, true, List, [], length, slice_index, None}
use Rattle.instant_net.specs.Nets.{Flat}
use Rattle.instant_net.specs.Seen as seen
use Rattle.instant_net.specs.Words.{AreWords}
use Rattle.instant_core.specs.Net.{width}
use Rattle.instant_core.specs.declared.hand.Hand.TheVariants.{Empty}
use Rattle.instant_core.specs.Lists.{count_up}
use Rattle.instant_core.specs.Views.{Knows}

-- the first view: its number is 0, and it may hand on 1 to 63
abbrev pub first_view : Flat → Knows
first_view net = record { live = true; number = 0; spare = count_up 1 63; seen = seen.opened net; announced = []; won = []; hand = Empty; mark = None }

-- the words that an instant may be opened on: beside the store words they are 0
pub record OpensOn (net : Flat) (input words : List ℕ) : Type 0 where
  pub input_are : AreWords net.cells input
  pub same : (i : ℕ) → i < width net → slice_index words i ≡ slice_index input i
  pub wide : width net + 2 + length net.leaves / 64 < length words
  pub zeros : (i : ℕ) → width net ≤ i → slice_index words i ≡ 0
