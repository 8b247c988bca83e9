use Rattle.std.proofs.Common.{◌≡◌, ◌++◌, take}
use Rattle.std.specs.Prelude.{replicate}
use Rattle.instant_net.specs.WordParts.{signal_words}
use Rattle.instant_net.specs.Words.{signals}
use Rattle.instant_net.proofs.WordPlaces.{other_empty}
use Rattle.instant_net.proofs.words.stores.untold.Given as goal

abbrev pub invariant-loop-place : goal.invariant-loop-place
invariant-loop-place l = l.list.items ≡ replicate (signal_words (signals l.net.cells)) 0 ++ other_empty (take l.place l.net.cells)
