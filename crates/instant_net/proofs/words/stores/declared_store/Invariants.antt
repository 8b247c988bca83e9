use Rattle.std.proofs.Common.{◌≡◌, take}
use Rattle.instant_net.specs.Words.{store_in}
use Rattle.instant_net.proofs.words.stores.declared_store.Given as goal

abbrev pub invariant-loop-place : goal.invariant-loop-place
invariant-loop-place l = l.store ≡ store_in (take l.place l.net.cells) l.words
