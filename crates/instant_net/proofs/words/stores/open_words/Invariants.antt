use Rattle.std.proofs.Common.{◌≡◌, drop}
use Rattle.instant_net.specs.Words.{store_words, tell_store, AreWords}
use Rattle.instant_net.proofs.words.stores.open_words.Given as goal

abbrev pub invariant-loop-place : goal.invariant-loop-place
invariant-loop-place l = record {
  told : tell_store l.input (drop l.place l.net.cells) l.words ≡ store_words l.net.cells l.input;
  words : AreWords l.net.cells l.words;
}
