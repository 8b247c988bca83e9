use Rattle.std.proofs.Common.{◌≡◌, drop}
use Rattle.instant_net.specs.Words.{AreWords, tell_atoms}
use Rattle.instant_net.proofs.words.tell.Given as goal

abbrev pub invariant-loop-atom : goal.invariant-loop-atom
invariant-loop-atom l = record {
  told : tell_atoms l.net.cells (drop l.atom-index l.atom-items) l.words ≡ tell_atoms l.net.cells l.atom-items l.fn.words;
  words : AreWords l.net.cells l.words;
}
