use Rattle.instant_net.specs.Words.{hows, AreWords}
use Rattle.instant_net.proofs.JoinedWords.{AreJoinedBelow}
use Rattle.instant_net.proofs.words.Words.join.Given as goal

abbrev pub invariant-loop-word : goal.invariant-loop-word
invariant-loop-word l = record {
  joined : AreJoinedBelow (hows l.net.cells) l.word l.fn.self l.others l.self;
  words : AreWords l.net.cells l.self;
}
