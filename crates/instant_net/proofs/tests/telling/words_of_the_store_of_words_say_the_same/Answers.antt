use Rattle.std.proofs.Common.{sym, subst}
use Rattle.instant_net.specs.Outputs.{IsStoreOf}
use Rattle.instant_net.proofs.WordStores.{words-store}
use Rattle.instant_net.proofs.tests.telling.words_of_the_store_of_words_say_the_same.Goals as goal

pub open_words-requires : goal.open_words-requires
open_words-requires g c = subst (IsStoreOf c.in_ok-net.net.cells) (sym c.in_ok-store.ensures) (words-store c.in_ok-net.net c.leaves.ensures.net _ c.tell-2.ensures.words)
