use Rattle.std.proofs.Common.{sym, subst}
use Rattle.instant_net.specs.Outputs.{IsStoreOf}
use Rattle.instant_net.proofs.WordStores.{words-store}
use Rattle.instant_net.proofs.tests.packing.reopened.Goals as goal

pub open_words-requires : goal.open_words-requires
open_words-requires c = subst (IsStoreOf c.args.net.now.cells) (sym c.in_ok-store.ensures) (words-store c.args.net.now c.requires.net _ c.requires.words)
