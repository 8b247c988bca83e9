use Rattle.std.proofs.Common.{◌≡◌, ◌<◌, length, sym, ap, ◌∙◌, subst}
use Rattle.instant_net.specs.PartLists.{parts}
use Rattle.instant_net.specs.Seen.{SeenView}
use Rattle.instant_net.specs.Words.{AreWords}
use Rattle.instant_net.proofs.SeenViews.{settle-long, told_words, word_there}
use Rattle.instant_net.proofs.seen.Seen.take.Goals as goal

pub take-requires : goal.take-requires
take-requires c =
    subst (λ (s : SeenView). c.args.word < length s.words) (sym c.self.view_is) (word_there c.args.net.now.cells c.args.self.now.words c.requires.seen.words c.args.word c.requires.word)

pub returns-then-loaded-clause-seen : goal.returns-then-loaded-clause-seen
returns-then-loaded-clause-seen c =
    let are = subst (λ (s : SeenView). AreWords c.args.net.now.cells s.words) (sym c.self.view_is) c.requires.seen.words in
    let long = subst (λ (s : SeenView). length s.settled ≡ parts c.args.net.now.cells) (sym c.self.view_is) c.requires.seen.settled in
    record {
      words = subst (AreWords c.args.net.now.cells) (sym c.take.ensures) (told_words c.args.net.now.cells c.self.inside.words are c.args.word c.args.content c.how.result c.requires.word c.how.ensures);
      settled = ap length c.settle.ensures ∙ settle-long c.args.net.now.cells c.self.inside.known c.args.word c.self.inside.settled.items ∙ long;
    }

pub returns-else-loaded-clause-seen : goal.returns-else-loaded-clause-seen
returns-else-loaded-clause-seen c =
    let are = subst (λ (s : SeenView). AreWords c.args.net.now.cells s.words) (sym c.self.view_is) c.requires.seen.words in
    record {
      words = subst (AreWords c.args.net.now.cells) (sym c.take.ensures) (told_words c.args.net.now.cells c.self.inside.words are c.args.word c.args.content c.how.result c.requires.word c.how.ensures);
      settled = subst (λ (s : SeenView). length s.settled ≡ parts c.args.net.now.cells) (sym c.self.view_is) c.requires.seen.settled;
    }
