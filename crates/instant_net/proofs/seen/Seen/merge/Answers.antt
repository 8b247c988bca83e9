use Rattle.std.proofs.Common.{◌≡◌, length, sym, ap, ◌∙◌, subst}
use Rattle.instant_net.specs.PartLists.{parts}
use Rattle.instant_net.specs.Seen.{SeenView}
use Rattle.instant_net.proofs.SeenViews.{join-long}
use Rattle.instant_net.proofs.seen.Seen.merge.Goals as goal

pub returns-clause-seen : goal.returns-clause-seen
returns-clause-seen c = record {
  words = c.join.ensures.words;
  settled = ap length c.join-2.ensures ∙ join-long c.self.inside.settled.items c.as_slice.result.now
      ∙ subst (λ (s : SeenView). length s.settled ≡ parts c.args.net.now.cells) (sym c.self.view_is) c.requires.seen.settled;
}
