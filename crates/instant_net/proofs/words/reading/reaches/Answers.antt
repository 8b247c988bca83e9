use Rattle.std.proofs.Common.{length, sym, ap, ◌∙◌, subst}
use Rattle.instant_net.specs.Nets.{IsLinkBelow}
use Rattle.instant_net.specs.Words.{store_in}
use Rattle.instant_net.proofs.NetParts.{above_there}
use Rattle.instant_net.proofs.PathWalks.{is_free_of, reaches_free, still_below}
use Rattle.instant_net.proofs.words.reading.reaches.Goals as goal

pub allow_path-requires-clause-there : goal.allow_path-requires-clause-there
allow_path-requires-clause-there c =
    still_below (length c.args.net.now.guards) c.args.guard c.above.result c.requires.guard
    (subst (IsLinkBelow c.args.guard) (sym c.above.ensures.above) (above_there c.args.net.now c.above.ensures.net c.args.guard c.requires.guard))

pub returns : goal.returns
returns c = λ g e.
    c.allow_path.ensures ∙ ap (is_free_of c.args.net.now (store_in c.args.net.now.cells c.args.words.now)) c.above.ensures.above
    ∙ reaches_free c.args.net.now (store_in c.args.net.now.cells c.args.words.now) c.args.guard g e
