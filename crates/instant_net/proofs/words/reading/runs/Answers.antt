use Rattle.std.proofs.Common.{length, sym, ap, ◌∙◌, subst}
use Rattle.instant_net.specs.Nets.{IsLinkBelow}
use Rattle.instant_net.specs.Words.{store_in}
use Rattle.instant_net.proofs.NetParts.{last_there}
use Rattle.instant_net.proofs.PathWalks.{is_free_of, runs_free}
use Rattle.instant_net.proofs.words.reading.runs.Goals as goal

pub allow_path-requires-clause-there : goal.allow_path-requires-clause-there
allow_path-requires-clause-there c = subst (IsLinkBelow (length c.args.net.now.guards)) (sym c.last_guard.ensures.last) (last_there c.args.net.now c.last_guard.ensures.net c.args.leaf)

pub returns : goal.returns
returns c = λ l e.
    c.allow_path.ensures ∙ ap (is_free_of c.args.net.now (store_in c.args.net.now.cells c.args.words.now)) c.last_guard.ensures.last
    ∙ runs_free c.args.net.now (store_in c.args.net.now.cells c.args.words.now) c.args.leaf l e
