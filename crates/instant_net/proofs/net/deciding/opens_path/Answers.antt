use Rattle.std.proofs.Common.{length, sym, ap, ◌∙◌, subst}
use Rattle.instant_net.specs.Nets.{IsLinkBelow}
use Rattle.instant_net.specs.Deciding.{is_open}
use Rattle.instant_net.proofs.NetParts.{above_there}
use Rattle.instant_net.proofs.OpenPaths.{open_none, open_stops, open_above}
use Rattle.instant_net.proofs.PathWalks.{place_falls, still_below}
use Rattle.instant_net.proofs.net.deciding.opens_path.Goals as goal

pub passes-requires-clause-guard : goal.passes-requires-clause-guard
passes-requires-clause-guard c = subst (IsLinkBelow (length c.args.net.now.guards)) c.in-Some.is c.loop-next.invariant.there

pub returns-then-not-passes : goal.returns-then-not-passes
returns-then-not-passes c =
    let there = subst (IsLinkBelow (length c.args.net.now.guards)) c.in-Some.is c.loop-next.invariant.there in
    sym (open_stops c.args.net.now c.requires.net c.args.seen.now c.in-Some.guard there c.passes.result c.passes.ensures c.if-not-passes.true)
    ∙ sym (ap (is_open c.args.net.now c.args.seen.now) c.in-Some.is)
    ∙ c.loop-next.invariant.opens

pub above-next-requires : goal.above-next-requires
above-next-requires c = subst (IsLinkBelow (length c.args.net.now.guards)) c.in-Some.is c.loop-next.invariant.there

pub loop-next-smaller : goal.loop-next-smaller
loop-next-smaller c =
    let there = subst (IsLinkBelow (length c.args.net.now.guards)) c.in-Some.is c.loop-next.invariant.there in
    place_falls c.in-Some.guard c.above-next.result c.loop-next.next c.in-Some.is
    (subst (IsLinkBelow c.in-Some.guard) (sym c.above-next.ensures.above) (above_there c.args.net.now c.requires.net c.in-Some.guard there))

pub loop-next-preserved : goal.loop-next-preserved
loop-next-preserved c =
    let there = subst (IsLinkBelow (length c.args.net.now.guards)) c.in-Some.is c.loop-next.invariant.there in
    record {
      opens = ap (is_open c.args.net.now c.args.seen.now) c.above-next.ensures.above
          ∙ sym (open_above c.args.net.now c.requires.net c.args.seen.now c.in-Some.guard there c.passes.result c.passes.ensures c.if-not-passes.false)
          ∙ sym (ap (is_open c.args.net.now c.args.seen.now) c.in-Some.is)
          ∙ c.loop-next.invariant.opens;
      there = still_below (length c.args.net.now.guards) c.in-Some.guard c.above-next.result there
          (subst (IsLinkBelow c.in-Some.guard) (sym c.above-next.ensures.above) (above_there c.args.net.now c.requires.net c.in-Some.guard there));
    }

pub returns : goal.returns
returns c =
    sym (open_none c.args.net.now c.requires.net c.args.seen.now)
    ∙ sym (ap (is_open c.args.net.now c.args.seen.now) c.in_default.is)
    ∙ c.loop-next.invariant.opens
