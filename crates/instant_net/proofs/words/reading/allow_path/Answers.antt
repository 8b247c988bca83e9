use Rattle.std.proofs.Common.{length, sym, ap, ◌∙◌, subst}
use Rattle.instant_net.specs.Nets.{IsLinkBelow}
use Rattle.instant_net.specs.Words.{store_in}
use Rattle.instant_net.proofs.NetParts.{above_there}
use Rattle.instant_net.proofs.PathWalks.{is_free_of, free_stops, free_above, place_falls, still_below}
use Rattle.instant_net.proofs.words.reading.allow_path.Goals as goal

pub allows-requires-clause-guard : goal.allows-requires-clause-guard
allows-requires-clause-guard c = subst (IsLinkBelow (length c.args.net.now.guards)) c.in-Some.is c.loop-next.invariant.there

pub returns-then-not-allows : goal.returns-then-not-allows
returns-then-not-allows c =
    let there = subst (IsLinkBelow (length c.args.net.now.guards)) c.in-Some.is c.loop-next.invariant.there in
    sym (free_stops c.args.net.now c.requires.net (store_in c.args.net.now.cells c.args.words.now) c.in-Some.guard there c.allows.result c.allows.ensures c.if-not-allows.true)
    ∙ sym (ap (is_free_of c.args.net.now (store_in c.args.net.now.cells c.args.words.now)) c.in-Some.is)
    ∙ c.loop-next.invariant.free

pub above-next-requires : goal.above-next-requires
above-next-requires c = subst (IsLinkBelow (length c.args.net.now.guards)) c.in-Some.is c.loop-next.invariant.there

pub loop-next-smaller : goal.loop-next-smaller
loop-next-smaller c =
    let there = subst (IsLinkBelow (length c.args.net.now.guards)) c.in-Some.is c.loop-next.invariant.there in
    place_falls c.in-Some.guard c.above-next.result c.loop-next.next c.in-Some.is
    (subst (IsLinkBelow c.in-Some.guard) (sym c.above-next.ensures.above) (above_there c.args.net.now c.requires.net c.in-Some.guard there))

pub loop-next-preserved : goal.loop-next-preserved
loop-next-preserved c =
    let there = subst (IsLinkBelow (length c.args.net.now.guards)) c.in-Some.is c.loop-next.invariant.there in
    record {
      free = ap (is_free_of c.args.net.now (store_in c.args.net.now.cells c.args.words.now)) c.above-next.ensures.above
          ∙ sym (free_above c.args.net.now c.requires.net (store_in c.args.net.now.cells c.args.words.now) c.in-Some.guard there c.allows.result c.allows.ensures c.if-not-allows.false)
          ∙ sym (ap (is_free_of c.args.net.now (store_in c.args.net.now.cells c.args.words.now)) c.in-Some.is)
          ∙ c.loop-next.invariant.free;
      there = still_below (length c.args.net.now.guards) c.in-Some.guard c.above-next.result there
          (subst (IsLinkBelow c.in-Some.guard) (sym c.above-next.ensures.above) (above_there c.args.net.now c.requires.net c.in-Some.guard there));
    }

pub returns : goal.returns
returns c =
    sym (ap (is_free_of c.args.net.now (store_in c.args.net.now.cells c.args.words.now)) c.in_default.is)
    ∙ c.loop-next.invariant.free
