use Rattle.std.proofs.Common.{length, sym, ap, ◌∙◌, subst}
use Rattle.instant_net.specs.Nets.{IsLinkBelow}
use Rattle.instant_net.specs.NamedLeaves.{allowed}
use Rattle.instant_net.specs.Readers.{is_else_of}
use Rattle.std.specs.Prelude.{slice_get}
use Rattle.instant_net.specs.Words.{store_in}
use Rattle.instant_net.proofs.NetParts.{above_there}
use Rattle.instant_net.proofs.PathWalks.{is_free_of, free_stops, free_above, runs_free, still_below}
use Rattle.settle.proofs.looking.is_free.Goals as goal

pub returns-then-not-is_allowed : goal.returns-then-not-is_allowed
returns-then-not-is_allowed c words l noted at =
    let there = subst (IsLinkBelow (length c.args.net.now.guards)) c.in-Some.is c.loop-next.invariant.there in
    sym (free_stops c.args.net.now c.last_guard-next.ensures.net (store_in c.args.net.now.cells words) c.in-Some.guard there c.is_allowed.result
    (c.is_allowed.ensures ∙ ap (allowed (is_else_of (slice_get c.args.net.now.guards c.in-Some.guard))) (noted.held c.in-Some.guard there)) c.if-not-is_allowed.true)
    ∙ sym (ap (is_free_of c.args.net.now (store_in c.args.net.now.cells words)) c.in-Some.is)
    ∙ c.loop-next.invariant.free words noted
    ∙ runs_free c.args.net.now (store_in c.args.net.now.cells words) c.args.leaf l at

pub loop-next-preserved : goal.loop-next-preserved
loop-next-preserved c =
    let there = subst (IsLinkBelow (length c.args.net.now.guards)) c.in-Some.is c.loop-next.invariant.there in
    record {
      free = λ words noted.
          ap (is_free_of c.args.net.now (store_in c.args.net.now.cells words)) c.above-next.ensures.above
          ∙ sym (free_above c.args.net.now c.last_guard-next.ensures.net (store_in c.args.net.now.cells words) c.in-Some.guard there c.is_allowed.result
          (c.is_allowed.ensures ∙ ap (allowed (is_else_of (slice_get c.args.net.now.guards c.in-Some.guard))) (noted.held c.in-Some.guard there)) c.if-not-is_allowed.false)
          ∙ sym (ap (is_free_of c.args.net.now (store_in c.args.net.now.cells words)) c.in-Some.is)
          ∙ c.loop-next.invariant.free words noted;
      there = still_below (length c.args.net.now.guards) c.in-Some.guard c.above-next.result there
          (subst (IsLinkBelow c.in-Some.guard) (sym c.above-next.ensures.above) (above_there c.args.net.now c.last_guard-next.ensures.net c.in-Some.guard there));
    }
