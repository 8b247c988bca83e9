use Rattle.std.proofs.Common.{◌&&◌, ap, arith}
use Rattle.instant_net.specs.Seen.{is_set}
use Rattle.instant_net.proofs.SeenFlags.{all-between, set-all}
use Rattle.instant_net.proofs.seen.join.Goals as goal

pub returns : goal.returns
returns c =
    let past = c.loop-place-test.false in
    let long = c.requires in
    set-all (is_set c.args.others.now) (is_set c.args.others.now) 0 c.loop-place.place c.args.flags.now.items c.loop-place.flags.items c.loop-place.invariant
    (λ q h. ap (λ b. b && is_set c.args.others.now q) (all-between c.loop-place.place q (omega arith)))
