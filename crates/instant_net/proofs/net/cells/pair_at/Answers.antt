use Rattle.std.proofs.Common.{◌*◌, ◌^◌, ◌≡◌, ◌%◌, ap, ◌∙◌, arith}
use Rattle.instant_net.specs.WordParts.{pair_at}
use Rattle.instant_net.proofs.PartTells.{pair_small}
use Rattle.instant_net.proofs.net.cells.pair_at.Goals as goal

pub returns : goal.returns
returns c =
    let small = pair_small c.args.signal c.args.bits c.requires in
    ap (λ p. c.args.bits * 2 ^ p % 18446744073709551616) c.place_in.ensures ∙ (let e : pair_at c.args.signal c.args.bits % 18446744073709551616 ≡ pair_at c.args.signal c.args.bits = omega arith in e)
