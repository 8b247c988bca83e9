use Rattle.std.proofs.Common.{◌≡◌, ◌&&◌, sym, ap, ◌∙◌, arith}
use Rattle.std.specs.Prelude.{nat_lt}
use Rattle.instant_net.specs.PartLists.{part_stratum}
use Rattle.instant_net.specs.Seen.{rests_in_word}
use Rattle.instant_net.proofs.SeenFlags.{is_between, set-all}
use Rattle.instant_net.proofs.seen.taking.settle.Goals as goal

pub returns : goal.returns
returns c =
    let past = c.loop-part-test.false in
    let order = c.parts_in-first.ensures.order in
    let within = c.loop-part.auto.part-end order in
    let end : c.loop-part.part ≡ c.parts_in-first.result.1 = omega arith in
    set-all (λ q. nat_lt (part_stratum c.args.net.now.cells q) c.args.phase) (rests_in_word c.args.net.now.cells c.args.phase c.args.word) c.parts_in-first.result.0 c.loop-part.part c.args.settled.now.items c.loop-part.settled.items c.loop-part.invariant
    (λ q h.
    let there = c.requires.settled in
    ap (λ n. is_between c.parts_in-first.result.0 n q && nat_lt (part_stratum c.args.net.now.cells q) c.args.phase) end
    ∙ sym (ap (λ b. b && nat_lt (part_stratum c.args.net.now.cells q) c.args.phase) (c.parts_in-first.ensures.in_word q (omega arith))))
