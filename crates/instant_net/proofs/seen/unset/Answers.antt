use Rattle.std.proofs.Common.{◌≡◌, false, ap, ◌∙◌, arith}
use Rattle.std.specs.Prelude.{replicate}
use Rattle.instant_net.proofs.seen.unset.Goals as goal

pub returns : goal.returns
returns c =
    let past = c.loop-flag-test.false in
    let within = c.loop-flag.auto._flag-end in
    let all : c.loop-flag._flag ≡ c.args.count = omega arith in
    c.loop-flag.invariant ∙ ap (λ n. replicate n false) all
