use Rattle.std.proofs.Common.{◌≡◌, length, ap, ◌∙◌, arith}
use Rattle.instant_net.specs.Nets.{Flat}
use Rattle.instant_net.specs.Words.{signals}
use Rattle.instant_net.proofs.PartOwners.{parts_count}
use Rattle.instant_net.proofs.WordPlaces.{few_signals}
use Rattle.instant_net.proofs.net.Net.parts.Goals as goal

pub overflow_sub-result : goal.overflow_sub-result
overflow_sub-result c =
    let few = few_signals c.self.inside.cells.items in
    let count = c.count_signals-signals.ensures ∙ ap signals c.as_slice.ensures.value in
    let long = c.len.ensures in
    omega (arith, c.self.inside.cells.ok)

pub returns : goal.returns
returns c =
    let few = few_signals c.args.self.now.cells in
    let all = parts_count c.args.self.now.cells in
    let count : c.count_signals-signals.result ≡ signals c.args.self.now.cells = c.count_signals-signals.ensures ∙ ap signals c.as_slice.ensures.value ∙ ap (λ (n : Flat). signals n.cells) c.self.view_is in
    let many : length c.self.inside.cells.items ≡ length c.args.self.now.cells = ap (λ (n : Flat). length n.cells) c.self.view_is in
    let long = c.len.ensures in
    omega (arith, c.self.inside.cells.ok)
