use Rattle.std.proofs.Common.{◌≡◌, true, take}
use Rattle.std.specs.List.{list_all}
use Rattle.instant_net.specs.Seen.{is_settled}
use Rattle.instant_net.proofs.net.deciding.is_ask_settled.Given as goal

abbrev pub invariant-loop-atom : goal.invariant-loop-atom
invariant-loop-atom l = list_all (is_settled l.net.cells l.seen) (take l.atom-index l.atom-items) ≡ true
