use Rattle.std.proofs.Common.{◌≡◌, drop}
use Rattle.certificate_text.specs.LocalCells as spec
use Rattle.certificate_text.proofs.local_cell.are_births.Given as goal

abbrev pub invariant-loop-birth : goal.invariant-loop-birth
invariant-loop-birth l = spec.are_births 0 l.instant l.births ≡ spec.are_births l.least l.instant (drop l.birth-index l.births)
