use Rattle.instant_net.proofs.PartTells.{part_same, part_other, part_lub}
use Rattle.instant_net.proofs.WordPlaces.{value_by_parts}
use Rattle.instant_net.proofs.laws.parts_law.Goals as goal

pub returns-clause-same : goal.returns-clause-same
returns-clause-same c = λ s q bits how words. part_same s q how bits words

pub returns-clause-others : goal.returns-clause-others
returns-clause-others c = λ s q r bits how words fits there. part_other s q how bits words fits there r

pub returns-clause-lubs : goal.returns-clause-lubs
returns-clause-lubs c = λ s q u w how. part_lub s q how u w

pub returns-clause-values : goal.returns-clause-values
returns-clause-values c = λ net words k x is at. value_by_parts net.cells is.of.cells.laid_out words k x at
