use Rattle.expansion_laws.proofs.WholePrograms.{one_symbolic, nodes_many, cells_many}
use Rattle.expansion_laws.proofs.laws.sizes_law.Goals as goal

pub returns-clause-nodes : goal.returns-clause-nodes
returns-clause-nodes c = nodes_many

pub returns-clause-cells : goal.returns-clause-cells
returns-clause-cells c = λ s d p surface made. cells_many s d p (c.surface_law.ensures s surface) made

pub returns-clause-one : goal.returns-clause-one
returns-clause-one c = one_symbolic
