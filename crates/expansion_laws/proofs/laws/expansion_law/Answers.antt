use Rattle.expansion_laws.proofs.WholePrograms.{some_expansion, one_expansion, expansion_program, expansion_names}
use Rattle.expansion_laws.proofs.laws.expansion_law.Goals as goal

pub returns-clause-some : goal.returns-clause-some
returns-clause-some c = λ s surface. some_expansion s (c.surface_law.ensures s surface)

pub returns-clause-one : goal.returns-clause-one
returns-clause-one c = one_expansion

pub returns-clause-program : goal.returns-clause-program
returns-clause-program c = λ s p surface (d, symbolic, made) few_nodes few_cells. expansion_program s (c.surface_law.ensures s surface) d p made few_nodes few_cells symbolic

pub returns-clause-names : goal.returns-clause-names
returns-clause-names c = λ s p surface (d, symbolic, made) few_nodes few_cells. expansion_names s (c.surface_law.ensures s surface) d p made few_nodes few_cells symbolic
