-- What was made is the surface's program, so the laws of expansions hold of it.
use Rattle.derived_forms.proofs.expansion.expand.Goals as goal

pub returns-clause-names : goal.returns-clause-names
returns-clause-names c =
    let made = c.in_ok-program.ensures in
    c.expansion_law.ensures.names c.args.surface.now c.in_ok-program.program made.surface made.found made.program.limits.few_nodes made.program.limits.few_cells

pub returns-clause-stems : goal.returns-clause-stems
returns-clause-stems c = let made = c.in_ok-program.ensures in c.paths_law.ensures.stems c.args.surface.now c.in_ok-program.program made.surface made.found

pub returns-clause-guarded : goal.returns-clause-guarded
returns-clause-guarded c = let made = c.in_ok-program.ensures in c.paths_law.ensures.guarded c.args.surface.now c.in_ok-program.program made.found

pub returns-clause-clocked : goal.returns-clause-clocked
returns-clause-clocked c = let made = c.in_ok-program.ensures in c.paths_law.ensures.clocked c.args.surface.now c.in_ok-program.program made.surface made.found made.program
