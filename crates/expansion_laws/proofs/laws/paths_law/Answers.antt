-- The guards and the clocks hold in the symbolic agent, whose constraints are in scope, and so in the program.
use Rattle.program_lexemes.specs.declared.bytes.TextForm.TheVariants.{Program}
use Rattle.expansion_laws.proofs.CopiedLeaves.{in_scope_there, stemming_leaves, guarded_leaves, clocked_leaves}
use Rattle.expansion_laws.proofs.RunTells.{on_tree}
use Rattle.expansion_laws.proofs.laws.paths_law.Goals as goal

pub returns-clause-stems : goal.returns-clause-stems
returns-clause-stems c = λ s p is made tree forms.
    stemming_leaves s tree p (in_scope_there Program s tree (c.surface_law.ensures s is) forms) (on_tree s tree p made forms)

pub returns-clause-guarded : goal.returns-clause-guarded
returns-clause-guarded c = λ s p made tree forms. guarded_leaves s tree p (on_tree s tree p made forms)

pub returns-clause-clocked : goal.returns-clause-clocked
returns-clause-clocked c = λ s p is made program tree forms.
    clocked_leaves s tree p program (in_scope_there Program s tree (c.surface_law.ensures s is) forms) (on_tree s tree p made forms)
