use Rattle.std.proofs.Common.{◌+◌, length}
use Rattle.expansion_laws.specs.Expanding.{symbolic_of}
use Rattle.expansion_laws.specs.SymbolicAgents.{symbolic_size}
use Rattle.derived_forms.specs.Emitters.{emitted_nodes}
use Rattle.derived_forms.proofs.Faults.{still_too_large}
use Rattle.derived_forms.proofs.EmittedForms.{form_fits}
use Rattle.derived_forms.proofs.emitting.put_form.Goals as goal

pub returns-in_ok-constraint_copy-in-Then-clause-fault : goal.returns-in_ok-constraint_copy-in-Then-clause-fault
returns-in_ok-constraint_copy-in-Then-clause-fault c = λ t rest f e.
    still_too_large c.add-in-Then.result (length (emitted_nodes c.args.emitter.now) + 1) (symbolic_size (symbolic_of c.args.cells c.args.number t) + length rest)
    (form_fits c.args.cells c.args.number t (emitted_nodes c.args.emitter.now) rest e) c.add-in-Then.ensures.fault

pub returns-in_ok-constraint_copy-in-Else-clause-fault : goal.returns-in_ok-constraint_copy-in-Else-clause-fault
returns-in_ok-constraint_copy-in-Else-clause-fault c = λ t rest f e.
    still_too_large c.add-in-Else.result (length (emitted_nodes c.args.emitter.now) + 1) (symbolic_size (symbolic_of c.args.cells c.args.number t) + length rest)
    (form_fits c.args.cells c.args.number t (emitted_nodes c.args.emitter.now) rest e) c.add-in-Else.ensures.fault

pub returns-in-Par-clause-fault : goal.returns-in-Par-clause-fault
returns-in-Par-clause-fault c = λ t rest f e.
    still_too_large c.add-in-Par.result (length (emitted_nodes c.args.emitter.now) + 1) (symbolic_size (symbolic_of c.args.cells c.args.number t) + length rest)
    (form_fits c.args.cells c.args.number t (emitted_nodes c.args.emitter.now) rest e) c.add-in-Par.ensures.fault

pub returns-in-New-clause-fault : goal.returns-in-New-clause-fault
returns-in-New-clause-fault c = λ t rest f e.
    still_too_large c.add-in-New.result (length (emitted_nodes c.args.emitter.now) + 1) (symbolic_size (symbolic_of c.args.cells c.args.number t) + length rest)
    (form_fits c.args.cells c.args.number t (emitted_nodes c.args.emitter.now) rest e) c.add-in-New.ensures.fault

pub returns-in-Hence-clause-fault : goal.returns-in-Hence-clause-fault
returns-in-Hence-clause-fault c = λ t rest f e.
    still_too_large c.add-in-Hence.result (length (emitted_nodes c.args.emitter.now) + 1) (symbolic_size (symbolic_of c.args.cells c.args.number t) + length rest)
    (form_fits c.args.cells c.args.number t (emitted_nodes c.args.emitter.now) rest e) c.add-in-Hence.ensures.fault

pub returns-in-Next-clause-fault : goal.returns-in-Next-clause-fault
returns-in-Next-clause-fault c = λ t rest f e.
    still_too_large c.add-in-Next.result (length (emitted_nodes c.args.emitter.now) + 1) (symbolic_size (symbolic_of c.args.cells c.args.number t) + length rest)
    (form_fits c.args.cells c.args.number t (emitted_nodes c.args.emitter.now) rest e) c.add-in-Next.ensures.fault
