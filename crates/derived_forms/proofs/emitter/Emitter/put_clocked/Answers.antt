use Rattle.std.proofs.Common.{◌+◌, ◌∷◌, ◌++◌, List, length, ap, sym, ◌∙◌, arith}
use Rattle.std.specs.Prelude.{◌≢◌}
use Rattle.std.proofs.lemmas.Result.{IfOk-equal}
use Rattle.expansion_laws.specs.SymbolicAgents.{symbolic_size}
use Rattle.expansion_laws.specs.Table.{clocked}
use Rattle.derived_forms.specs.declared.flat_node.FlatNode.{FlatNode}
use Rattle.derived_forms.specs.declared.flat_node.FlatNode.TheVariants as flat_node
use Rattle.derived_forms.specs.Emitters.{emitted_nodes}
use Rattle.derived_forms.specs.FlatNodes.{first_flat_node, flat_nodes}
use Rattle.derived_forms.proofs.Faults.{handed_on, still_too_large}
use Rattle.derived_forms.proofs.Clocked.{clocked_other, other_fits, hence_fits, next_fits}
use Rattle.derived_forms.proofs.emitter.Emitter.put_clocked.Goals as goal

pub returns-in_err-add-in-Hence-clause-fault : goal.returns-in_err-add-in-Hence-clause-fault
returns-in_err-add-in-Hence-clause-fault c = λ d rest f e.
    let fits = hence_fits c.args.binder c.args.ask.now d (emitted_nodes c.args.self.now) rest (sym c.in-Hence.is ∙ f) e in
    handed_on c.from_residual-in_err-add-in-Hence.result c.in_err-add-in-Hence.field-0.0 (length (emitted_nodes c.args.self.now) + 1) (symbolic_size (clocked c.args.binder c.args.ask.now d) + length rest)
    c.from_residual-in_err-add-in-Hence.ensures.1 (omega arith) c.in_err-add-in-Hence.ensures.fault

pub returns-in_ok-when-in-Next-clause-fault : goal.returns-in_ok-when-in-Next-clause-fault
returns-in_ok-when-in-Next-clause-fault c = λ d rest f e.
    let fits = next_fits c.args.binder c.args.ask.now d (emitted_nodes c.args.self.now) (emitted_nodes c.when.new.self) rest (sym c.in-Next.is ∙ f) e c.in_ok-when-in-Next.ensures.emitted in
    still_too_large c.add.result (length (emitted_nodes c.when.new.self) + 1) (symbolic_size (clocked c.args.binder c.args.ask.now d) + length rest) fits c.add.ensures.fault

pub returns-in_ok-add-in-Hence-clause-fault : goal.returns-in_ok-add-in-Hence-clause-fault
returns-in_ok-add-in-Hence-clause-fault c = λ d rest f e.
    let fits = hence_fits c.args.binder c.args.ask.now d (emitted_nodes c.args.self.now) rest (sym c.in-Hence.is ∙ f) e in
    let added = ap length c.in_ok-add-in-Hence.ensures.added in
    still_too_large c.add-in-Hence-2.result (length (emitted_nodes c.add-in-Hence.new.self) + 1) (symbolic_size (clocked c.args.binder c.args.ask.now d) + length rest) (omega arith) c.add-in-Hence-2.ensures.fault

pub returns-in_default-clause-emitted : goal.returns-in_default-clause-emitted
returns-in_default-clause-emitted c = λ d rest f e.
    let not_hence : first_flat_node d ≢ flat_node.Hence = λ h. c.in_default.not-Hence (f ∙ h) in
    let not_next : first_flat_node d ≢ flat_node.Next = λ h. c.in_default.not-Next (f ∙ h) in
    IfOk-equal c.add-in_default.result (emitted_nodes c.add-in_default.new.self) (c.args.flat_node ∷ emitted_nodes c.args.self.now) (flat_nodes (clocked c.args.binder c.args.ask.now d) ++ rest) c.add-in_default.ensures.added
    (ap (λ (p : FlatNode). p ∷ emitted_nodes c.args.self.now) f
    ∙ ap (λ (l : List FlatNode). first_flat_node d ∷ l) e
    ∙ ap (λ (l : List FlatNode). l ++ rest) (sym (clocked_other c.args.binder c.args.ask.now d not_hence not_next)))

pub returns-in_default-clause-fault : goal.returns-in_default-clause-fault
returns-in_default-clause-fault c = λ d rest f e.
    let not_hence : first_flat_node d ≢ flat_node.Hence = λ h. c.in_default.not-Hence (f ∙ h) in
    let not_next : first_flat_node d ≢ flat_node.Next = λ h. c.in_default.not-Next (f ∙ h) in
    still_too_large c.add-in_default.result (length (emitted_nodes c.args.self.now) + 1) (symbolic_size (clocked c.args.binder c.args.ask.now d) + length rest)
    (other_fits c.args.binder c.args.ask.now d (emitted_nodes c.args.self.now) rest not_hence not_next e) c.add-in_default.ensures.fault
