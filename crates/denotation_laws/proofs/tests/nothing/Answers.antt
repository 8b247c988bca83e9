use Rattle.std.proofs.Common.{◌≡◌, Some, None, sym, ◌∙◌, subst}
use Rattle.std.specs.FinMap.{get-empty}
use Rattle.token_system.specs.Names.{name_cmp}
use Rattle.agent_core.specs.Stores.{IsInput}
use Rattle.agent_core.proofs.Tellings.{empty-IsStore}
use Rattle.denotation_laws.proofs.tests.nothing.Goals as goal

pub returns : goal.returns
returns c =
    subst (IsInput c.args.program.now) (sym c.new.ensures)
    (record { store = empty-IsStore c.args.program.now; declared = λ n v e. absurd (let f : None ≡ Some v = sym (get-empty name_cmp n) ∙ e in cc) })
