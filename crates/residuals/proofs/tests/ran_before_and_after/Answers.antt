use Rattle.std.proofs.Common.{◌≡◌, [], Some, None, refl, sym, subst, ◌∙◌}
use Rattle.std.specs.FinMap.{get-empty}
use Rattle.token_system.specs.Names.{name_cmp}
use Rattle.instant_net.specs.Outputs.{IsStoreOf}
use Rattle.residuals.proofs.tests.ran_before_and_after.Goals as goal

pub net_at-requires-clause-roots : goal.net_at-requires-clause-roots
net_at-requires-clause-roots c = ([], refl, c.in_ok-roots.ensures.roots c.args.program.now)

pub open_words-requires : goal.open_words-requires
open_words-requires c =
    subst (IsStoreOf c.in_ok-net.net.cells) (sym c.new.ensures) (λ n v e. absurd (let f : None ≡ Some v = sym (get-empty name_cmp n) ∙ e in cc))
