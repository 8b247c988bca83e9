use Rattle.std.proofs.Common.{◌≡◌, Some, None, sym, subst, ◌∙◌}
use Rattle.std.specs.FinMap.{get-empty}
use Rattle.token_system.specs.Names.{name_cmp}
use Rattle.instant_net.specs.Outputs.{IsStoreOf}
use Rattle.settle.proofs.tests.unknown.Goals as goal

pub open_words-requires : goal.open_words-requires
open_words-requires c =
    subst (IsStoreOf c.args.net.now.cells) (sym c.new.ensures) (λ n v e. absurd (let f : None ≡ Some v = sym (get-empty name_cmp n) ∙ e in cc))
