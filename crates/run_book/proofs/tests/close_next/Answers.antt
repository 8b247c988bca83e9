use Rattle.std.proofs.Common.{◌≡◌, ℕ, List, Some, None, sym, ◌∙◌, subst}
use Rattle.std.specs.FinMap.{empty, get-empty}
use Rattle.token_system.specs.Names.{name_cmp}
use Rattle.token_system.specs.Stores.{StoreMap}
use Rattle.agent_core.specs.Programs.{CoreProgram}
use Rattle.agent_core.specs.Stores.{IsInput}
use Rattle.instant_net.specs.Opened.{IsNetOf}
use Rattle.instant_net.specs.Words.{store_in}
use Rattle.run_book.proofs.SettledNets.{given_net, settled_net}
use Rattle.run_book.proofs.tests.close_next.Goals as goal

-- of which nothing is told is an input
none-input : (p : CoreProgram) (i : StoreMap) → i ≡ empty → IsInput p i
none-input p i same = subst (IsInput p) (sym same) (record {
  store = λ n v e. absurd (let f : None ≡ Some v = sym (get-empty name_cmp n) ∙ e in cc);
  declared = λ n v e. absurd (let f : None ≡ Some v = sym (get-empty name_cmp n) ∙ e in cc);
})

pub open_words-requires : goal.open_words-requires
open_words-requires c =
    let of =
    subst (λ (p : CoreProgram). IsNetOf p c.args.book.now.levels c.deref.result.now c.instants-instant.result c.in-Ok.net) c.program.ensures.program
    (subst (λ (table : List ℕ). IsNetOf c.program.result.now table c.deref.result.now c.instants-instant.result c.in-Ok.net) c.levels.ensures.levels c.in-Ok.ensures.found) in
    given_net c.one_output_law.ensures c.stratified_net_law.ensures c.net_outputs_law.ensures c.args.book.now.program c.args.book.now.levels c.program.ensures.book.stratified c.deref.result.now c.instants-instant.result c.in-Ok.net of
    c.new-input.result (none-input c.args.book.now.program c.new-input.result c.new-input.ensures)

pub close-requires-clause-input : goal.close-requires-clause-input
close-requires-clause-input c = none-input c.args.book.now.program c.new-input.result c.new-input.ensures

pub close-requires-clause-output : goal.close-requires-clause-output
close-requires-clause-output c =
    let of =
    subst (λ (p : CoreProgram). IsNetOf p c.args.book.now.levels c.deref.result.now c.instants-instant.result c.in-Ok.net) c.program.ensures.program
    (subst (λ (table : List ℕ). IsNetOf c.program.result.now table c.deref.result.now c.instants-instant.result c.in-Ok.net) c.levels.ensures.levels c.in-Ok.ensures.found) in
    settled_net c.one_output_law.ensures c.stratified_net_law.ensures c.net_outputs_law.ensures c.args.book.now.program c.args.book.now.levels c.program.ensures.book.stratified c.deref.result.now c.instants-instant.result c.in-Ok.net of
    c.new-input.result (none-input c.args.book.now.program c.new-input.result c.new-input.ensures)
    (store_in c.in-Ok.net.cells c.in_ok-words.words) (store_in c.in-Ok.net.cells c.settle.new.words) c.in_ok-words.ensures.store c.settle.ensures.settled
