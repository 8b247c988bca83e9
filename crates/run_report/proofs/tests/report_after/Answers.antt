use Rattle.std.proofs.Common.{◌≡◌, ◌++◌, ◌∷◌, [], ℕ, List, Some, None, length, length-append, sym, subst, ◌∙◌, arith}
use Rattle.std.specs.FinMap.{get-empty}
use Rattle.token_system.specs.Names.{name_cmp}
use Rattle.token_system.specs.Stores.{StoreMap}
use Rattle.agent_core.specs.declared.node.Closure.{Closure}
use Rattle.agent_core.specs.Closures.{roots}
use Rattle.agent_laws.specs.Laws.{AreClosures}
use Rattle.agent_laws.proofs.Eachs.{each_all}
use Rattle.agent_laws.proofs.Started.{IsOwn, roots-closures}
use Rattle.instant_net.specs.Opened.{IsNetOf}
use Rattle.instant_net.specs.Outputs.{IsStoreOf}
use Rattle.instant_net.specs.Words.{store_in}
use Rattle.residuals.specs.RootLists.{listed_roots}
use Rattle.run_report.proofs.tests.report_after.Goals as goal

pub open_net-requires-clause-closures : goal.open_net-requires-clause-closures
open_net-requires-clause-closures c =
    let p = c.args.program.now in
    let closed : List StoreMap = c.requires.roots.0 in
    subst (AreClosures p) (sym (c.deref.ensures.value ∙ c.in_ok-list.ensures.all ∙ c.requires.roots.2.all)) (each_all (IsOwn p) (roots p closed) (roots-closures p c.requires.program closed))

pub open_words-requires : goal.open_words-requires
open_words-requires c =
    subst (IsStoreOf c.in-Ok.net.cells) (sym c.new.ensures) (λ n v e. absurd (let f : None ≡ Some v = sym (get-empty name_cmp n) ∙ e in cc))

pub returns : goal.returns
returns c =
    let p = c.args.program.now in
    let closed : List StoreMap = c.requires.roots.0 in
    let w : StoreMap = store_in c.in-Ok.net.cells c.tell_each.new.words in
    let whole : IsNetOf p c.args.levels.now (listed_roots c.args.roots.now) (length closed) c.in-Ok.net =
    subst (λ (k : ℕ). IsNetOf p c.args.levels.now (listed_roots c.args.roots.now) k c.in-Ok.net) (sym c.requires.roots.1)
    (subst (λ (rs : List Closure). IsNetOf p c.args.levels.now rs c.args.t c.in-Ok.net) (c.deref.ensures.value ∙ c.in_ok-list.ensures.all) c.in-Ok.ensures.found) in
    (closed ++ w ∷ [], (let e = c.requires.roots.1 in omega (arith, length-append closed (w ∷ []))), c.in_ok-next.ensures.follow p c.args.levels.now closed c.requires.roots.2 whole)
