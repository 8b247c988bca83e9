use Rattle.std.proofs.Common.{◌≡◌, ◌++◌, ◌∷◌, [], ℕ, List, Some, None, length, length-append, sym, subst, ◌∙◌, arith}
use Rattle.std.specs.FinMap.{get-empty}
use Rattle.token_system.specs.Names.{name_cmp}
use Rattle.token_system.specs.Stores.{StoreMap}
use Rattle.instant_net.specs.Opened.{IsNetOf}
use Rattle.instant_net.specs.Outputs.{IsStoreOf}
use Rattle.instant_net.specs.Words.{store_in}
use Rattle.residuals.specs.RootLists.{listed_roots}
use Rattle.residuals.proofs.tests.after.Goals as goal

pub open_words-requires : goal.open_words-requires
open_words-requires c =
    subst (IsStoreOf c.in_ok-net.net.cells) (sym c.new.ensures) (λ n v e. absurd (let f : None ≡ Some v = sym (get-empty name_cmp n) ∙ e in cc))

pub returns : goal.returns
returns c =
    let p = c.args.program.now in
    let closed : List StoreMap = c.requires.roots.0 in
    let w : StoreMap = store_in c.in_ok-net.net.cells c.in_ok-words.words in
    let whole : IsNetOf p c.args.levels.now (listed_roots c.args.roots.now) (length closed) c.in_ok-net.net =
    subst (λ (k : ℕ). IsNetOf p c.args.levels.now (listed_roots c.args.roots.now) k c.in_ok-net.net) (sym c.requires.roots.1) c.in_ok-net.ensures in
    (closed ++ w ∷ [], (let e = c.requires.roots.1 in omega (arith, length-append closed (w ∷ []))), c.in_ok-next_roots.ensures.follow p c.args.levels.now closed c.requires.roots.2 whole)
