use Rattle.std.proofs.Common.{◌≡◌, ◌<◌, ◌++◌, ◌∷◌, [], List, length, sym, ap, ◌∙◌, subst, arith}
use Rattle.token_system.specs.Stores.{StoreMap}
use Rattle.agent_core.specs.declared.node.Closure.{Closure}
use Rattle.instant_net.specs.Words.{store_in}
use Rattle.residuals.specs.RootLists.{AreRootLists}
use Rattle.residuals.specs.NextRoots.{FollowRoots, next_lists}
use Rattle.residuals.proofs.NextLists.{lists-keep, lists-follow}
use Rattle.residuals.proofs.StartedLists.{begun-none, begun-idle, begun-hence, begun-next, begun-all}
use Rattle.residuals.proofs.next.next_roots.Goals as goal
use Rattle.residuals.proofs.next.next_roots.Goals.{then-runs+in_ok-started+then-is_hence+in_ok-push, then-runs+in_ok-started+else-is_hence+in_ok-push-2, else-runs}

pub loop-leaf-preserved-in_default : goal.loop-leaf-preserved-in_default
loop-leaf-preserved-in_default c =
    let w : StoreMap = store_in c.args.net.now.cells c.args.words.now in
    let count = c.leaves-leaf-end.ensures.count in
    let lt : c.loop-leaf.leaf < length c.args.net.now.leaves = omega arith in
    begun-none c.args.net.now w _ _ _ c.loop-leaf.leaf c.loop-leaf.invariant lt c.in_default.ensures

pub loop-leaf-preserved : goal.loop-leaf-preserved
loop-leaf-preserved c =
    let w : StoreMap = store_in c.args.net.now.cells c.args.words.now in
    let count = c.leaves-leaf-end.ensures.count in
    let lt : c.loop-leaf.leaf < length c.args.net.now.leaves = omega arith in
    let old : List Closure = c.args.roots.now.stay in
    let once : List Closure = c.loop-leaf.once.items in
    let stay : List Closure = c.loop-leaf.stay.items in
    let i = c.loop-leaf.leaf in
    let so = c.loop-leaf.invariant in
    elim c.if-runs.branch [
      | then-runs+in_ok-started+then-is_hence+in_ok-push v ↦
          begun-hence c.args.net.now w old once stay i so lt c.runs.result c.runs.ensures c.if-runs.once.items c.if-runs.stay.items v.if-runs.true c.in-Some.body.now c.in-Some.ensures
          (sym v.is_hence.ensures ∙ v.if-is_hence.true) (ap (λ x. x.items) v.once-is) (ap (λ x. x.items) v.stay-is ∙ v.in_ok-push.ensures.items ∙ ap (λ (d : Closure). stay ++ d ∷ []) v.in_ok-started.ensures)
      | then-runs+in_ok-started+else-is_hence+in_ok-push-2 v ↦
          begun-next c.args.net.now w old once stay i so lt c.runs.result c.runs.ensures c.if-runs.once.items c.if-runs.stay.items v.if-runs.true c.in-Some.body.now c.in-Some.ensures
          (sym v.is_hence.ensures ∙ v.if-is_hence.false) (ap (λ x. x.items) v.once-is ∙ v.in_ok-push-2.ensures.items ∙ ap (λ (d : Closure). once ++ d ∷ []) v.in_ok-started.ensures) (ap (λ x. x.items) v.stay-is)
      | else-runs v ↦
          begun-idle c.args.net.now w old once stay i so lt c.runs.result c.runs.ensures c.if-runs.once.items c.if-runs.stay.items v.if-runs.false (ap (λ x. x.items) v.once-is) (ap (λ x. x.items) v.stay-is)
    ]

pub make-requires : goal.make-requires
make-requires c =
    let net = c.args.net.now in
    let w : StoreMap = store_in c.args.net.now.cells c.args.words.now in
    let made : record { once = c.sort.new.closures.items; stay = c.sort-2.new.closures.items } ≡ next_lists net w c.args.roots.now =
    begun-all net w c.args.roots.now _ _ _ _ _ c.loop-leaf.invariant (let count = c.leaves-leaf-end.ensures.count in omega arith) c.in_ok-sort.ensures c.in_ok-sort-2.ensures in
    subst AreRootLists (sym made) (lists-keep net w c.args.roots.now c.leaves-leaf-end.ensures.net c.requires.net)

pub returns-clause-follow : goal.returns-clause-follow
returns-clause-follow c =
    let net = c.args.net.now in
    let w : StoreMap = store_in c.args.net.now.cells c.args.words.now in
    let made : c.make.result ≡ next_lists net w c.args.roots.now =
    c.make.ensures ∙ begun-all net w c.args.roots.now _ _ _ _ _ c.loop-leaf.invariant (let count = c.leaves-leaf-end.ensures.count in omega arith) c.in_ok-sort.ensures c.in_ok-sort-2.ensures in
    subst (FollowRoots net w c.args.roots.now) (sym made) (lists-follow net w c.args.roots.now)
