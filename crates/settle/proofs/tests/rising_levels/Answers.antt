use Rattle.std.proofs.Common.{[], ◌∷◌, ◌<◌, ◌≤◌, length, All, sym, ap, subst, arith, length-append}
use Rattle.std.proofs.lemmas.List.Elements.{All-push}
use Rattle.settle.proofs.tests.rising_levels.Goals as goal

pub loop-level-preserved : goal.loop-level-preserved
loop-level-preserved c =
    let e = c.in_ok-push.ensures.items in
    let few : length c.cells-items.result.now ≤ 1024 = let n = ap length c.cells-items.ensures.all in let m = c.cells-items.ensures.program.limits.few_cells in omega arith in
    let lt = c.loop-level-test.true in
    record {
      long = let h = c.loop-level.invariant.long in let l = ap length e in omega (arith, length-append c.loop-level.list.items (c.loop-level.level ∷ []));
      small = subst (All (λ n. n < 1024)) (sym e) (All-push (λ n. n < 1024) c.loop-level.list.items c.loop-level.level c.loop-level.invariant.small (omega arith));
    }

pub returns : goal.returns
returns c =
    let a = ap length c.make.ensures in
    let b = c.loop-level.invariant.long in
    let d = ap length c.cells-items.ensures.all in
    let f = c.loop-level-test.false in
    let g = c.loop-level.auto.level-end in
    omega arith
