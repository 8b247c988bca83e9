use Rattle.std.proofs.Common.{◌+◌, ◌<◌, ℕ, List, Bool, true, length, sym, subst, arith}
use Rattle.settle.proofs.LeafPasses.{IsPass, pass-skip, pass-tell, pass-calm}
use Rattle.settle.proofs.passes.tell_due.Goals as goal
use Rattle.settle.proofs.passes.tell_due.Goals.{then-is_due, else-is_due}

pub loop-leaf-preserved : goal.loop-leaf-preserved
loop-leaf-preserved c =
    let there : c.loop-leaf.leaf < length c.args.net.now.leaves = let n = c.leaves-leaf-end.ensures.count in let lt = c.loop-leaf-test.true in omega arith in
    elim c.if-is_due.branch [
      | then-is_due w ↦
          subst (λ (told : Bool). IsPass c.args.net.now c.args.stratum c.args.words.now c.if-is_due.words (c.loop-leaf.leaf + 1) told) (sym w.told-is)
          (subst (λ (words : List ℕ). IsPass c.args.net.now c.args.stratum c.args.words.now words (c.loop-leaf.leaf + 1) true) (sym w.words-is)
          (pass-tell c.args.net.now c.args.stratum c.args.words.now c.loop-leaf.words c.loop-leaf.leaf c.loop-leaf.told c.loop-leaf.invariant c.is_due.result c.is_due.ensures
          c.leaves-leaf-end.ensures.net w.if-is_due.true there w.tell.new.words w.tell.ensures.words w.tell.ensures.store))
      | else-is_due w ↦
          subst (λ (told : Bool). IsPass c.args.net.now c.args.stratum c.args.words.now c.if-is_due.words (c.loop-leaf.leaf + 1) told) (sym w.told-is)
          (subst (λ (words : List ℕ). IsPass c.args.net.now c.args.stratum c.args.words.now words (c.loop-leaf.leaf + 1) c.loop-leaf.told) (sym w.words-is)
          (pass-skip c.args.net.now c.args.stratum c.args.words.now c.loop-leaf.words c.loop-leaf.leaf c.loop-leaf.told c.loop-leaf.invariant c.is_due.result c.is_due.ensures w.if-is_due.false))
    ]

pub returns-clause-at_rest : goal.returns-clause-at_rest
returns-clause-at_rest c =
    pass-calm c.args.net.now c.args.stratum c.args.words.now c.loop-leaf.words c.loop-leaf.leaf c.loop-leaf.told c.loop-leaf.invariant
    (let n = c.leaves-leaf-end.ensures.count in let le = c.loop-leaf-test.false in omega arith)
