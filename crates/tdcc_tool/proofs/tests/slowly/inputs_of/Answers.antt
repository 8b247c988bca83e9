use Rattle.std.proofs.Common.{◌∷◌, [], length, sym, ap, ◌∙◌, subst, length-append}
use Rattle.std.specs.Prelude.{All, ◌+◌, ℕ}
use Rattle.std.proofs.lemmas.List.Elements.{All-push}
use Rattle.agent_core.specs.Stores.{IsInput}
use Rattle.tdcc_tool.proofs.tests.slowly.inputs_of.Goals as goal

pub loop-line-preserved : goal.loop-line-preserved
loop-line-preserved c = record {
  inputs = subst (All (IsInput c.args.program.now)) (sym c.in_ok-push-in-Ok.ensures.items)
      (All-push (IsInput c.args.program.now) c.loop-line.ins.items c.in-Ok.input c.loop-line.invariant.inputs c.in-Ok.ensures.given.input);
  count = ap length c.in_ok-push-in-Ok.ensures.items ∙ length-append c.loop-line.ins.items (c.in-Ok.input ∷ []) ∙ ap (λ (n : ℕ). n + 1) c.loop-line.invariant.count;
}
