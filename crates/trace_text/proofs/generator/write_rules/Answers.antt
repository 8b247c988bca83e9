use Rattle.std.proofs.Common.{◌+◌, ◌-◌, ◌*◌, refl, sym, arith}
use Rattle.std.specs.Prelude.{codes}
use Rattle.std.proofs.lemmas.List.{append-nil}
use Rattle.trace_text.specs.Draws.{draw_after}
use Rattle.trace_text.specs.Generated.{rules}
use Rattle.trace_text.proofs.DrawnTexts.{after_more, rule_written}
use Rattle.trace_text.proofs.generator.write_rules.Goals as goal

pub loop-told-init : goal.loop-told-init
unfolding rules draw_after
loop-told-init c = record { text = sym (append-nil c.args.into.now.items); draws = refl }

pub loop-told-preserved : goal.loop-told-preserved
loop-told-preserved c = record {
  text = rule_written (codes " || ") c.args.draws.now.last c.loop-told.draws.last (c.loop-told.told - 1) c.loop-told.told (c.loop-told.told + 1 - 1) c.args.into.now.items c.loop-told.into.items c.write_separator.new.into.items c.write_rule.new.into.items
      (omega arith) (omega arith) c.loop-told.invariant.draws c.loop-told.invariant.text c.in_ok-write_separator.ensures c.in_ok-write_rule.ensures.text;
  draws = after_more c.args.draws.now.last c.loop-told.draws.last c.write_rule.new.draws.last (3 * (c.loop-told.told - 1)) 3 (3 * (c.loop-told.told + 1 - 1)) c.loop-told.invariant.draws c.in_ok-write_rule.ensures.draws (omega arith);
}
