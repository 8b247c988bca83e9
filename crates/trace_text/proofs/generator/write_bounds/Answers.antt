use Rattle.std.proofs.Common.{◌+◌, ◌*◌, refl, sym, arith}
use Rattle.std.specs.Prelude.{codes}
use Rattle.std.proofs.lemmas.List.{append-nil}
use Rattle.trace_text.specs.Draws.{draw_after}
use Rattle.trace_text.specs.Generated.{bounds}
use Rattle.trace_text.proofs.DrawnTexts.{after_more, bound_written}
use Rattle.trace_text.proofs.generator.write_bounds.Goals as goal

pub loop-number-init : goal.loop-number-init
unfolding bounds draw_after
loop-number-init c = record { text = sym (append-nil c.args.into.now.items); draws = refl }

pub loop-number-preserved : goal.loop-number-preserved
loop-number-preserved c = record {
  text = bound_written (codes " || ") c.args.draws.now.last c.loop-number.draws.last c.loop-number.number c.args.into.now.items c.loop-number.into.items c.extend_from_slice.new.self.items c.write_bound.new.into.items
      c.loop-number.invariant.draws c.loop-number.invariant.text c.in_ok-extend_from_slice.ensures.items c.in_ok-write_bound.ensures.text;
  draws = after_more c.args.draws.now.last c.loop-number.draws.last c.write_bound.new.draws.last (2 * c.loop-number.number) 2 (2 * (c.loop-number.number + 1)) c.loop-number.invariant.draws c.in_ok-write_bound.ensures.draws (omega arith);
}
