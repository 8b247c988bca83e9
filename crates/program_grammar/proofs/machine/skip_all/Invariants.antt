use Rattle.std.proofs.Common.{◌≡◌, ◌++◌, reverse, vec_len}
use Rattle.std.specs.Prelude.{map}
use Rattle.program_grammar.specs.declared.machine.Step.TheVariants.{Skipped}
use Rattle.program_grammar.proofs.machine.skip_all.Given as goal

abbrev pub invariant-loop-part : goal.invariant-loop-part
invariant-loop-part l = l.fn.steps.items ++ map Skipped (reverse l.fn.parts.items) ≡ l.steps.items ++ map Skipped (reverse l.parts.items)

abbrev pub decreases-loop-part : goal.decreases-loop-part
decreases-loop-part l = vec_len l.parts
