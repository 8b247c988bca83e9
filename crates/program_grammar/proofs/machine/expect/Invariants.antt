use Rattle.std.proofs.Common.{◌≡◌, ◌≤◌, ◌++◌, reverse, length, drop}
use Rattle.program_grammar.proofs.machine.expect.Given as goal

abbrev pub invariant-loop-left : goal.invariant-loop-left
invariant-loop-left l = (l.left ≤ length l.rest) × (reverse l.parts.items ≡ drop l.left l.rest ++ reverse l.fn.parts.items)

abbrev pub decreases-loop-left : goal.decreases-loop-left
decreases-loop-left l = l.left
