use Rattle.std.proofs.Common.{◌≤◌, ◌-◌, length}
use Rattle.program_lexemes.specs.Lexemes.{Reads}
use Rattle.program_lexemes.proofs.lexer.read_lexemes.Given as goal

abbrev pub invariant-loop-at : goal.invariant-loop-at
invariant-loop-at l = (l.at ≤ length l.text) × Reads l.form l.text 0 l.found.items l.at

abbrev pub decreases-loop-at : goal.decreases-loop-at
decreases-loop-at l = length l.text - l.at
