use Rattle.std.proofs.Common.{◌≡◌, ◌++◌, reverse, take, drop, Some}
use Rattle.program_grammar.specs.Machine.{run_in, start, trace}
use Rattle.program_grammar.proofs.machine.run_machine.Given as goal

-- the words so far led to these parts, and the steps of the others are still to be taken
abbrev pub invariant-loop-place : goal.invariant-loop-place
invariant-loop-place l = (run_in l.language start (take l.place l.words) ≡ Some (reverse l.parts.items)) × (trace start 0 l.words ≡ l.steps.items ++ trace (reverse l.parts.items) l.place (drop l.place l.words))
