use Rattle.std.proofs.Common.{◌≡◌, ◌++◌, reverse, vec_len}
use Rattle.program_grammar.specs.Machine.{feed, word_steps}
use Rattle.program_grammar.proofs.machine.match_word.Given as goal

-- what the word does to the parts is what it does to those that are left, behind the steps so far
abbrev pub invariant-loop-part : goal.invariant-loop-part
invariant-loop-part l = (feed (reverse l.fn.parts.items) l.word ≡ feed (reverse l.parts.items) l.word) × (l.fn.steps.items ++ word_steps (reverse l.fn.parts.items) l.place l.word ≡ l.steps.items ++ word_steps (reverse l.parts.items) l.place l.word)

abbrev pub decreases-loop-part : goal.decreases-loop-part
decreases-loop-part l = vec_len l.parts
