use Rattle.std.proofs.Common.{◌≡◌, ◌+◌, drop}
use Rattle.names_and_numbers.specs.Names.{is_word_byte}
use Rattle.names_and_numbers.specs.Prefixes.{prefix_len}
use Rattle.names_and_numbers.proofs.letters.word_len.Given as goal

abbrev pub invariant-loop-place : goal.invariant-loop-place
invariant-loop-place l = prefix_len is_word_byte l.bytes ≡ l.place + prefix_len is_word_byte (drop l.place l.bytes)
