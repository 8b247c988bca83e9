use Rattle.std.proofs.Common.{◌≡◌, ◌+◌, drop}
use Rattle.names_and_numbers.specs.Names.{is_digit}
use Rattle.names_and_numbers.specs.Prefixes.{prefix_len}
use Rattle.names_and_numbers.proofs.letters.digits_len.Given as goal

abbrev pub invariant-loop-place : goal.invariant-loop-place
invariant-loop-place l = prefix_len is_digit l.bytes ≡ l.place + prefix_len is_digit (drop l.place l.bytes)
