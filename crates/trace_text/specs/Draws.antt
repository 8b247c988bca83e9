-- The numbers of the generator: the sequence that any number starts, and what is drawn of it. This project's own.
use Rattle.std.specs.Prelude.{ℕ, zero, suc, ◌+◌, ◌*◌, ◌/◌, ◌%◌, ◌^◌}

-- the number that follows x in the sequence
unfoldable pub next : ℕ → ℕ
next x = (x * 1103515245 + 12345) % 2 ^ 31

-- the number that stands k places draw_after x
unfoldable pub draw_after : ℕ → ℕ → ℕ
draw_after x zero = x
draw_after x (suc k) = next (draw_after x k)

-- of the draws that follow x, the one draw_after k others, below m: the number at its place without the low 16 bits, modulo m
abbrev pub drawn : ℕ → ℕ → ℕ → ℕ
drawn x k m = draw_after x (k + 1) / 65536 % m
