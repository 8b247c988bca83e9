-- How many bytes may be read at once, and stand in a line and in a text. This project's own.
use Rattle.std.specs.Prelude.{ℕ, ◌+◌}

-- how many bytes a program text has at most
abbrev pub longest_text : ℕ
longest_text = 65536

-- how many bytes a line of a trace has at most, without its line feed
abbrev pub longest_line : ℕ
longest_line = 32768

-- how many bytes each read of a source asks for
abbrev pub read_size : ℕ
read_size = 4096

-- room for the longest text and for the longest mark behind it, which has three bytes
abbrev pub room_for_text : ℕ
room_for_text = longest_text + 3
