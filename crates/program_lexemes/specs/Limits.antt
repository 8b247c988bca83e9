-- How long texts may be. This project's own.
use Rattle.std.specs.Prelude.{ℕ}

-- the most bytes that a program text may have
abbrev pub longest_program_text : ℕ
longest_program_text = 65536

-- the most bytes that a core text may have, which is longer
abbrev pub longest_core_text : ℕ
longest_core_text = 4194304
