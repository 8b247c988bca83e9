-- The limits of traces. This project's own.
use Rattle.std.specs.Prelude.{ℕ, ◌+◌, ◌-◌, ◌*◌}
use Rattle.names_and_numbers.specs.Limits.{longest_name, most_digits}
use Rattle.agent_core.specs.Limits.{most_declared_cells}

-- the most bytes of a trace line, without a line feed at its end
abbrev pub longest_trace_line : ℕ
longest_trace_line = 32768

-- the most bytes of the text of a token: a name, `>=` or `<=`, a `-` and digits
abbrev pub longest_token_text : ℕ
longest_token_text = longest_name + 2 + 1 + most_digits

-- the most bytes of the line of a store: two such texts for each declared cell, with a space between each two
abbrev pub longest_store_line : ℕ
longest_store_line = 2 * most_declared_cells * (longest_token_text + 1) - 1
