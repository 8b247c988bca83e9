-- What is said of a fault of a trace line. The texts are this project's own.
use Rattle.std.specs.Prelude.{ℕ, List, ◌++◌, codes, decimal}
use Rattle.trace_text.specs.Limits.{longest_trace_line}
use Rattle.trace_text.specs.declared.fault.LineFault.{LineFault}
use Rattle.trace_text.specs.declared.fault.LineFault.TheVariants.{BadToken, UnknownName, WrongKind, LineTooLong, Memory}

-- the text of a fault, which is what its display writes
abbrev pub line_fault_message : LineFault → List ℕ
line_fault_message (BadToken offset) = codes "bad token at offset " ++ decimal offset
line_fault_message (UnknownName offset) = codes "unknown name at offset " ++ decimal offset
line_fault_message (WrongKind offset) = codes "wrong kind at offset " ++ decimal offset
line_fault_message LineTooLong = codes "line over " ++ decimal longest_trace_line ++ codes " bytes"
line_fault_message Memory = codes "out of memory"
