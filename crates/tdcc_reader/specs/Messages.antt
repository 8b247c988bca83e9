-- What is said of a fault of a text. The texts are this project's own.
use Rattle.std.specs.Prelude.{ℕ, List, ◌++◌, codes, decimal}
use Rattle.program_lexemes.specs.Limits.{longest_program_text}
use Rattle.agent_core.specs.Limits.{most_cells, most_declared_cells, most_nodes}
use Rattle.tdcc_reader.specs.declared.fault.ReadFault.{ReadFault}
use Rattle.tdcc_reader.specs.declared.fault.ReadFault.TheVariants.{TextTooLong, Lex, LongName, LongNumber, Later, Syntax, TooDeep, TooManyTokens, DoubleName, EmptyDomain, UnknownName, WrongKind, TooManyDeclared, TooManyNodes, TooManyCells, Memory}

-- the text of a fault, which is what its display writes
abbrev pub fault_message : ReadFault → List ℕ
fault_message TextTooLong = codes "text over " ++ decimal longest_program_text ++ codes " bytes"
fault_message (Lex offset) = codes "bad byte at offset " ++ decimal offset
fault_message (LongName lexeme) = codes "long name at lexeme " ++ decimal lexeme
fault_message (LongNumber lexeme) = codes "long number at lexeme " ++ decimal lexeme
fault_message (Later lexeme) = codes "not built yet at lexeme " ++ decimal lexeme
fault_message (Syntax lexeme) = codes "syntax at lexeme " ++ decimal lexeme
fault_message (TooDeep lexeme) = codes "too deep at lexeme " ++ decimal lexeme
fault_message (TooManyTokens lexeme) = codes "too many tokens at lexeme " ++ decimal lexeme
fault_message (DoubleName lexeme) = codes "double name at lexeme " ++ decimal lexeme
fault_message (EmptyDomain lexeme) = codes "empty domain at lexeme " ++ decimal lexeme
fault_message (UnknownName lexeme) = codes "unknown name at lexeme " ++ decimal lexeme
fault_message (WrongKind lexeme) = codes "wrong kind at lexeme " ++ decimal lexeme
fault_message TooManyDeclared = codes "over " ++ decimal most_declared_cells ++ codes " declared cells"
fault_message TooManyNodes = codes "over " ++ decimal most_nodes ++ codes " nodes"
fault_message TooManyCells = codes "over " ++ decimal most_cells ++ codes " cells"
fault_message Memory = codes "out of memory"
