use Rattle.program_lexemes.proofs.Spelled.{named-keyword_bytes, named-symbol_bytes}
use Rattle.program_lexemes.proofs.laws.spellings_law.Goals as goal

pub returns-clause-keywords : goal.returns-clause-keywords
returns-clause-keywords c = named-keyword_bytes

pub returns-clause-symbols : goal.returns-clause-symbols
returns-clause-symbols c = named-symbol_bytes
