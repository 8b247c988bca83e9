use Rattle.program_lexemes.proofs.KindSays.{kind_keyword, kind_symbol, kind_number}
use Rattle.program_lexemes.proofs.laws.kinds_law.Goals as goal

pub returns-clause-keyword : goal.returns-clause-keyword
returns-clause-keyword c = kind_keyword

pub returns-clause-symbol : goal.returns-clause-symbol
returns-clause-symbol c = kind_symbol

pub returns-clause-number : goal.returns-clause-number
returns-clause-number c = kind_number
