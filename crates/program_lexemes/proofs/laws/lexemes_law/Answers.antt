use Rattle.program_lexemes.proofs.Unique.{unique, lexed_not_bad, one_bad_byte}
use Rattle.program_lexemes.proofs.Verdicts.{verdict}
use Rattle.program_lexemes.proofs.laws.lexemes_law.Goals as goal

pub returns-clause-some : goal.returns-clause-some
returns-clause-some c = verdict

pub returns-clause-one_list : goal.returns-clause-one_list
returns-clause-one_list c = λ form text ls ms a b. unique form text ls ms 0 a b

pub returns-clause-one_byte : goal.returns-clause-one_byte
returns-clause-one_byte c = one_bad_byte

pub returns-clause-not_both : goal.returns-clause-not_both
returns-clause-not_both c = lexed_not_bad
