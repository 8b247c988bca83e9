use Rattle.program_lexemes.proofs.NameForms.{program_names, text_numbers}
use Rattle.program_lexemes.proofs.laws.names_law.Goals as goal

pub returns-clause-names : goal.returns-clause-names
returns-clause-names c = program_names

pub returns-clause-numbers : goal.returns-clause-numbers
returns-clause-numbers c = text_numbers
