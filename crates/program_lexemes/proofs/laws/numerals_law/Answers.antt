use Rattle.program_lexemes.proofs.Printed.{decimal_kind, minus_decimal_kind, number_of-decimal, number_of-minus_decimal}
use Rattle.program_lexemes.proofs.laws.numerals_law.Goals as goal

pub returns-clause-kind : goal.returns-clause-kind
returns-clause-kind c = decimal_kind

pub returns-clause-minus_kind : goal.returns-clause-minus_kind
returns-clause-minus_kind c = minus_decimal_kind

pub returns-clause-value : goal.returns-clause-value
returns-clause-value c = number_of-decimal

pub returns-clause-minus_value : goal.returns-clause-minus_value
returns-clause-minus_value c = number_of-minus_decimal
