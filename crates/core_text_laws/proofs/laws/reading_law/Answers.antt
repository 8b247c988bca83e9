use Rattle.core_text_laws.proofs.Spellings.{one_spelled, one_printed}
use Rattle.core_text_laws.proofs.laws.reading_law.Goals as goal

pub returns-clause-text : goal.returns-clause-text
returns-clause-text c = one_spelled

pub returns-clause-printed : goal.returns-clause-printed
returns-clause-printed c = one_printed
