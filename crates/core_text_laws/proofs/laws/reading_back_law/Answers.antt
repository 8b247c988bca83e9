use Rattle.core_text.specs.CoreTexts.{core_text}
use Rattle.core_reader.proofs.CoreVerdicts.{one_answer}
use Rattle.core_text_laws.proofs.ReadBack.{text_read}
use Rattle.core_text_laws.proofs.laws.reading_back_law.Goals as goal

pub returns-clause-text : goal.returns-clause-text
returns-clause-text c = text_read

pub returns-clause-answer : goal.returns-clause-answer
returns-clause-answer c = λ p is good answer may. one_answer (core_text p) p answer (text_read p is good) may
