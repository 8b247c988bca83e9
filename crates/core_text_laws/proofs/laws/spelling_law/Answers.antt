use Rattle.core_text_laws.proofs.Spellings.{spelled}
use Rattle.core_text_laws.proofs.laws.spelling_law.Goals as goal

pub returns : goal.returns
returns c = spelled
