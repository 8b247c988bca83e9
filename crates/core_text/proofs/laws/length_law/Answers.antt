use Rattle.core_text.proofs.TextLengths.{text_length}
use Rattle.core_text.proofs.laws.length_law.Goals as goal

pub returns : goal.returns
returns c = text_length
