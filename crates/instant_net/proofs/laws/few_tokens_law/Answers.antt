use Rattle.instant_net.proofs.FewTokens.{leaf-tells_few}
use Rattle.instant_net.proofs.laws.few_tokens_law.Goals as goal

pub returns : goal.returns
returns c = leaf-tells_few
