use Rattle.token_system.proofs.ValueTokens.{tokens-fit, tokens-stand}
use Rattle.token_system.proofs.laws.tokens_law.Goals as goal

pub returns-clause-fit : goal.returns-clause-fit
returns-clause-fit c = tokens-fit

pub returns-clause-stand : goal.returns-clause-stand
returns-clause-stand c = tokens-stand
