use Rattle.token_system.proofs.StoreLaws.{stores-same, join-least_above}
use Rattle.token_system.proofs.laws.stores_law.Goals as goal

pub returns-clause-same_tokens : goal.returns-clause-same_tokens
returns-clause-same_tokens c = stores-same

pub returns-clause-joined : goal.returns-clause-joined
returns-clause-joined c = join-least_above
