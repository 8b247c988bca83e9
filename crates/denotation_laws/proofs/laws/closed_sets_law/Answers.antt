use Rattle.denotation_laws.proofs.ClosedSets.{has_value, one_value}
use Rattle.token_system.specs.Values.{value_tokens}
use Rattle.token_system.proofs.ValueTokens.{tokens-fit, tokens-stand}
use Rattle.denotation_laws.proofs.laws.closed_sets_law.Goals as goal

pub returns-clause-one : goal.returns-clause-one
returns-clause-one c cell ts fit =
    let v = has_value cell ts fit in
    (v.0, v.1, λ w h. one_value cell ts v.0 w v.1 h)

pub returns-clause-each : goal.returns-clause-each
returns-clause-each c cell v h = (value_tokens v, tokens-fit cell v h, tokens-stand cell v h)
