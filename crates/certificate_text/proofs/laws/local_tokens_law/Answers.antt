use Rattle.certificate_text.proofs.LocalTokenLaws as tokens
use Rattle.certificate_text.proofs.laws.local_tokens_law.Goals as goal

pub returns-clause-one : goal.returns-clause-one
returns-clause-one c = tokens.one_local_token

pub returns-clause-read_back : goal.returns-clause-read_back
returns-clause-read_back c = tokens.tokens_read_back

pub returns-clause-both_bounds : goal.returns-clause-both_bounds
returns-clause-both_bounds c = tokens.values_read_back
