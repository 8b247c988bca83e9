use Rattle.certificate_laws.proofs.Walks as walks
use Rattle.certificate_laws.proofs.laws.reasons_law.Goals as goal

pub returns : goal.returns
returns c p ls i v numbers = walks.exact_reasons p ls i v numbers
