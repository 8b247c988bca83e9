use Rattle.denotation_laws.proofs.ClosedStores.{has_store, one_store, store_tokens}
use Rattle.denotation_laws.proofs.laws.closed_stores_law.Goals as goal

pub returns-clause-one : goal.returns-clause-one
returns-clause-one c = λ cell_of ts f. let s = has_store cell_of ts f in (s.0, s.1, λ y h. one_store cell_of ts s.0 y s.1 h)

pub returns-clause-each : goal.returns-clause-each
returns-clause-each c = store_tokens
