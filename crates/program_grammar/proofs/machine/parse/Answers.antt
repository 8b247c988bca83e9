use Rattle.program_grammar.proofs.Readings.{spelled_steps, ends_reading, stops_at_fault}
use Rattle.program_grammar.proofs.machine.parse.Goals as goal

pub returns-in-Ok-Ok-clause-steps : goal.returns-in-Ok-Ok-clause-steps
returns-in-Ok-Ok-clause-steps c = let read = rw c.in-Ok-Ok.field-0-is at c.in-Ok-Ok.ensures in λ ts e. ends_reading _ ts _ _ e read.0 read.1

pub returns-in-Ok-Ok-clause-complete : goal.returns-in-Ok-Ok-clause-complete
returns-in-Ok-Ok-clause-complete c = let read = rw c.in-Ok-Ok.field-0-is at c.in-Ok-Ok.ensures in λ ts p e s. spelled_steps _ ts _ p _ e s read.1

pub returns-in-Ok-Err-clause-fault : goal.returns-in-Ok-Err-clause-fault
returns-in-Ok-Err-clause-fault c = let stops = rw c.in-Ok-Err.field-0-is at c.in-Ok-Err.ensures in λ ts e. stops_at_fault _ ts _ _ e stops

pub returns-in-Ok-Err-clause-complete : goal.returns-in-Ok-Err-clause-complete
returns-in-Ok-Err-clause-complete c = let stops = rw c.in-Ok-Err.field-0-is at c.in-Ok-Err.ensures in λ ts p e s. absurd ((stops_at_fault _ ts _ _ e stops).wrong (p, s))
