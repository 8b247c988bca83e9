use Rattle.program_grammar.proofs.Places.{taken-program, events_at-program}
use Rattle.program_grammar.proofs.laws.places_law.Goals as goal

pub returns-clause-terms : goal.returns-clause-terms
returns-clause-terms c = taken-program

pub returns-clause-events : goal.returns-clause-events
returns-clause-events c = events_at-program
