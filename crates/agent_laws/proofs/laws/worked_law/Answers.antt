use Rattle.std.proofs.Common.{refl}
use Rattle.agent_laws.proofs.Samples.{self_defeating-program, later_twice-program, by_default-program, ever_more-program, by_default-table, ever_more-table, by_default-least, self_defeating-none, self_defeating-first}
use Rattle.agent_laws.proofs.SampleOutputs.{absent-output, present-output, absent-ran, present-ran}
use Rattle.agent_laws.proofs.laws.worked_law.Goals as goal

pub returns-clause-default : goal.returns-clause-default
returns-clause-default c = record {
  program = by_default-program;
  table = by_default-table;
  least = by_default-least;
  absent = absent-output;
  present = present-output;
  run_absent = absent-ran;
  run_present = present-ran;
}

pub returns-clause-itself : goal.returns-clause-itself
returns-clause-itself c = record { program = self_defeating-program; none = self_defeating-none; first = self_defeating-first }

pub returns-clause-later : goal.returns-clause-later
returns-clause-later c = record {
  program = later_twice-program;
  roots_0 = refl;
  roots_1 = refl;
  roots_2 = refl;
  roots_3 = refl;
  leaves_0 = refl;
  leaves_1 = refl;
  leaves_2 = refl;
  leaves_3 = refl;
}

pub returns-clause-more : goal.returns-clause-more
returns-clause-more c = record {
  program = ever_more-program;
  table = ever_more-table;
  leaves_0 = refl;
  leaves_1 = refl;
  leaves_2 = refl;
  leaves_3 = refl;
  leaves_4 = refl;
}
