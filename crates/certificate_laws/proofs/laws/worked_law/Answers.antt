use Rattle.std.proofs.Common.{refl}
use Rattle.certificate_laws.specs.Worked.{one_of_two}
use Rattle.certificate_laws.proofs.Samples.{one_of_two-program, each_by_other-program, one_of_two-strata, b-certified, a-certified, nobody-certified, as_output, neither, not_both, no_circle}
use Rattle.certificate_laws.proofs.laws.worked_law.Goals as goal

pub returns-clause-two : goal.returns-clause-two
returns-clause-two c = record {
  program = one_of_two-program;
  strata = one_of_two-strata;
  leaves = refl;
  first = b-certified;
  second = a-certified;
  first_output = as_output one_of_two one_of_two-program _ _ b-certified;
  second_output = as_output one_of_two one_of_two-program _ _ a-certified;
  neither = neither;
  both = not_both;
}

pub returns-clause-circle : goal.returns-clause-circle
returns-clause-circle c = record { program = each_by_other-program; leaves = refl; nobody = nobody-certified; circle = no_circle }
