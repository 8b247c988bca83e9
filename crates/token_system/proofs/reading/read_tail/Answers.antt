use Rattle.std.proofs.Common.{refl, rules, arith}
use Rattle.std.proofs.lemmas.Grind.{common_steps}
use Rattle.token_system.specs.Texts.{exactly, at_least, at_most}
use Rattle.token_system.proofs.reading.read_tail.Goals as goal

pub returns-then-relation-eq61-clause-read : goal.returns-then-relation-eq61-clause-read
returns-then-relation-eq61-clause-read c = exactly c.in-Some.after.now _ (grind (arith, common_steps)) (search rules) refl refl

pub returns-in-62-clause-read : goal.returns-in-62-clause-read
returns-in-62-clause-read c = at_least c.in_ok-equals.digits.now _ (grind (arith, common_steps)) (search rules) refl refl

pub returns-in-60-clause-read : goal.returns-in-60-clause-read
returns-in-60-clause-read c = at_most c.in_ok-equals.digits.now _ (grind (arith, common_steps)) (search rules) refl refl
