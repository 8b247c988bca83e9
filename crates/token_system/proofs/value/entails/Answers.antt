use Rattle.std.proofs.Common.{rules}
use Rattle.token_system.proofs.Standing.{answer_stands}
use Rattle.token_system.proofs.value.entails.Goals as goal

pub returns-in-Number-AtLeast-clause-as_its_tokens :
    goal.returns-in-Number-AtLeast-clause-as_its_tokens
returns-in-Number-AtLeast-clause-as_its_tokens c =
    answer_stands c.args.value c.args.token _ (search rules)

pub returns-in-Number-AtMost-clause-as_its_tokens :
    goal.returns-in-Number-AtMost-clause-as_its_tokens
returns-in-Number-AtMost-clause-as_its_tokens c =
    answer_stands c.args.value c.args.token _ (search rules)
