use Rattle.std.proofs.Common.{sym, ◌∙◌, subst}
use Rattle.agent_core.specs.Names.{IsClosure}
use Rattle.agent_core.proofs.Scopes.{root-IsClosure}
use Rattle.agent_core.proofs.tests.root.Goals as goal

pub returns : goal.returns
returns c = subst (IsClosure c.args.program.now 0) (sym (c.make.ensures ∙ c.new.ensures.items)) (root-IsClosure c.args.program.now c.requires)
