use Rattle.std.proofs.Common.{List, ◌++◌, sym, ap, ◌∙◌, subst}
use Rattle.agent_core.specs.Agents.{agent_at}
use Rattle.instant_net.specs.declared.locals.Local.{Local}
use Rattle.instant_net.specs.Locals.{news_of, AreLocalsOf}
use Rattle.instant_net.proofs.LocalCells.{all_news}
use Rattle.instant_net.proofs.locals.locals_of.Goals as goal

pub returns : goal.returns
returns c =
    subst (AreLocalsOf c.args.program.now)
    (sym (c.in_ok-add_news.ensures ∙ ap (λ (xs : List Local). xs ++ news_of 0 0 (agent_at c.args.program.now.nodes 0)) c.new-locals.ensures.items))
    (all_news c.args.program.now c.cells.ensures.program)
