use Rattle.std.proofs.Common.{◌-◌, length}
use Rattle.instant_net.proofs.locals.+add_news.Given as goal

abbrev pub decreases-add_news : goal.decreases-add_news
decreases-add_news l = length l.program.now.nodes - l.node
