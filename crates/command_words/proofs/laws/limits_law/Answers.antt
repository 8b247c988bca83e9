use Rattle.command_words.proofs.FuelRange.{fuel_range}
use Rattle.command_words.proofs.NetRange.{net_range}
use Rattle.command_words.proofs.laws.limits_law.Goals as goal

pub returns-clause-fuel : goal.returns-clause-fuel
returns-clause-fuel c = fuel_range

pub returns-clause-net : goal.returns-clause-net
returns-clause-net c = net_range
