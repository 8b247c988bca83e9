use Rattle.std.proofs.Common.{subst, sym}
use Rattle.command_words.specs.declared.settings.Setting.TheVariants.{Fuel, Net}
use Rattle.command_words.specs.Limits.{default_fuel, default_net}
use Rattle.command_words.specs.Settings.{IsLimit}
use Rattle.command_words.proofs.KeptNumbers.{limit_kept}
use Rattle.command_words.proofs.settings.Settings.limits.Goals as goal

pub returns : goal.returns
returns c ss keeps = record {
  fuel = subst (IsLimit ss Fuel default_fuel) (sym c.unwrap_or.ensures) (limit_kept ss Fuel default_fuel c.args.self.fuel keeps.fuel);
  net = subst (IsLimit ss Net default_net) (sym c.unwrap_or-2.ensures) (limit_kept ss Net default_net c.args.self.net keeps.net);
}
