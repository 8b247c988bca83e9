use Rattle.std.proofs.Common.{refl}
use Rattle.command_words.specs.declared.settings.Setting.TheVariants.{Workers, Fuel, Net}
use Rattle.command_words.proofs.KeptNumbers.{no_some, keeps_workers, keeps_fuel, keeps_net, second_number}
use Rattle.command_words.proofs.settings.Settings.with.Goals as goal

pub returns-in-Workers : goal.returns-in-Workers
returns-in-Workers c ss keeps = rw c.in-Workers.is (keeps_workers c.args.self ss c.in-Workers.n (no_some c.args.self.workers c.if-is_none.ensures) keeps)

pub returns-in-Fuel : goal.returns-in-Fuel
returns-in-Fuel c ss keeps = rw c.in-Fuel.is (keeps_fuel c.args.self ss c.in-Fuel.n (no_some c.args.self.fuel c.if-is_none-2.ensures) keeps)

pub returns-in-Net : goal.returns-in-Net
returns-in-Net c ss keeps = rw c.in-Net.is (keeps_net c.args.self ss c.in-Net.n (no_some c.args.self.net c.if-is_none-3.ensures) keeps)

pub returns-in_default : goal.returns-in_default
returns-in_default c ss keeps = rw c.in-Workers.is (second_number Workers ss c.in-Workers.n c.args.self.workers (λ k. refl) keeps.workers c.if-is_none.ensures)

pub returns-in_default-2 : goal.returns-in_default-2
returns-in_default-2 c ss keeps = rw c.in-Fuel.is (second_number Fuel ss c.in-Fuel.n c.args.self.fuel (λ k. refl) keeps.fuel c.if-is_none-2.ensures)

pub returns-in_default-3 : goal.returns-in_default-3
returns-in_default-3 c ss keeps = rw c.in-Net.is (second_number Net ss c.in-Net.n c.args.self.net (λ k. refl) keeps.net c.if-is_none-3.ensures)
