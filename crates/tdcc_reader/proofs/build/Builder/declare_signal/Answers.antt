use Rattle.std.proofs.Common.{ap, ◌∙◌}
use Rattle.tdcc_reader.specs.BuildPass.{builds_declaration, built_view}
use Rattle.tdcc_reader.proofs.build.Builder.declare_signal.Goals as goal

pub returns : goal.returns
returns c = c.in_ok-declare.ensures ∙ ap (λ v. builds_declaration c.args.name.now v (built_view c.args.self.now)) (c.signal_cell.ensures c.args.name.now)
