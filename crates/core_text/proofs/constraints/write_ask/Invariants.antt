use Rattle.std.proofs.Common.{◌++◌}
use Rattle.std.specs.Prelude.{codes}
use Rattle.token_system.specs.Texts.{text_of}
use Rattle.core_text.specs.CoreTexts.{name_at, constraint_text}
use Rattle.core_text.proofs.Lists.{Left}
use Rattle.core_text.proofs.constraints.write_ask.Given as goal

abbrev pub invariant-loop-cell : goal.invariant-loop-cell
invariant-loop-cell l = Left (λ x. codes " & " ++ text_of (name_at l.cells x.0) x.1) l.more (l.fn.into.items ++ constraint_text l.cells l.ask) l.cell-index l.into.items
