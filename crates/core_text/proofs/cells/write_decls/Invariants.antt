use Rattle.std.proofs.Common.{◌++◌}
use Rattle.std.specs.Prelude.{codes}
use Rattle.core_text.specs.CoreTexts.{decl_text, decl_lines}
use Rattle.core_text.proofs.Lists.{Left}
use Rattle.core_text.proofs.cells.write_decls.Given as goal

abbrev pub invariant-loop-decl : goal.invariant-loop-decl
invariant-loop-decl l = Left (λ d. decl_text d ++ codes ";\n") l.cells (l.fn.into.items ++ decl_lines l.cells) l.decl-index l.into.items
