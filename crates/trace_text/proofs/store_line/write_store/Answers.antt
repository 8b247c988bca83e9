use Rattle.std.proofs.Common.{ℕ, ◌-◌, take, ap, ◌∙◌, arith}
use Rattle.trace_text.specs.StoreLines.{cell_texts}
use Rattle.trace_text.proofs.Written.{line_written, nothing_written}
use Rattle.trace_text.proofs.store_line.write_store.Goals as goal

pub returns-then-start-len-clause-ok : goal.returns-then-start-len-clause-ok
returns-then-start-len-clause-ok c =
    c.truncate-then-start-len.ensures.items
    ∙ ap (λ (n : ℕ). take (n - 1) c.write_cells.new.into.items) (c.len-then-start-len.ensures ∙ c.write_cells.new.into.ok.0)
    ∙ line_written c.args.into.now.items c.write_cells.new.into.items (cell_texts 0 (take c.args.program.now.declared c.args.program.now.cells) c.args.store.now) c.in_default.ensures.ok
    (omega (arith, c.write_cells.new.into.ok.0, c.args.into.now.ok.0))

pub returns-else-start-len-clause-ok : goal.returns-else-start-len-clause-ok
returns-else-start-len-clause-ok c =
    nothing_written c.args.into.now.items c.write_cells.new.into.items (cell_texts 0 (take c.args.program.now.declared c.args.program.now.cells) c.args.store.now) c.in_default.ensures.ok
    (omega (arith, c.write_cells.new.into.ok.0, c.args.into.now.ok.0))
