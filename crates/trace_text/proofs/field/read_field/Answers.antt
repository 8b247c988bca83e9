use Rattle.std.proofs.Common.{refl, sym, ap, ◌∙◌}
use Rattle.agent_core.specs.declared.node.CellDecl.{CellDecl}
use Rattle.trace_text.specs.Inputs.{name_in, text_fits}
use Rattle.trace_text.proofs.DeclaredTokens.{cell_read}
use Rattle.trace_text.proofs.field.read_field.Goals as goal

pub returns-in_default-clause-refused : goal.returns-in_default-clause-refused
returns-in_default-clause-refused c = (refl, λ w text. c.in_default.ensures.bad refl w text)

pub returns-then-not-text_fits-clause-refused : goal.returns-then-not-text_fits-clause-refused
returns-then-not-text_fits-clause-refused c = (
  refl,
  c.in-Ok.written,
  c.in-Some.cell,
  c.index-cells-cell.result,
  record {
    text = c.in-Ok.ensures.read;
    named = sym c.in-Some.ensures.number;
    found = cell_read c.args.program.now c.cells.result.now (name_in c.args.field.now c.in-Ok.written) c.in-Some.cell c.index-cells-cell.result c.cells.ensures.program.limits.within c.cells.ensures.all (sym c.in-Some.ensures.number) c.index-cells-cell.is;
  },
  ap (λ (d : CellDecl). text_fits d.cell c.in-Ok.written) c.index-cells-cell.is ∙ sym c.text_fits.ensures ∙ c.if-not-text_fits.true,
)

pub returns-clause-said : goal.returns-clause-said
returns-clause-said c = record {
  written = c.in-Ok.written;
  cell = c.in-Some.cell;
  decl = c.index-cells-cell.result;
  names = record {
    text = c.in-Ok.ensures.read;
    named = sym c.in-Some.ensures.number;
    found = cell_read c.args.program.now c.cells.result.now (name_in c.args.field.now c.in-Ok.written) c.in-Some.cell c.index-cells-cell.result c.cells.ensures.program.limits.within c.cells.ensures.all (sym c.in-Some.ensures.number) c.index-cells-cell.is;
  };
  fits = ap (λ (d : CellDecl). text_fits d.cell c.in-Ok.written) c.index-cells-cell.is ∙ sym c.text_fits.ensures ∙ c.if-not-text_fits.false;
  meant = refl;
}
