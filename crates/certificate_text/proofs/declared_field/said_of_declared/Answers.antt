use Rattle.std.proofs.Common.{sym, ap, ◌∙◌, refl}
use Rattle.agent_core.specs.declared.node.CellDecl.{CellDecl}
use Rattle.trace_text.specs.declared.fault.LineFault.TheVariants.{UnknownName, WrongKind}
use Rattle.trace_text.specs.Inputs.{name_in, text_fits}
use Rattle.trace_text.proofs.DeclaredTokens.{cell_read}
use Rattle.trace_text.proofs.Refused.{said_not_refused}
use Rattle.certificate_text.proofs.declared_field.said_of_declared.Goals as goal

pub returns-in_default-clause-none : goal.returns-in_default-clause-none
returns-in_default-clause-none c = λ _ says. c.in_default.ensures.bad refl says.1.written says.1.names.text

-- its name is that of no declared cell
pub returns-in_default-cell_named-clause-none : goal.returns-in_default-cell_named-clause-none
returns-in_default-cell_named-clause-none c = λ _ says.
    said_not_refused c.args.program.now (record { offset = 0; bytes = c.args.bytes.now }) says.0 (UnknownName 0) says.1 (λ e. cc)
    (refl, c.in-Ok.written, c.in-Ok.ensures.read, sym c.in_default-cell_named.ensures.number)

-- its token does not fit the cell
pub returns-then-not-both_fit-clause-none : goal.returns-then-not-both_fit-clause-none
returns-then-not-both_fit-clause-none c = λ _ says.
    said_not_refused c.args.program.now (record { offset = 0; bytes = c.args.bytes.now }) says.0 (WrongKind 0) says.1 (λ e. cc) (
      refl,
      c.in-Ok.written,
      c.in-Some.cell,
      c.index-cells-cell.result,
      record {
        text = c.in-Ok.ensures.read;
        named = sym c.in-Some.ensures.number;
        found = cell_read c.args.program.now c.cells.result.now (name_in c.args.bytes.now c.in-Ok.written) c.in-Some.cell c.index-cells-cell.result c.cells.ensures.program.limits.within c.cells.ensures.all (sym c.in-Some.ensures.number) c.index-cells-cell.is;
      },
      ap (λ (d : CellDecl). text_fits d.cell c.in-Ok.written) c.index-cells-cell.is ∙ sym c.both_fit.ensures ∙ c.if-not-both_fit.true,
    )

pub returns-clause-said : goal.returns-clause-said
returns-clause-said c = record {
  written = c.in-Ok.written;
  cell = c.in-Some.cell;
  decl = c.index-cells-cell.result;
  names = record {
    text = c.in-Ok.ensures.read;
    named = sym c.in-Some.ensures.number;
    found = cell_read c.args.program.now c.cells.result.now (name_in c.args.bytes.now c.in-Ok.written) c.in-Some.cell c.index-cells-cell.result c.cells.ensures.program.limits.within c.cells.ensures.all (sym c.in-Some.ensures.number) c.index-cells-cell.is;
  };
  fits = ap (λ (d : CellDecl). text_fits d.cell c.in-Ok.written) c.index-cells-cell.is ∙ sym c.both_fit.ensures ∙ c.if-not-both_fit.false;
  meant = refl;
}
