use Rattle.trace_text.specs.Inputs.{tokens_of}
use Rattle.trace_text.proofs.Sayings.{says_fit}
use Rattle.trace_text.proofs.field.tell_field.Goals as goal

pub tell_written-requires-clause-fits : goal.tell_written-requires-clause-fits
tell_written-requires-clause-fits c = says_fit c.args.program.now c.args.field.now (tokens_of c.in_ok-cell.cell c.in_ok-cell.written) c.in_ok-cell.ensures.said
