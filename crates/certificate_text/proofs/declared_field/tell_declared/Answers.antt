use Rattle.trace_text.specs.Inputs.{tokens_of}
use Rattle.trace_text.proofs.Sayings.{says_fit}
use Rattle.certificate_text.proofs.declared_field.tell_declared.Goals as goal

pub tell_written-requires-clause-fits : goal.tell_written-requires-clause-fits
tell_written-requires-clause-fits c = says_fit c.args.program.now c.args.field.now (tokens_of c.in-Some.cell c.in-Some.written) c.in-Some.ensures.said
