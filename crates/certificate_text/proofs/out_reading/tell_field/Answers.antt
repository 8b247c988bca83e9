use Rattle.std.proofs.Common.{subst}
use Rattle.std.specs.Prelude.{IfSome}
use Rattle.trace_text.specs.Inputs.{tokens_of}
use Rattle.trace_text.proofs.Sayings.{says_fit}
use Rattle.certificate_text.specs.LocalCells.{IsSaidOfLocal}
use Rattle.certificate_text.specs.OutReadings.{of_local}
use Rattle.certificate_text.proofs.OutWalks.{first_held, second_held}
use Rattle.certificate_text.proofs.out_reading.tell_field.Goals as goal

pub tell_written-requires-clause-fits : goal.tell_written-requires-clause-fits
tell_written-requires-clause-fits c = says_fit c.args.program.now c.args.field.now (tokens_of c.in-Some.cell c.in-Some.written) c.in-Some.ensures.said

pub tell_said-requires-clause-first : goal.tell_said-requires-clause-first
tell_said-requires-clause-first c =
    let said = subst (λ o. IfSome o (λ s. IsSaidOfLocal c.args.program.now c.args.instant c.args.field.now s.0.name s.1 s.0.first s.0.second)) c.in-Some-2.is c.in_ok-said.ensures.said in
    first_held c.args.program.now c.args.instant c.args.field.now c.in-Some-2.said.name c.in-Some-2.cell c.in-Some-2.said.first c.in-Some-2.said.second said c.args.store.now c.requires.store

pub tell_said-requires-clause-second : goal.tell_said-requires-clause-second
tell_said-requires-clause-second c =
    let said = subst (λ o. IfSome o (λ s. IsSaidOfLocal c.args.program.now c.args.instant c.args.field.now s.0.name s.1 s.0.first s.0.second)) c.in-Some-2.is c.in_ok-said.ensures.said in
    second_held c.args.program.now c.args.instant c.args.field.now c.in-Some-2.said.name c.in-Some-2.cell c.in-Some-2.said.first c.in-Some-2.said.second said c.args.store.now c.requires.store

pub returns-clause-told : goal.returns-clause-told
returns-clause-told c =
    let said = subst (λ o. IfSome o (λ s. IsSaidOfLocal c.args.program.now c.args.instant c.args.field.now s.0.name s.1 s.0.first s.0.second)) c.in-Some-2.is c.in_ok-said.ensures.said in
    of_local c.in-Some-2.said.name c.in-Some-2.cell c.in-Some-2.said.first c.in-Some-2.said.second said c.in_ok-tell_said.ensures
