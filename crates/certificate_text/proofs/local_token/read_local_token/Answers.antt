use Rattle.std.proofs.Common.{◌∷◌, ap, ◌∙◌, arith}
use Rattle.std.proofs.lemmas.Result.{IfOk-weaker}
use Rattle.token_system.specs.declared.cell.Token.TheVariants.{Off, Clash}
use Rattle.certificate_text.specs.LocalTokens.{off, clash}
use Rattle.certificate_text.proofs.LocalTokenTexts.{token_read, unmarked}
use Rattle.certificate_text.proofs.local_token.read_local_token.Goals as goal

pub returns-in-33-clause-read : goal.returns-in-33-clause-read
returns-in-33-clause-read c =
    token_read c.args.bytes.now c.in-Some.text.now Off c.marked.result
    (λ name first second n f s. off c.in-Some.text.now (c.in-Some.ensures.cases.0 ∙ ap (λ m. m ∷ c.in-Some.text.now) c.in-33.is) n f s) c.marked.ensures.read

pub returns-in-35-clause-read : goal.returns-in-35-clause-read
returns-in-35-clause-read c =
    token_read c.args.bytes.now c.in-Some.text.now Clash c.marked-in-35.result
    (λ name first second n f s. clash c.in-Some.text.now (c.in-Some.ensures.cases.0 ∙ ap (λ m. m ∷ c.in-Some.text.now) c.in-35.is) n f s) c.marked-in-35.ensures.read

-- neither mark stands first
pub returns-in_default-mark-clause-bad : goal.returns-in_default-mark-clause-bad
returns-in_default-mark-clause-bad c = IfOk-weaker c.named.result _ _
    (λ read bad none. unmarked c.args.bytes.now c.in-Some.text.now c.in-Some.mark.now c.in-Some.ensures.cases.0 (λ e. omega arith) (λ e. omega arith) (bad none)) c.named.ensures.bad
