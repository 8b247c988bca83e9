use Rattle.std.proofs.Common.{◌∷◌, ap, ◌∙◌, arith}
use Rattle.std.proofs.lemmas.Result.{IfOk-weaker}
use Rattle.token_system.specs.Texts.{off, clash}
use Rattle.token_system.proofs.NameFronts.{unmarked}
use Rattle.token_system.proofs.reading.read_token.Goals as goal

pub returns-in-33-clause-read : goal.returns-in-33-clause-read
returns-in-33-clause-read c = IfOk-weaker c.marked.result _ _
    (λ w h. off c.in-Some.name.now (c.in-Some.ensures.cases.0 ∙ ap (λ m. m ∷ c.in-Some.name.now) c.in-33.is) h.0 h.1) c.marked.ensures.read

pub returns-in-35-clause-read : goal.returns-in-35-clause-read
returns-in-35-clause-read c = IfOk-weaker c.marked-in-35.result _ _
    (λ w h. clash c.in-Some.name.now (c.in-Some.ensures.cases.0 ∙ ap (λ m. m ∷ c.in-Some.name.now) c.in-35.is) h.0 h.1) c.marked-in-35.ensures.read

-- neither mark stands first
pub returns-in_default-mark-clause-bad : goal.returns-in_default-mark-clause-bad
returns-in_default-mark-clause-bad c = λ failed w text.
    c.named.ensures.bad failed w (unmarked c.args.bytes.now c.in-Some.name.now c.in-Some.mark.now w c.in-Some.ensures.cases.0 (λ e. omega arith) (λ e. omega arith) text)
