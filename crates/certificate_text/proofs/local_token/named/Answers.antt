use Rattle.std.proofs.Common.{sym, ap, ◌∙◌, subst, rules, refl, ℕ, List}
use Rattle.std.specs.Prelude.{take, drop}
use Rattle.token_system.specs.Texts.{IsTail}
use Rattle.certificate_text.specs.LocalNames.{local_name_of}
use Rattle.certificate_text.specs.LocalTokens.{plain}
use Rattle.certificate_text.proofs.local_token.named.Goals as goal

pub returns-in_default-clause-bad : goal.returns-in_default-clause-bad
returns-in_default-clause-bad c = λ _ name first second named tail.
    c.in_default.ensures.bad refl first second
    (subst (λ (bs : List ℕ). IsTail bs first second) (sym (c.split_at.ensures.back ∙ ap (λ (n : ℕ). drop n c.args.bytes.now) c.name_len.ensures.value)) tail)

pub returns-in-Some-2-clause-read : goal.returns-in-Some-2-clause-read
returns-in-Some-2-clause-read c =
    plain
    (ap local_name_of (sym (c.split_at.ensures.front ∙ ap (λ (n : ℕ). take n c.args.bytes.now) c.name_len.ensures.value)) ∙ search rules)
    (subst (λ (bs : List ℕ). IsTail bs c.in-Some.first c.in-Some.second) (c.split_at.ensures.back ∙ ap (λ (n : ℕ). drop n c.args.bytes.now) c.name_len.ensures.value) c.in-Some.ensures.read)
