use Rattle.std.proofs.Common.{◌∷◌, ◌∙◌, sym, ap, inl, inr, map}
use Rattle.std.specs.Prelude.{string_bytes}
use Rattle.std.specs.declared.alloc.Global.{Global}
use Rattle.command_words.proofs.CommandWords.{refused}
use Rattle.command_words.proofs.command.command_of.Goals as goal

pub returns-in_err-limits_of-in-run : goal.returns-in_err-limits_of-in-run
returns-in_err-limits_of-in-run c =
    let more = map (string_bytes {Z = Global}) c.in_ok-first.more.now in
    let parts = ap (map (string_bytes {Z = Global})) c.in_ok-first.ensures.cases.0 ∙ ap (λ w. w ∷ more) (sym c.as_str.ensures.value) in
    rw c.from_residual-in_err-limits_of-in-run.ensures (refused (map string_bytes c.args.words.now) more c.as_str.result.now (inl c.in-run.is) parts c.in_err-limits_of-in-run.ensures)

pub returns-in_err-limits_of-in-report : goal.returns-in_err-limits_of-in-report
returns-in_err-limits_of-in-report c =
    let more = map (string_bytes {Z = Global}) c.in_ok-first.more.now in
    let parts = ap (map (string_bytes {Z = Global})) c.in_ok-first.ensures.cases.0 ∙ ap (λ w. w ∷ more) (sym c.as_str.ensures.value) in
    rw c.from_residual-in_err-limits_of-in-report.ensures (refused (map string_bytes c.args.words.now) more c.as_str.result.now (inr c.in-report.is) parts c.in_err-limits_of-in-report.ensures)
