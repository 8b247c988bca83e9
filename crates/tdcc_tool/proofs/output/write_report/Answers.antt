use Rattle.std.proofs.Common.{List, ℕ, [], ◌++◌, ap, ◌∙◌, append_assoc}
use Rattle.std.specs.Prelude.{codes, decimal}
use Rattle.tdcc_tool.proofs.output.write_report.Goals as goal

pub returns : goal.returns
returns c =
    let r = c.args.counts in
    let one = c.in_ok-write_count.ensures ∙ ap (λ (k : ℕ). c.args.into.now.items ++ [] ++ decimal k) c.from.ensures in
    let two = c.in_ok-write_count-2.ensures ∙ ap (λ (xs : List ℕ). xs ++ codes " ran " ++ decimal r.ran) one in
    let three = c.in_ok-write_count-3.ensures ∙ ap (λ (xs : List ℕ). xs ++ codes " confirmed " ++ decimal r.confirmed) two in
    let four = c.in_ok-write_count-4.ensures ∙ ap (λ (xs : List ℕ). xs ++ codes " refuted " ++ decimal r.refuted) three in
    let five = c.in_ok-write_count-5.ensures ∙ ap (λ (xs : List ℕ). xs ++ codes " parked " ++ decimal r.parked) four in
    let all = c.in_ok-write_count-6.ensures ∙ ap (λ (xs : List ℕ). xs ++ codes " next " ++ decimal r.next) five in
    simp append_assoc (simp append_assoc at all)
