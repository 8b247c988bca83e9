use Rattle.std.proofs.Common.{◌≡◌, length, [], rules, tests, refl, ◌∙◌, arith}
use Rattle.std.specs.Prelude.{codes, pos}
use Rattle.std.proofs.lemmas.Slice.Eq.{text_from_reads}
use Rattle.token_system.specs.declared.cell.Kind.TheVariants.{Signal, Number}
use Rattle.token_system.specs.declared.cell.Token.TheVariants.{On, AtLeast, AtMost}
use Rattle.step_lines.specs.WordNames.{signal, lower, upper}
use Rattle.step_lines.proofs.CellWords.{kind_fits, signal_word, lower_word, upper_word}
use Rattle.step_lines.proofs.word_name.token_with_ending.Goals as goal

pub returns-in-Signal : goal.returns-in-Signal
returns-in-Signal c = λ cell same.
    let kind = same ∙ c.in-Signal.is in
    let none : length c.args.ending.now ≡ 0 = search (rules, tests) in
    (kind_fits cell Signal On kind refl, signal kind (text_from_reads c.args.ending.now [] none tt) (signal_word cell kind))

pub returns-in-46 : goal.returns-in-46
returns-in-46 c = λ cell same.
    let kind = same ∙ c.in-Number.is in
    let ending : c.args.ending.now ≡ codes ".lo" = text_from_reads c.args.ending.now (codes ".lo") (omega arith) (search rules) in
    (kind_fits cell Number (AtLeast (pos 0)) kind refl, lower kind ending (lower_word cell (pos 0) kind))

pub returns-in-46-2 : goal.returns-in-46-2
returns-in-46-2 c = λ cell same.
    let kind = same ∙ c.in-Number.is in
    let ending : c.args.ending.now ≡ codes ".hi" = text_from_reads c.args.ending.now (codes ".hi") (omega arith) (search rules) in
    (kind_fits cell Number (AtMost (pos 0)) kind refl, upper kind ending (upper_word cell (pos 0) kind))
