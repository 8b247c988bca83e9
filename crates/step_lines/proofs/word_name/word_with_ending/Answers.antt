use Rattle.std.proofs.Common.{ℕ, sym, subst}
use Rattle.step_lines.specs.WordNames.{HasEnding}
use Rattle.step_lines.proofs.CellWords.{token_fits, word_found, no_word}
use Rattle.step_lines.proofs.word_name.word_with_ending.Goals as goal

pub word_told-requires : goal.word_told-requires
word_told-requires c = record { fits = token_fits c.args.net.now.cells c.args.cell c.cell.result c.cell.ensures.cell c.args.ending.now c.token_with_ending.result c.token_with_ending.ensures c.in-Some.token c.in-Some.is }

pub returns-in-Some : goal.returns-in-Some
returns-in-Some c = λ cell at.
    subst (λ (word : ℕ). HasEnding cell c.args.ending.now word) (sym (c.word_told.ensures cell at))
    (word_found c.args.net.now.cells c.args.cell c.cell.result c.cell.ensures.cell c.args.ending.now c.token_with_ending.result c.token_with_ending.ensures c.in-Some.token c.in-Some.is cell at)

pub returns-in-None : goal.returns-in-None
returns-in-None c = no_word c.args.net.now.cells c.args.cell c.cell.result c.cell.ensures.cell c.args.ending.now c.token_with_ending.result c.token_with_ending.ensures c.in-None.is
