use Rattle.std.proofs.Common.{◌∙◌}
use Rattle.std.proofs.lemmas.Bool.Decides.{Decides-eqb}
use Rattle.std.proofs.lemmas.Option.{MatchOption-at_some, MatchOption-at_none}
use Rattle.std.proofs.lemmas.Slice.Eq.{strip_prefix_is}
use Rattle.step_lines.proofs.CellWords.{name_written, named_behind, none_behind}
use Rattle.step_lines.proofs.word_name.word_of_cell.Goals as goal

pub returns-in-Some : goal.returns-in-Some
returns-in-Some c = λ cell at.
    let stripped = strip_prefix_is Decides-eqb c.args.text.now c.as_slice.result.now c.strip_prefix.result c.strip_prefix.ensures.cases in
    let name = name_written c.args.program.now c.args.net.now.cells c.args.cell c.cell_name.result.now _ _ c.cell_name.ensures c.clear.ensures.items c.in_ok-write_cell_name.ensures cell at in
    named_behind c.args.program.now cell c.args.text.now c.as_slice.result.now (c.as_slice.ensures.value ∙ name) c.in-Some.ending.now c.word_with_ending.result
    (MatchOption-at_some _ _ c.in-Some.ending c.in-Some.is stripped) (c.word_with_ending.ensures cell at)

pub returns-in-None : goal.returns-in-None
returns-in-None c = λ cell at.
    let stripped = strip_prefix_is Decides-eqb c.args.text.now c.as_slice.result.now c.strip_prefix.result c.strip_prefix.ensures.cases in
    let name = name_written c.args.program.now c.args.net.now.cells c.args.cell c.cell_name.result.now _ _ c.cell_name.ensures c.clear.ensures.items c.in_ok-write_cell_name.ensures cell at in
    none_behind c.args.program.now cell c.args.text.now c.as_slice.result.now (c.as_slice.ensures.value ∙ name) (MatchOption-at_none _ _ c.in-None.is stripped)
