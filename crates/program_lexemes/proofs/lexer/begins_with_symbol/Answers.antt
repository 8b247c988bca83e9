use Rattle.std.specs.Prelude.{is_some}
use Rattle.std.proofs.Common.{ap, ◌∙◌}
use Rattle.program_lexemes.proofs.Spelled.{symbol_told, front_told}
use Rattle.program_lexemes.proofs.lexer.begins_with_symbol.Goals as goal

pub returns-then-size-bytes : goal.returns-then-size-bytes
returns-then-size-bytes c =
    let told = symbol_told _ c.symbol_of.result c.symbol_of.ensures.found c.symbol_of.ensures.none in
    front_told c.args.bytes.now c.args.size c.is_some.result c.if-size-bytes.true (c.is_some.ensures ∙ ap is_some told)
