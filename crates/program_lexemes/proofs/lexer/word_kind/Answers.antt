use Rattle.std.proofs.Common.{sym, ap, ◌∙◌}
use Rattle.std.specs.Prelude.{if◌then◌else◌, is_some}
use Rattle.program_lexemes.specs.declared.lexer.LexKind.TheVariants as kind
use Rattle.program_lexemes.proofs.Spelled.{keyword_told}
use Rattle.program_lexemes.proofs.lexer.word_kind.Goals as goal

pub returns-else-is_some : goal.returns-else-is_some
returns-else-is_some c =
    let told = keyword_told c.args.word.now c.keyword_of.result c.keyword_of.ensures.found c.keyword_of.ensures.none in
    ap (λ t. if t then kind.Keyword else kind.Name) (sym c.if-is_some.false ∙ c.is_some.ensures ∙ ap is_some told)
