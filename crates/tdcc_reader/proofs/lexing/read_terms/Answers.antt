use Rattle.std.proofs.Common.{sym, subst}
use Rattle.std.specs.Prelude.{All}
use Rattle.program_lexemes.specs.Lexemes.{IsIn}
use Rattle.tdcc_reader.specs.Dialects.{text_form}
use Rattle.tdcc_reader.proofs.lexing.read_terms.Goals as goal

pub terms-requires : goal.terms-requires
terms-requires c = (text_form c.args.dialect, subst (All (IsIn (text_form c.args.dialect) c.args.text.now)) (sym c.deref.ensures.value) c.in_ok-lexemes.ensures.each)
