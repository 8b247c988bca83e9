use Rattle.program_lexemes.specs.declared.lexer.LexKind.TheVariants as kind
use Rattle.tdcc_reader.proofs.LongLexemes.{first_long, first_told}
use Rattle.tdcc_reader.proofs.lexing.long_fault.Goals as goal

pub unreachable-requires : goal.unreachable-requires
unreachable-requires c = first_told c.args.text.now c.args.lexemes.now c.args.place _ c.requires.first c.in-Keyword.is

pub returns-in-Name : goal.returns-in-Name
returns-in-Name c = first_long c.args.text.now c.args.lexemes.now c.args.place _ kind.Name c.requires.first c.in-Name.is

pub returns-in-Number : goal.returns-in-Number
returns-in-Number c = first_long c.args.text.now c.args.lexemes.now c.args.place _ kind.Number c.requires.first c.in-Number.is
