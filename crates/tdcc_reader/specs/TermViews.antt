-- The terms of the code as the grammar's terms.
use Rattle.program_grammar.specs.Terms as grammar
use Rattle.tdcc_reader.specs.declared.terms.Term.{Term}
use Rattle.tdcc_reader.specs.declared.terms.Term.TheVariants.{Name, Number, Keyword, Symbol}
use Rattle.tdcc_reader.specs.LexemeTerms.{keyword_term, symbol_term}

-- what the term says
abbrev pub term_view : Term → grammar.Term
term_view (Name bytes) = grammar.Name bytes.now
term_view (Number n) = grammar.Number n
term_view (Keyword k) = keyword_term k
term_view (Symbol s) = symbol_term s
