use Rattle.std.proofs.Common.{ap, sym}
use Rattle.std.specs.Prelude.{option_map, unwrap_or}
use Rattle.program_grammar.specs.Terms.{Skip}
use Rattle.tdcc_reader.specs.LexemeTerms.{symbol_term}
use Rattle.tdcc_reader.proofs.Sayings.{symbol_found, symbol_none}
use Rattle.tdcc_reader.proofs.terms.symbol_says.Goals as goal

pub returns-in-Some : goal.returns-in-Some
returns-in-Some c = sym (ap (λ o. unwrap_or (option_map symbol_term o) Skip) (symbol_found c.args.bytes.now c.in-Some.symbol c.in-Some.ensures.found))

pub returns-in-None : goal.returns-in-None
returns-in-None c = sym (ap (λ o. unwrap_or (option_map symbol_term o) Skip) (symbol_none c.args.bytes.now c.in-None.ensures.none))
