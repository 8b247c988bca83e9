use Rattle.std.proofs.Common.{ap, sym}
use Rattle.std.specs.Prelude.{option_map, unwrap_or}
use Rattle.program_grammar.specs.Terms.{Skip}
use Rattle.tdcc_reader.specs.LexemeTerms.{keyword_term}
use Rattle.tdcc_reader.proofs.Sayings.{keyword_found, keyword_none}
use Rattle.tdcc_reader.proofs.terms.keyword_says.Goals as goal

pub returns-in-Some : goal.returns-in-Some
returns-in-Some c = sym (ap (λ o. unwrap_or (option_map keyword_term o) Skip) (keyword_found c.args.bytes.now c.in-Some.keyword c.in-Some.ensures.found))

pub returns-in-None : goal.returns-in-None
returns-in-None c = sym (ap (λ o. unwrap_or (option_map keyword_term o) Skip) (keyword_none c.args.bytes.now c.in-None.ensures.none))
