use Rattle.std.proofs.Common.{◌≡◌, take}
use Rattle.std.specs.Prelude.{map}
use Rattle.program_grammar.specs.Terms.{classes}
use Rattle.tdcc_reader.specs.TermViews.{term_view}
use Rattle.tdcc_reader.proofs.terms.words.Given as goal

abbrev pub invariant-loop-term : goal.invariant-loop-term
invariant-loop-term l = classes (map term_view (take l.term-index l.terms)) ≡ l.found.items
