use Rattle.std.proofs.Common.{◌≡◌, take, drop}
use Rattle.std.specs.Prelude.{map}
use Rattle.std.specs.List.{position_from}
use Rattle.tdcc_reader.specs.LexemeTerms.{terms_of, too_long}
use Rattle.tdcc_reader.specs.TermViews.{term_view}
use Rattle.tdcc_reader.proofs.terms.terms.Given as goal

abbrev pub invariant-loop-place : goal.invariant-loop-place
invariant-loop-place l =
    (map term_view l.found.items ≡ terms_of l.text (take l.place l.lexemes))
    × (position_from (too_long l.text) l.place (drop l.place l.lexemes) ≡ position_from (too_long l.text) 0 l.lexemes)
