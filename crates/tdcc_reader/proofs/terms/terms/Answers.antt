use Rattle.std.proofs.Common.{ap, sym, ◌∙◌}
use Rattle.std.proofs.lemmas.List.{take_all}
use Rattle.program_lexemes.specs.Numbers.{is_long}
use Rattle.tdcc_reader.specs.LexemeTerms.{too_long, terms_of}
use Rattle.tdcc_reader.proofs.Places.{first_here, nowhere}
use Rattle.tdcc_reader.proofs.terms.terms.Goals as goal

pub returns-then-is_long : goal.returns-then-is_long
returns-then-is_long c = let e = c.is_long.ensures in let b = c.lexeme_bytes-bytes.ensures in first_here (too_long c.args.text.now) c.args.lexemes.now c.loop-place.place _ c.loop-place-test.true (ap (is_long _) (sym b) ∙ sym e ∙ c.if-is_long.true) c.loop-place.invariant.1

pub returns : goal.returns
returns c = let h = c.loop-place-test.false in (nowhere (too_long c.args.text.now) c.args.lexemes.now c.loop-place.place h c.loop-place.invariant.1, c.loop-place.invariant.0 ∙ ap (terms_of c.args.text.now) (take_all c.loop-place.place c.args.lexemes.now h))
