use Rattle.std.proofs.Common.{ℕ, ◌+◌, drop, arith, sym, ◌∙◌, subst, List, length-drop}
use Rattle.program_lexemes.specs.declared.lexer.Lexeme.{Lexeme}
use Rattle.program_lexemes.specs.Lexemes.{Reads, IsLongest}
use Rattle.program_lexemes.proofs.Reading.{white_read, lexeme_read, whole_rest}
use Rattle.program_lexemes.proofs.lexer.read_lexemes.Goals as goal

pub loop-at-preserved-then-is_white : goal.loop-at-preserved-then-is_white
loop-at-preserved-then-is_white c = (omega arith, white_read c.args.form c.args.text.now c.loop-at.found.items 0 c.loop-at.at c.loop-at.invariant.1 c.loop-at-test.true (sym c.is_white.ensures ∙ c.if-is_white.true))

pub loop-at-preserved : goal.loop-at-preserved
loop-at-preserved c =
    let Q : List ℕ → Type 0 = λ b. IsLongest c.args.form b c.in-Some.size c.in-Some.kind in
    let is : IsLongest c.args.form (drop c.loop-at.at c.args.text.now) c.in-Some.size c.in-Some.kind = subst Q (whole_rest c.loop-at.at c.args.text.now) c.in-Some.ensures in
    let P : List Lexeme → Type 0 = λ ls. Reads c.args.form c.args.text.now 0 ls (c.loop-at.at + c.in-Some.size) in (
      omega (arith, is.within, length-drop c.loop-at.at c.args.text.now),
      subst P (sym c.in_ok-push.ensures.items) (lexeme_read c.args.form c.args.text.now c.loop-at.found.items 0 c.loop-at.at c.in-Some.size c.in-Some.kind c.loop-at.invariant.1 is c.loop-at.invariant.0),
    )
