use Rattle.std.proofs.Common.{rules, ap, sym, ◌∙◌, arith, add-one, refl, take, suc}
use Rattle.program_lexemes.specs.declared.lexer.LexKind.TheVariants as kind
use Rattle.program_lexemes.specs.Forms.{is_digit, is_word_byte, is_minus, word_kind, are_digits, are_few_digits}
use Rattle.program_lexemes.proofs.PrefixLengths.{prefix_front, digits_front, no_digits_front, few_digits_front, no_few_digits_front}
use Rattle.program_lexemes.proofs.LongestLexeme.{by_letter, by_digit, by_minus, by_dollar, by_symbol, longest_at, none_at, symbol_at, no_symbol_at, no_minus}
use Rattle.program_lexemes.proofs.lexer.longest.Goals as goal

pub returns-then-is_letter : goal.returns-then-is_letter
returns-then-is_letter c =
    let first = c.in_ok-first.ensures.cases.0 in
    longest_at c.args.form c.args.bytes.now c.in_ok-first.first.now c.in_ok-first.rest.now c.word_len-size.result _ _ _ _ first c.word_len-size.ensures.value (c.word_kind.ensures ∙ ap word_kind (ap (λ i. take i c.args.bytes.now) (add-one c.word_len-size.result) ∙ ap (take (suc c.word_len-size.result)) first)) (by_letter c.args.form c.in_ok-first.first.now (sym c.is_letter.ensures ∙ c.if-is_letter.true)) (prefix_front is_word_byte c.in_ok-first.rest.now)

pub returns-then-is_digit : goal.returns-then-is_digit
returns-then-is_digit c =
    longest_at c.args.form c.args.bytes.now c.in_ok-first.first.now c.in_ok-first.rest.now c.digits_len.result _ _ (λ bs. kind.Number) _ c.in_ok-first.ensures.cases.0 c.digits_len.ensures.value refl (by_digit c.args.form c.in_ok-first.first.now (sym c.is_letter.ensures ∙ c.if-is_letter.false) (sym c.is_digit.ensures ∙ c.if-is_digit.true)) (prefix_front is_digit c.in_ok-first.rest.now)

pub returns-then-digits-eq0 : goal.returns-then-digits-eq0
returns-then-digits-eq0 c =
    none_at c.args.form c.args.bytes.now c.in_ok-first.first.now c.in_ok-first.rest.now are_digits (λ bs. kind.Number) c.in_ok-first.ensures.cases.0 (by_minus c.args.form c.in_ok-first.first.now (sym c.is_letter.ensures ∙ c.if-is_letter.false) (sym c.is_digit.ensures ∙ c.if-is_digit.false) (ap is_minus c.if-first-eq45.true)) (no_digits_front c.in_ok-first.rest.now (sym c.digits_len-digits.ensures.value ∙ c.if-digits-eq0.true))

pub returns-else-digits-eq0 : goal.returns-else-digits-eq0
returns-else-digits-eq0 c =
    longest_at c.args.form c.args.bytes.now c.in_ok-first.first.now c.in_ok-first.rest.now c.digits_len-digits.result _ _ (λ bs. kind.Number) _ c.in_ok-first.ensures.cases.0 c.digits_len-digits.ensures.value refl (by_minus c.args.form c.in_ok-first.first.now (sym c.is_letter.ensures ∙ c.if-is_letter.false) (sym c.is_digit.ensures ∙ c.if-is_digit.false) (ap is_minus c.if-first-eq45.true)) (digits_front c.in_ok-first.rest.now (omega (arith, c.digits_len-digits.ensures.value, c.if-digits-eq0.false)))

pub returns-then-digits-eq0-2 : goal.returns-then-digits-eq0-2
returns-then-digits-eq0-2 c =
    none_at c.args.form c.args.bytes.now c.in_ok-first.first.now c.in_ok-first.rest.now are_few_digits (λ bs. kind.Name) c.in_ok-first.ensures.cases.0 (by_dollar c.args.form c.in_ok-first.first.now (sym c.is_letter.ensures ∙ c.if-is_letter.false) (sym c.is_digit.ensures ∙ c.if-is_digit.false) (no_minus _ c.if-first-eq45.false) (sym c.is_dollar.ensures ∙ c.if-is_dollar.true)) (no_few_digits_front c.in_ok-first.rest.now (omega (arith, c.digits_len-then-is_dollar.ensures.value, c.min-digits.ensures, c.if-digits-eq0-2.true)))

pub returns-else-digits-eq0-2 : goal.returns-else-digits-eq0-2
returns-else-digits-eq0-2 c =
    longest_at c.args.form c.args.bytes.now c.in_ok-first.first.now c.in_ok-first.rest.now c.min-digits.result _ _ (λ bs. kind.Name) _ c.in_ok-first.ensures.cases.0 (omega (arith, c.digits_len-then-is_dollar.ensures.value, c.min-digits.ensures)) refl (by_dollar c.args.form c.in_ok-first.first.now (sym c.is_letter.ensures ∙ c.if-is_letter.false) (sym c.is_digit.ensures ∙ c.if-is_digit.false) (no_minus _ c.if-first-eq45.false) (sym c.is_dollar.ensures ∙ c.if-is_dollar.true)) (few_digits_front c.in_ok-first.rest.now (omega (arith, c.digits_len-then-is_dollar.ensures.value, c.min-digits.ensures, c.if-digits-eq0-2.false)))

pub returns-in_err-size : goal.returns-in_err-size
returns-in_err-size c =
    let none = no_symbol_at c.args.form c.args.bytes.now c.in_ok-first.first.now c.in_ok-first.rest.now c.in_ok-first.ensures.cases.0 (by_symbol c.args.form c.in_ok-first.first.now (sym c.is_letter.ensures ∙ c.if-is_letter.false) (sym c.is_digit.ensures ∙ c.if-is_digit.false) (no_minus _ c.if-first-eq45.false) (sym c.is_dollar.ensures ∙ c.if-is_dollar.false)) c.in_err-size.ensures in
    search (rules, none)

pub returns : goal.returns
returns c = symbol_at c.args.form c.args.bytes.now c.in_ok-first.first.now c.in_ok-first.rest.now c.in_ok-size.size c.in_ok-first.ensures.cases.0 (by_symbol c.args.form c.in_ok-first.first.now (sym c.is_letter.ensures ∙ c.if-is_letter.false) (sym c.is_digit.ensures ∙ c.if-is_digit.false) (no_minus _ c.if-first-eq45.false) (sym c.is_dollar.ensures ∙ c.if-is_dollar.false)) c.in_ok-size.ensures
