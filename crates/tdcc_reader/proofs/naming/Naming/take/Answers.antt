use Rattle.std.proofs.Common.{ap, sym, ◌∙◌}
use Rattle.tdcc_reader.specs.TermViews.{term_view}
use Rattle.tdcc_reader.specs.NamingPass.{resolves_name, resolves_matched, resolves_number, resolves_fixed, names_view}
use Rattle.tdcc_reader.proofs.Sayings.{keyword_by, symbol_by}
use Rattle.tdcc_reader.proofs.naming.Naming.take.Goals as goal

pub returns-in-Keyword : goal.returns-in-Keyword
returns-in-Keyword c =
    c.match_fixed.ensures
    ∙ sym (keyword_by (λ x. resolves_name c.args.lexeme c.args.part x (names_view c.args.self.now)) (λ n. resolves_number c.args.lexeme c.args.part n (names_view c.args.self.now)) (λ w. resolves_fixed c.args.part (names_view c.args.self.now)) c.in-Keyword.field-0)
    ∙ ap (λ t. resolves_matched c.args.lexeme c.args.part (term_view t) (names_view c.args.self.now)) (sym c.in-Keyword.is)

pub returns-in-Symbol : goal.returns-in-Symbol
returns-in-Symbol c =
    c.match_fixed-in-Symbol.ensures
    ∙ sym (symbol_by (λ x. resolves_name c.args.lexeme c.args.part x (names_view c.args.self.now)) (λ n. resolves_number c.args.lexeme c.args.part n (names_view c.args.self.now)) (λ w. resolves_fixed c.args.part (names_view c.args.self.now)) c.in-Symbol.field-0)
    ∙ ap (λ t. resolves_matched c.args.lexeme c.args.part (term_view t) (names_view c.args.self.now)) (sym c.in-Symbol.is)
