-- The first lexeme that is too long is a name or a number.
use Rattle.std.proofs.Common.{◌≡◌, ◌<◌, ℕ, List, length, get_or, ap, sym, ◌∙◌, Some, true, false, inl, inr}
use Rattle.std.specs.Prelude.{position, ◌⊎◌}
use Rattle.std.proofs.lemmas.List.Quantifiers.{position-Some}
use Rattle.std.proofs.lemmas.Option.{slice_get-get_or}
use Rattle.program_lexemes.specs.declared.lexer.Lexeme.{Lexeme}
use Rattle.program_lexemes.specs.declared.lexer.LexKind.{LexKind}
use Rattle.program_lexemes.specs.declared.lexer.LexKind.TheVariants as kind
use Rattle.program_lexemes.specs.Lexemes.{bytes_of_lexeme}
use Rattle.program_lexemes.specs.Numbers.{is_long}
use Rattle.tdcc_reader.specs.LexemeTerms.{too_long}
use Rattle.tdcc_reader.specs.Refusals.{IsFirstLong}

-- the place of the first long lexeme is one of the list's
pub first_within : (text : List ℕ) (ls : List Lexeme) (place : ℕ) (d : Lexeme) → position (too_long text) ls ≡ Some place → place < length ls
first_within text ls place d e = (position-Some (too_long text) ls place d e).0

pub first_long : (text : List ℕ) (ls : List Lexeme) (place : ℕ) (d : Lexeme) (k : LexKind) → position (too_long text) ls ≡ Some place → (get_or ls place d).kind ≡ k → IsFirstLong text ls k place
first_long text ls place d k first is = record {
  first = first;
  lexeme = get_or ls place d;
  found = slice_get-get_or ls place d (first_within text ls place d first);
  kind = is;
}

-- a keyword or symbol is not too long
pub first_told : (text : List ℕ) (ls : List Lexeme) (place : ℕ) (d : Lexeme) → position (too_long text) ls ≡ Some place → ((get_or ls place d).kind ≡ kind.Keyword) ⊎ ((get_or ls place d).kind ≡ kind.Symbol) → ⊥
first_told text ls place d first is = go is
  where
    long : is_long (get_or ls place d).kind (bytes_of_lexeme text (get_or ls place d)) ≡ true
    long = (position-Some (too_long text) ls place d first).1

    go : ((get_or ls place d).kind ≡ kind.Keyword) ⊎ ((get_or ls place d).kind ≡ kind.Symbol) → ⊥
    go (inl e) = let f : false ≡ true = ap (λ k. is_long k (bytes_of_lexeme text (get_or ls place d))) (sym e) ∙ long in cc
    go (inr e) = let f : false ≡ true = ap (λ k. is_long k (bytes_of_lexeme text (get_or ls place d))) (sym e) ∙ long in cc
