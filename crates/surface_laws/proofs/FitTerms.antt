-- In an accepted text each number may stand in a bound, and each name can be written.
use Rattle.std.proofs.Common.{◌≡◌, ℕ, zero, suc, ◌+◌, ◌^◌, ◌<◌, pos, negsuc, List, [], ◌∷◌, length, Option, Some, None, Bool, true, false, refl, sym, ◌∙◌, arith, subst}
use Rattle.std.specs.Prelude.{cond, if◌then◌else◌, option_map, unwrap_or, neg_ℤ, nat_lt, IsTrue}
use Rattle.std.specs.List.{position_from}
use Rattle.std.specs.Str.Parse.{AllDigits, digits_value}
use Rattle.std.proofs.lemmas.Bool.{ltb-false}
use Rattle.std.proofs.lemmas.Int.{ints}
use Rattle.std.proofs.lemmas.Iterator.Adapters.{position_from-zero}
use Rattle.std.proofs.lemmas.Str.Parse.{tells_digits, numerals_by_value, digits_value_short}
use Rattle.program_lexemes.specs.declared.keywords.Keyword.{Keyword}
use Rattle.program_lexemes.specs.declared.keywords.Keyword.TheVariants as keyword
use Rattle.program_lexemes.specs.declared.symbols.Symbol.{Symbol}
use Rattle.program_lexemes.specs.declared.symbols.Symbol.TheVariants as symbol
use Rattle.program_lexemes.specs.declared.lexer.Lexeme.{Lexeme}
use Rattle.program_lexemes.specs.declared.lexer.LexKind.{LexKind}
use Rattle.program_lexemes.specs.declared.lexer.LexKind.TheVariants as kind
use Rattle.program_lexemes.specs.declared.bytes.TextForm.{TextForm}
use Rattle.program_lexemes.specs.Forms.{kind_of, is_minus, are_digits}
use Rattle.program_lexemes.specs.Lexemes.{Reads, bytes_of_lexeme}
use Rattle.program_lexemes.specs.Names.{IsName}
use Rattle.program_lexemes.specs.Spellings.{keyword_named, symbol_named}
use Rattle.program_lexemes.specs.Numbers.{is_number_text, value_of_number, digits_of, is_long}
use Rattle.names_and_numbers.specs.Limits.{longest_name, most_digits}
use Rattle.names_and_numbers.proofs.Decimals.{digits_all}
use Rattle.program_lexemes.proofs.KindSays.{kind_number}
use Rattle.program_lexemes.proofs.Reading.{lexeme_in}
use Rattle.program_grammar.specs.Terms.{Term, Name, Number, Skip}
use Rattle.token_system.specs.Domain.{is_bound}
use Rattle.tdcc_reader.specs.declared.dialect.Dialect.{Dialect}
use Rattle.tdcc_reader.specs.Dialects.{text_form}
use Rattle.tdcc_reader.specs.LexemeTerms.{keyword_term, symbol_term, term_of_lexeme, terms_of, too_long}
use Rattle.tdcc_reader.specs.Refusals.{HasTerms}

-- a number of the term may stand in a bound, and a name of it can be written
abbrev pub IsFit : TextForm → Term → Type 0
IsFit form (Number n) = is_bound n ≡ true
IsFit form (Name x) = IsName form x
IsFit form _ = Unit {0}

abbrev pub AreFit : TextForm → List Term → Type 0
AreFit form [] = Unit {0}
AreFit form (t ∷ ts) = IsFit form t × AreFit form ts

small_natural : (v : ℕ) → v < 10 ^ 9 → is_bound (pos v) ≡ true
small_natural v h = let k : v < 1000000000 = h in let g : IsTrue (is_bound (pos v)) = grind (arith, ints) in g

small_negative : (v : ℕ) → v < 10 ^ 9 → is_bound (neg_ℤ (pos v)) ≡ true
small_negative zero h = refl
small_negative (suc v) h = let k : suc v < 1000000000 = h in let g : IsTrue (is_bound (negsuc v)) = grind (arith, ints) in g

digits_small : (ds : List ℕ) → are_digits ds ≡ true → nat_lt most_digits (length ds) ≡ false → digits_value 10 ds < 10 ^ 9
digits_small ds e h = digits_value_short (numerals_by_value (AllDigits 10) tells_digits) ds 9 (digits_all ds e) (ltb-false most_digits (length ds) h)

number_small : (bytes : List ℕ) → is_number_text bytes ≡ true → nat_lt most_digits (length (digits_of bytes)) ≡ false → is_bound (value_of_number bytes) ≡ true
number_small [] e h = cc
number_small (b ∷ bs) e h = go (is_minus b) e h
  where
    go : (m : Bool) → are_digits (if m then bs else b ∷ bs) ≡ true → nat_lt most_digits (length (if m then bs else b ∷ bs)) ≡ false
        → is_bound (if m then neg_ℤ (pos (digits_value 10 bs)) else pos (digits_value 10 (b ∷ bs))) ≡ true
    go true d l = small_negative (digits_value 10 bs) (digits_small bs d l)
    go false d l = small_natural (digits_value 10 (b ∷ bs)) (digits_small (b ∷ bs) d l)

keyword_fit : (form : TextForm) (o : Option Keyword) → IsFit form (unwrap_or (option_map keyword_term o) Skip)
keyword_fit form None = tt
keyword_fit form (Some keyword.Signal) = tt
keyword_fit form (Some keyword.Int) = tt
keyword_fit form (Some keyword.Set) = tt
keyword_fit form (Some keyword.In) = tt
keyword_fit form (Some keyword.Skip) = tt
keyword_fit form (Some keyword.If) = tt
keyword_fit form (Some keyword.Then) = tt
keyword_fit form (Some keyword.Else) = tt
keyword_fit form (Some keyword.New) = tt
keyword_fit form (Some keyword.Hence) = tt
keyword_fit form (Some keyword.Next) = tt
keyword_fit form (Some keyword.Always) = tt
keyword_fit form (Some keyword.When) = tt
keyword_fit form (Some keyword.Do) = tt
keyword_fit form (Some keyword.Watching) = tt
keyword_fit form (Some keyword.Time) = tt
keyword_fit form (Some keyword.On) = tt

symbol_fit : (form : TextForm) (o : Option Symbol) → IsFit form (unwrap_or (option_map symbol_term o) Skip)
symbol_fit form None = tt
symbol_fit form (Some symbol.Semicolon) = tt
symbol_fit form (Some symbol.Comma) = tt
symbol_fit form (Some symbol.Range) = tt
symbol_fit form (Some symbol.Ampersand) = tt
symbol_fit form (Some symbol.Bars) = tt
symbol_fit form (Some symbol.OpenBrace) = tt
symbol_fit form (Some symbol.CloseBrace) = tt
symbol_fit form (Some symbol.Bang) = tt
symbol_fit form (Some symbol.Hash) = tt
symbol_fit form (Some symbol.GreaterEqual) = tt
symbol_fit form (Some symbol.LessEqual) = tt
symbol_fit form (Some symbol.Equal) = tt
symbol_fit form (Some symbol.Colon) = tt

said_fit : (form : TextForm) (k : LexKind) (bytes : List ℕ) → kind_of form bytes ≡ Some k → is_long k bytes ≡ false → IsFit form (term_of_lexeme k bytes)
said_fit form kind.Name bytes e h = record { is = e; short = ltb-false longest_name (length bytes) h }
said_fit form kind.Keyword bytes e h = keyword_fit form (keyword_named bytes)
said_fit form kind.Number bytes e h = number_small bytes (kind_number form bytes e) h
said_fit form kind.Symbol bytes e h = symbol_fit form (symbol_named bytes)

-- the test does not pass here, nor behind
kept : (b : Bool) (n : ℕ) (o : Option ℕ) → cond b (Some n) o ≡ None → (b ≡ false) × (o ≡ None)
kept true n o e = cc
kept false n o e = (refl, e)

read_fit : (form : TextForm) (text : List ℕ) (ls : List Lexeme) (i j n : ℕ) → Reads form text i ls j → position_from (too_long text) n ls ≡ None → AreFit form (terms_of text ls)
read_fit form text [] i j n r short = tt
read_fit form text (l ∷ ls) i j n (w, is, r) short =
    let (here, behind) = kept (too_long text l) n (position_from (too_long text) (n + 1) ls) short in
    (said_fit form l.kind (bytes_of_lexeme text l) (lexeme_in form text l is).is here, read_fit form text ls l.end j (n + 1) r behind)

-- The terms of an accepted text are fit.
pub terms_fit : (dialect : Dialect) (text : List ℕ) (ts : List Term) → HasTerms dialect text ts → AreFit (text_form dialect) ts
terms_fit dialect text ts has =
    subst (AreFit (text_form dialect)) (sym has.terms)
    (read_fit (text_form dialect) text has.lexemes 0 (length text) 0 has.lexed.lexemes (sym (position_from-zero (too_long text) has.lexemes) ∙ has.short))
