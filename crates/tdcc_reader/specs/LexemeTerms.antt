-- What the lexemes of a text say: the term of each, by its kind and its bytes. This project's own.
use Rattle.std.specs.Prelude.{ℕ, List, map, option_map, unwrap_or, Bool}
use Rattle.program_lexemes.specs.declared.lexer.LexKind.{LexKind}
use Rattle.program_lexemes.specs.declared.lexer.LexKind.TheVariants as kind
use Rattle.program_lexemes.specs.declared.lexer.Lexeme.{Lexeme}
use Rattle.program_lexemes.specs.declared.keywords.Keyword.{Keyword}
use Rattle.program_lexemes.specs.declared.keywords.Keyword.TheVariants as keyword
use Rattle.program_lexemes.specs.declared.symbols.Symbol.{Symbol}
use Rattle.program_lexemes.specs.declared.symbols.Symbol.TheVariants as symbol
use Rattle.program_lexemes.specs.Spellings.{keyword_named, symbol_named}
use Rattle.program_lexemes.specs.Lexemes.{bytes_of_lexeme}
use Rattle.program_lexemes.specs.Numbers.{value_of_number, is_long}
use Rattle.program_grammar.specs.Terms.{Term, Name, Number, Signal, Int, Set, In, Skip, If, Then, Else, New, Hence, Next, Always, When, Do, Watching, Time, On, Semicolon, Comma, Range, Ampersand, Bars, OpenBrace, CloseBrace, Bang, Hash, GreaterEqual, LessEqual, Equal, Colon}

-- the term of a keyword
abbrev pub keyword_term : Keyword → Term
keyword_term keyword.Signal = Signal
keyword_term keyword.Int = Int
keyword_term keyword.Set = Set
keyword_term keyword.In = In
keyword_term keyword.Skip = Skip
keyword_term keyword.If = If
keyword_term keyword.Then = Then
keyword_term keyword.Else = Else
keyword_term keyword.New = New
keyword_term keyword.Hence = Hence
keyword_term keyword.Next = Next
keyword_term keyword.Always = Always
keyword_term keyword.When = When
keyword_term keyword.Do = Do
keyword_term keyword.Watching = Watching
keyword_term keyword.Time = Time
keyword_term keyword.On = On

-- the term of a symbol
abbrev pub symbol_term : Symbol → Term
symbol_term symbol.Semicolon = Semicolon
symbol_term symbol.Comma = Comma
symbol_term symbol.Range = Range
symbol_term symbol.Ampersand = Ampersand
symbol_term symbol.Bars = Bars
symbol_term symbol.OpenBrace = OpenBrace
symbol_term symbol.CloseBrace = CloseBrace
symbol_term symbol.Bang = Bang
symbol_term symbol.Hash = Hash
symbol_term symbol.GreaterEqual = GreaterEqual
symbol_term symbol.LessEqual = LessEqual
symbol_term symbol.Equal = Equal
symbol_term symbol.Colon = Colon

-- What a lexeme of this kind with these bytes term_of_lexeme. Each keyword and each symbol has a term of its own; the bytes of no
-- keyword and of no symbol stand for `skip`, and no lexeme of these kinds has such bytes.
abbrev pub term_of_lexeme : LexKind → List ℕ → Term
term_of_lexeme kind.Name bytes = Name bytes
term_of_lexeme kind.Keyword bytes = unwrap_or (option_map keyword_term (keyword_named bytes)) Skip
term_of_lexeme kind.Number bytes = Number (value_of_number bytes)
term_of_lexeme kind.Symbol bytes = unwrap_or (option_map symbol_term (symbol_named bytes)) Skip

-- the term of a lexeme of the text
abbrev pub term_of : List ℕ → Lexeme → Term
term_of text l = term_of_lexeme l.kind (bytes_of_lexeme text l)

-- the terms of lexemes of the text
abbrev pub terms_of : List ℕ → List Lexeme → List Term
terms_of text ls = map (term_of text) ls

-- the lexeme is a name of more than 32 bytes or a number of more than 9 digits
abbrev pub too_long : List ℕ → Lexeme → Bool
too_long text l = is_long l.kind (bytes_of_lexeme text l)
