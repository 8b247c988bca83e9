-- How keywords and symbols are spelled. This project's own syntax.
use Rattle.std.specs.Prelude.{ℕ, List, [], ◌∷◌, Bool, Option, is_some, codes, bytes_eq}
use Rattle.std.specs.List.{find}
use Rattle.program_lexemes.specs.declared.keywords.Keyword.{Keyword}
use Rattle.program_lexemes.specs.declared.keywords.Keyword.TheVariants.{Signal, Int, Set, In, Skip, If, Then, Else, New, Hence, Next, Always, When, Do, Watching, Time, On}
use Rattle.program_lexemes.specs.declared.symbols.Symbol.{Symbol}
use Rattle.program_lexemes.specs.declared.symbols.Symbol.TheVariants.{Semicolon, Comma, Range, Ampersand, Bars, OpenBrace, CloseBrace, Bang, Hash, GreaterEqual, LessEqual, Equal, Colon}

-- the bytes of a keyword
abbrev pub keyword_bytes : Keyword → List ℕ
keyword_bytes Signal = codes "signal"
keyword_bytes Int = codes "int"
keyword_bytes Set = codes "set"
keyword_bytes In = codes "in"
keyword_bytes Skip = codes "skip"
keyword_bytes If = codes "if"
keyword_bytes Then = codes "then"
keyword_bytes Else = codes "else"
keyword_bytes New = codes "new"
keyword_bytes Hence = codes "hence"
keyword_bytes Next = codes "next"
keyword_bytes Always = codes "always"
keyword_bytes When = codes "when"
keyword_bytes Do = codes "do"
keyword_bytes Watching = codes "watching"
keyword_bytes Time = codes "time"
keyword_bytes On = codes "on"

-- the bytes of a symbol
abbrev pub symbol_bytes : Symbol → List ℕ
symbol_bytes Semicolon = codes ";"
symbol_bytes Comma = codes ","
symbol_bytes Range = codes ".."
symbol_bytes Ampersand = codes "&"
symbol_bytes Bars = codes "||"
symbol_bytes OpenBrace = codes "{"
symbol_bytes CloseBrace = codes "}"
symbol_bytes Bang = codes "!"
symbol_bytes Hash = codes "#"
symbol_bytes GreaterEqual = codes ">="
symbol_bytes LessEqual = codes "<="
symbol_bytes Equal = codes "="
symbol_bytes Colon = codes ":"

-- all keywords
abbrev pub keywords : List Keyword
keywords = Signal ∷ Int ∷ Set ∷ In ∷ Skip ∷ If ∷ Then ∷ Else ∷ New ∷ Hence ∷ Next ∷ Always ∷ When ∷ Do ∷ Watching ∷ Time ∷ On ∷ []

-- all symbols
abbrev pub symbols : List Symbol
symbols = Semicolon ∷ Comma ∷ Range ∷ Ampersand ∷ Bars ∷ OpenBrace ∷ CloseBrace ∷ Bang ∷ Hash ∷ GreaterEqual ∷ LessEqual ∷ Equal ∷ Colon ∷ []

-- the keyword that is spelled with these bytes
abbrev pub keyword_named : List ℕ → Option Keyword
keyword_named bytes = find (λ k. bytes_eq bytes (keyword_bytes k)) keywords

-- the symbol that is spelled with these bytes
abbrev pub symbol_named : List ℕ → Option Symbol
symbol_named bytes = find (λ s. bytes_eq bytes (symbol_bytes s)) symbols

-- the bytes are a keyword
abbrev pub is_keyword : List ℕ → Bool
is_keyword bytes = is_some (keyword_named bytes)

-- the bytes are a symbol
abbrev pub is_symbol : List ℕ → Bool
is_symbol bytes = is_some (symbol_named bytes)
