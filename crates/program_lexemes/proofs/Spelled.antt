-- Keywords and symbols, told by their bytes.
use Rattle.std.proofs.Common.{◌≡◌, ℕ, ◌<◌, ◌≤◌, List, [], ◌∷◌, length, take, refl, ap, sym, ◌∙◌, arith, Option, Some, None, Bool, true, false, subst, bytes_eq}
use Rattle.std.specs.Prelude.{MatchBool, IfSome, IfNone, is_some, if◌then◌else◌}
use Rattle.std.specs.List.{find}
use Rattle.std.proofs.lemmas.Slice.Eq.{bytes_eq-Decides}
use Rattle.program_lexemes.specs.declared.keywords.Keyword.{Keyword}
use Rattle.program_lexemes.specs.declared.keywords.Keyword.TheVariants as keyword
use Rattle.program_lexemes.specs.declared.symbols.Symbol.{Symbol}
use Rattle.program_lexemes.specs.declared.symbols.Symbol.TheVariants as symbol
use Rattle.program_lexemes.specs.Spellings.{keyword_bytes, symbol_bytes, keywords, symbols, keyword_named, symbol_named, is_keyword, is_symbol}

-- what is found among some spelled bytes is spelled so
spelled : {K : Type 0} (f : K → List ℕ) (bs : List ℕ) (ks : List K) → is_some (find (λ k. bytes_eq bs (f k)) ks) ≡ true → (k : K) × (bs ≡ f k)
spelled f bs [] e = cc
spelled {K = K} f bs (k ∷ ks) e = go (bytes_eq bs (f k)) refl e (spelled f bs ks)
  where
    go : (t : Bool) → bytes_eq bs (f k) ≡ t → is_some (if t then Some k else find (λ k. bytes_eq bs (f k)) ks) ≡ true → (is_some (find (λ k. bytes_eq bs (f k)) ks) ≡ true → (k : K) × (bs ≡ f k)) → (k : K) × (bs ≡ f k)
    go true h e rest = (k, (bytes_eq-Decides bs (f k)).0 h)
    go false h e rest = rest e

pub keyword_spelled : (bs : List ℕ) → is_keyword bs ≡ true → (k : Keyword) × (bs ≡ keyword_bytes k)
keyword_spelled bs e = spelled keyword_bytes bs keywords e

pub symbol_spelled : (bs : List ℕ) → is_symbol bs ≡ true → (s : Symbol) × (bs ≡ symbol_bytes s)
symbol_spelled bs e = spelled symbol_bytes bs symbols e

-- the spelling of a keyword is that of no other
pub named-keyword_bytes : (k : Keyword) → keyword_named (keyword_bytes k) ≡ Some k
named-keyword_bytes keyword.Signal = refl
named-keyword_bytes keyword.Int = refl
named-keyword_bytes keyword.Set = refl
named-keyword_bytes keyword.In = refl
named-keyword_bytes keyword.Skip = refl
named-keyword_bytes keyword.If = refl
named-keyword_bytes keyword.Then = refl
named-keyword_bytes keyword.Else = refl
named-keyword_bytes keyword.New = refl
named-keyword_bytes keyword.Hence = refl
named-keyword_bytes keyword.Next = refl
named-keyword_bytes keyword.Always = refl
named-keyword_bytes keyword.When = refl
named-keyword_bytes keyword.Do = refl
named-keyword_bytes keyword.Watching = refl
named-keyword_bytes keyword.Time = refl
named-keyword_bytes keyword.On = refl

pub named-symbol_bytes : (s : Symbol) → symbol_named (symbol_bytes s) ≡ Some s
named-symbol_bytes symbol.Semicolon = refl
named-symbol_bytes symbol.Comma = refl
named-symbol_bytes symbol.Range = refl
named-symbol_bytes symbol.Ampersand = refl
named-symbol_bytes symbol.Bars = refl
named-symbol_bytes symbol.OpenBrace = refl
named-symbol_bytes symbol.CloseBrace = refl
named-symbol_bytes symbol.Bang = refl
named-symbol_bytes symbol.Hash = refl
named-symbol_bytes symbol.GreaterEqual = refl
named-symbol_bytes symbol.LessEqual = refl
named-symbol_bytes symbol.Equal = refl
named-symbol_bytes symbol.Colon = refl

-- what is found by its spelling, and nothing where there is no such spelling, is what is named
told : {K : Type 0} (f : K → List ℕ) (named : List ℕ → Option K) (bs : List ℕ) (o : Option K) → ((k : K) → named (f k) ≡ Some k) → (is_some (named bs) ≡ true → (k : K) × (bs ≡ f k))
    → IfSome o (λ k. bs ≡ f k) → IfNone o ((k : K) → bs ≡ f k → ⊥) → o ≡ named bs
told f named bs (Some k) is back found none = sym (ap named found ∙ is k)
told {K = K} f named bs None is back found none = go (named bs) back
  where
    go : (o : Option K) → (is_some o ≡ true → (k : K) × (bs ≡ f k)) → None ≡ o
    go None h = refl
    go (Some k) h = let (j, e) = h refl in absurd (none j e)

-- What a look-up finds by its spelling is the keyword, or the symbol, that is named.
pub keyword_told : (bs : List ℕ) (o : Option Keyword) → IfSome o (λ k. bs ≡ keyword_bytes k) → IfNone o ((k : Keyword) → bs ≡ keyword_bytes k → ⊥) → o ≡ keyword_named bs
keyword_told bs o = told keyword_bytes keyword_named bs o named-keyword_bytes (keyword_spelled bs)

pub symbol_told : (bs : List ℕ) (o : Option Symbol) → IfSome o (λ s. bs ≡ symbol_bytes s) → IfNone o ((s : Symbol) → bs ≡ symbol_bytes s → ⊥) → o ≡ symbol_named bs
symbol_told bs o = told symbol_bytes symbol_named bs o named-symbol_bytes (symbol_spelled bs)

symbol_short : (s : Symbol) → length (symbol_bytes s) ≤ 2
symbol_short symbol.Semicolon = omega arith
symbol_short symbol.Comma = omega arith
symbol_short symbol.Range = omega arith
symbol_short symbol.Ampersand = omega arith
symbol_short symbol.Bars = omega arith
symbol_short symbol.OpenBrace = omega arith
symbol_short symbol.CloseBrace = omega arith
symbol_short symbol.Bang = omega arith
symbol_short symbol.Hash = omega arith
symbol_short symbol.GreaterEqual = omega arith
symbol_short symbol.LessEqual = omega arith
symbol_short symbol.Equal = omega arith
symbol_short symbol.Colon = omega arith

-- more than two bytes are no symbol
pub no_symbol : (bs : List ℕ) → 2 < length bs → is_symbol bs ≡ false
no_symbol bs h = go (is_symbol bs) refl
  where
    go : (t : Bool) → is_symbol bs ≡ t → t ≡ false
    go true e = let (s, q) = symbol_spelled bs e in let short : length bs ≤ 2 = subst (λ (l : List ℕ). length l ≤ 2) (sym q) (symbol_short s) in absurd (omega (arith, h, short))
    go false e = refl

-- so many first bytes are a symbol, as the look-up tells
pub front_told : (bs : List ℕ) (size : ℕ) (r : Bool) → size ≤ length bs → r ≡ is_symbol (take size bs) → MatchBool r ((size ≤ length bs) × (is_symbol (take size bs) ≡ true)) (size ≤ length bs → is_symbol (take size bs) ≡ false)
front_told bs size true h e = (h, sym e)
front_told bs size false h e = λ _. sym e
