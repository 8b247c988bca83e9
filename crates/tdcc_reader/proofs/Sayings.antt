-- Keywords and symbols, found by their bytes.
use Rattle.std.proofs.Common.{◌≡◌, ℕ, ℤ, List, [], ◌∷◌, refl, ap, ◌∙◌, Some, None, Bool, true, false, bytes_eq}
use Rattle.std.specs.Prelude.{find, cond}
use Rattle.std.proofs.lemmas.Slice.Eq.{bytes_eq-Decides}
use Rattle.program_lexemes.specs.declared.keywords.Keyword.{Keyword}
use Rattle.program_lexemes.specs.declared.keywords.Keyword.TheVariants as keyword
use Rattle.program_lexemes.specs.declared.symbols.Symbol.{Symbol}
use Rattle.program_lexemes.specs.declared.symbols.Symbol.TheVariants as symbol
use Rattle.program_lexemes.specs.Spellings.{keyword_bytes, symbol_bytes, keywords, symbols, keyword_named, symbol_named}
use Rattle.program_lexemes.proofs.Spelled.{named-keyword_bytes, named-symbol_bytes}
use Rattle.tdcc_reader.specs.LexemeTerms.{keyword_term, symbol_term}
use Rattle.tdcc_reader.specs.Passes.{by_term}
use Rattle.program_grammar.specs.Terms.{class_of}
use Rattle.program_grammar.specs.declared.words.Word.{Word}

-- bytes that are none of the spelled ones are not found
none_with : {K : Type 0} (f : K → List ℕ) (bs : List ℕ) (ks : List K) → ((k : K) → bs ≡ f k → ⊥) → find (λ k. bytes_eq bs (f k)) ks ≡ None
none_with f bs [] h = refl
none_with {K = K} f bs (k ∷ ks) h = go (bytes_eq bs (f k)) (bytes_eq-Decides bs (f k)).0 (none_with f bs ks h)
  where
    go : (b : Bool) → (b ≡ true → bs ≡ f k) → find (λ k. bytes_eq bs (f k)) ks ≡ None → cond b (Some k) (find (λ k. bytes_eq bs (f k)) ks) ≡ None
    go true is rest = absurd (h k (is refl))
    go false is rest = rest

pub keyword_found : (bs : List ℕ) (k : Keyword) → bs ≡ keyword_bytes k → keyword_named bs ≡ Some k
keyword_found bs k e = ap keyword_named e ∙ named-keyword_bytes k

pub symbol_found : (bs : List ℕ) (s : Symbol) → bs ≡ symbol_bytes s → symbol_named bs ≡ Some s
symbol_found bs s e = ap symbol_named e ∙ named-symbol_bytes s

pub keyword_none : (bs : List ℕ) → ((k : Keyword) → bs ≡ keyword_bytes k → ⊥) → keyword_named bs ≡ None
keyword_none bs h = none_with keyword_bytes bs keywords h

pub symbol_none : (bs : List ℕ) → ((s : Symbol) → bs ≡ symbol_bytes s → ⊥) → symbol_named bs ≡ None
symbol_none bs h = none_with symbol_bytes bs symbols h

-- a keyword is neither a name nor a number, and so is a symbol
pub keyword_by : {S : Type 0} (f : List ℕ → S) (g : ℤ → S) (h : Word → S) (k : Keyword) → by_term f g h (keyword_term k) ≡ h (class_of (keyword_term k))
keyword_by f g h keyword.Signal = refl
keyword_by f g h keyword.Int = refl
keyword_by f g h keyword.Set = refl
keyword_by f g h keyword.In = refl
keyword_by f g h keyword.Skip = refl
keyword_by f g h keyword.If = refl
keyword_by f g h keyword.Then = refl
keyword_by f g h keyword.Else = refl
keyword_by f g h keyword.New = refl
keyword_by f g h keyword.Hence = refl
keyword_by f g h keyword.Next = refl
keyword_by f g h keyword.Always = refl
keyword_by f g h keyword.When = refl
keyword_by f g h keyword.Do = refl
keyword_by f g h keyword.Watching = refl
keyword_by f g h keyword.Time = refl
keyword_by f g h keyword.On = refl

pub symbol_by : {S : Type 0} (f : List ℕ → S) (g : ℤ → S) (h : Word → S) (s : Symbol) → by_term f g h (symbol_term s) ≡ h (class_of (symbol_term s))
symbol_by f g h symbol.Semicolon = refl
symbol_by f g h symbol.Comma = refl
symbol_by f g h symbol.Range = refl
symbol_by f g h symbol.Ampersand = refl
symbol_by f g h symbol.Bars = refl
symbol_by f g h symbol.OpenBrace = refl
symbol_by f g h symbol.CloseBrace = refl
symbol_by f g h symbol.Bang = refl
symbol_by f g h symbol.Hash = refl
symbol_by f g h symbol.GreaterEqual = refl
symbol_by f g h symbol.LessEqual = refl
symbol_by f g h symbol.Equal = refl
symbol_by f g h symbol.Colon = refl
