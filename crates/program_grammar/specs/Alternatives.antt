-- The grammar as data, and the lists of terms that are a symbol of the grammar or begin one, by cases. It says a second
-- time, without the phrases, what the language is. The form is that of context-free grammars; the grammar is this
-- project's own.
use Rattle.std.specs.Prelude.{◌≡◌, ℕ, ℤ, List, [], ◌∷◌, ◌++◌}
use Rattle.program_grammar.specs.Terms.{Term, Name, Number, Signal, Int, In, Skip, If, Then, Else, New, Hence, Next, Always, When, Do, Watching, Time, On, Semicolon, Comma, Range, Ampersand, Bars, OpenBrace, CloseBrace, Bang, Hash, GreaterEqual, LessEqual, Equal}
use Rattle.program_grammar.specs.declared.words.Language.{Language}
use Rattle.program_grammar.specs.declared.words.Language.TheVariants.{Whole}

-- a symbol of the grammar: any name, any number, this keyword or symbol of the text, or a phrase
pub data Symbol : Type 0 where
  AName : Symbol
  ANumber : Symbol
  The : (term : Term) → Symbol
  AToken : Symbol
  AConstraint : Symbol
  AUnit : Symbol
  AnAgent : Symbol
  SomeNames : Symbol
  AnItem : Symbol
  SomeItems : Symbol
  AProgram : Symbol

-- the term alone is the symbol
abbrev pub MatchesSymbol : Symbol → Term → Type 0
MatchesSymbol AName t = (x : List ℕ) × (t ≡ Name x)
MatchesSymbol ANumber t = (n : ℤ) × (t ≡ Number n)
MatchesSymbol (The v) t = t ≡ v
MatchesSymbol _ t = ⊥

-- the alternatives of each phrase; those of the derived forms are of the whole language alone
pub data Alternative : Language → Symbol → List Symbol → Type 0 where
  asserts : {l : Language} → Alternative l AToken (AName ∷ [])
  denies : {l : Language} → Alternative l AToken (The Bang ∷ AName ∷ [])
  clashes : {l : Language} → Alternative l AToken (The Hash ∷ AName ∷ [])
  at_least : {l : Language} → Alternative l AToken (AName ∷ The GreaterEqual ∷ ANumber ∷ [])
  at_most : {l : Language} → Alternative l AToken (AName ∷ The LessEqual ∷ ANumber ∷ [])
  exactly : {l : Language} → Alternative l AToken (AName ∷ The Equal ∷ ANumber ∷ [])
  one : {l : Language} → Alternative l AConstraint (AToken ∷ [])
  both : {l : Language} → Alternative l AConstraint (AToken ∷ The Ampersand ∷ AConstraint ∷ [])
  nothing : {l : Language} → Alternative l AUnit (The Skip ∷ [])
  tell : {l : Language} → Alternative l AUnit (AConstraint ∷ [])
  braces : {l : Language} → Alternative l AUnit (The OpenBrace ∷ AnAgent ∷ The CloseBrace ∷ [])
  if_then : {l : Language} → Alternative l AUnit (The If ∷ AConstraint ∷ The Then ∷ AUnit ∷ [])
  if_else : {l : Language} → Alternative l AUnit (The If ∷ AConstraint ∷ The Else ∷ AUnit ∷ [])
  new_signal : {l : Language} → Alternative l AUnit (The New ∷ The Signal ∷ AName ∷ The In ∷ AUnit ∷ [])
  new_int : {l : Language} → Alternative l AUnit (The New ∷ The Int ∷ AnItem ∷ The In ∷ AUnit ∷ [])
  hence : {l : Language} → Alternative l AUnit (The Hence ∷ AUnit ∷ [])
  next : {l : Language} → Alternative l AUnit (The Next ∷ AUnit ∷ [])
  always : Alternative Whole AUnit (The Always ∷ AUnit ∷ [])
  when_do : Alternative Whole AUnit (The When ∷ AConstraint ∷ The Do ∷ AUnit ∷ [])
  do_watching : Alternative Whole AUnit (The Do ∷ AnAgent ∷ The Watching ∷ AConstraint ∷ [])
  time_on : Alternative Whole AUnit (The Time ∷ AnAgent ∷ The On ∷ AConstraint ∷ [])
  only : {l : Language} → Alternative l AnAgent (AUnit ∷ [])
  par : {l : Language} → Alternative l AnAgent (AUnit ∷ The Bars ∷ AnAgent ∷ [])
  last_name : {l : Language} → Alternative l SomeNames (AName ∷ [])
  more_names : {l : Language} → Alternative l SomeNames (AName ∷ The Comma ∷ SomeNames ∷ [])
  item : {l : Language} → Alternative l AnItem (AName ∷ The In ∷ ANumber ∷ The Range ∷ ANumber ∷ [])
  last_item : {l : Language} → Alternative l SomeItems (AnItem ∷ [])
  more_items : {l : Language} → Alternative l SomeItems (AnItem ∷ The Comma ∷ SomeItems ∷ [])
  runs : {l : Language} → Alternative l AProgram (AnAgent ∷ [])
  signals : {l : Language} → Alternative l AProgram (The Signal ∷ SomeNames ∷ The Semicolon ∷ AProgram ∷ [])
  ints : {l : Language} → Alternative l AProgram (The Int ∷ SomeItems ∷ The Semicolon ∷ AProgram ∷ [])

mutual
  -- the terms are the symbol: a term that fits it, or the symbols of one of its alternatives
  pub data Is : Language → Symbol → List Term → Type 0 where
    itself : {l : Language} {s : Symbol} {t : Term} → MatchesSymbol s t → Is l s (t ∷ [])
    by : {l : Language} {s : Symbol} {parts : List Symbol} {ts : List Term} → Alternative l s parts → AreAll l parts ts → Is l s ts

  -- the terms are these symbols, one after another
  pub data AreAll : Language → List Symbol → List Term → Type 0 where
    none : {l : Language} → AreAll l [] []
    some : {l : Language} {s : Symbol} {ss : List Symbol} {us vs : List Term} → Is l s us → AreAll l ss vs → AreAll l (s ∷ ss) (us ++ vs)

mutual
  -- the terms begin the symbol: they are none, or a term that fits it, or they begin one of its alternatives
  pub data Begins : Language → Symbol → List Term → Type 0 where
    empty : {l : Language} {s : Symbol} → Begins l s []
    itself : {l : Language} {s : Symbol} {t : Term} → MatchesSymbol s t → Begins l s (t ∷ [])
    within : {l : Language} {s : Symbol} {parts : List Symbol} {ts : List Term} → Alternative l s parts → BeginAll l parts ts → Begins l s ts

  -- the terms begin the alternative: they are its first symbols, each whole, and then begin the next one, or are all
  pub data BeginAll : Language → List Symbol → List Term → Type 0 where
    whole : {l : Language} → BeginAll l [] []
    part : {l : Language} {s : Symbol} {ss : List Symbol} {ts : List Term} → Begins l s ts → BeginAll l (s ∷ ss) ts
    past : {l : Language} {s : Symbol} {ss : List Symbol} {us vs : List Term} → Is l s us → BeginAll l ss vs → BeginAll l (s ∷ ss) (us ++ vs)
