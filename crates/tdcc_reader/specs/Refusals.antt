-- The refusals of a text of a dialect, in their order: each says that those before it do not come, and where it is. This
-- project's own.
use Rattle.std.specs.Prelude.{◌≡◌, ℕ, ◌<◌, ◌≤◌, List, length, Some, None, position, slice_get}
use Rattle.program_lexemes.specs.declared.lexer.Lexeme.{Lexeme}
use Rattle.program_lexemes.specs.declared.lexer.LexKind.{LexKind}
use Rattle.program_lexemes.specs.declared.lexer.LexKind.TheVariants as kind
use Rattle.program_lexemes.specs.Lexemes.{AreLexemes, IsBad}
use Rattle.program_grammar.specs.Terms.{Term, classes}
use Rattle.program_grammar.specs.Phrases.{ProgramPhrase}
use Rattle.program_grammar.specs.Programs.{Spells, IsFault}
use Rattle.agent_core.specs.Limits.{most_declared_cells}
use Rattle.tdcc_reader.specs.declared.dialect.Dialect.{Dialect}
use Rattle.tdcc_reader.specs.declared.fault.ReadFault.{ReadFault}
use Rattle.tdcc_reader.specs.declared.fault.ReadFault.TheVariants.{TextTooLong, Lex, LongName, LongNumber, Later, Syntax, TooDeep, TooManyTokens, DoubleName, EmptyDomain, UnknownName, WrongKind, TooManyDeclared, Memory}
use Rattle.tdcc_reader.specs.declared.limits.Limit.TheVariants as limit
use Rattle.tdcc_reader.specs.declared.naming.NameFault.TheVariants as naming
use Rattle.tdcc_reader.specs.Dialects.{max_bytes, text_form, language}
use Rattle.tdcc_reader.specs.LimitFaults.{program_limit}
use Rattle.tdcc_reader.specs.Scope.{program_fault}
use Rattle.tdcc_reader.specs.Surfaces.{declared_cells}
use Rattle.tdcc_reader.specs.LexemeTerms.{terms_of, too_long}
use Rattle.tdcc_reader.specs.Stages.{is_later}

-- the text is not too long, and these are its lexemes
pub record IsLexed (dialect : Dialect) (text : List ℕ) (ls : List Lexeme) : Type 0 where
  pub within : length text ≤ max_bytes dialect
  pub lexemes : AreLexemes (text_form dialect) text ls

-- no lexeme of the text is too long, and these are the terms of its lexemes
pub record HasTerms (dialect : Dialect) (text : List ℕ) (ts : List Term) : Type 0 where
  pub lexemes : List Lexeme
  pub lexed : IsLexed dialect text lexemes
  pub short : position (too_long text) lexemes ≡ None
  pub terms : ts ≡ terms_of text lexemes

-- the first of these lexemes that is too long is at this place, and it is of this kind
pub record IsFirstLong (text : List ℕ) (ls : List Lexeme) (k : LexKind) (place : ℕ) : Type 0 where
  pub first : position (too_long text) ls ≡ Some place
  pub lexeme : Lexeme
  pub found : slice_get ls place ≡ Some lexeme
  pub kind : lexeme.kind ≡ k

-- a lexeme is too long
abbrev pub RefusesLexemes : List ℕ → List Lexeme → ReadFault → Type 0
RefusesLexemes text ls (LongName place) = IsFirstLong text ls kind.Name place
RefusesLexemes text ls (LongNumber place) = IsFirstLong text ls kind.Number place
RefusesLexemes text ls _ = ⊥

-- no term belongs to a form that is not built yet, and the terms are this program
pub record IsProgramOf (dialect : Dialect) (ts : List Term) (p : ProgramPhrase) : Type 0 where
  pub built : position is_later (classes ts) ≡ None
  pub spells : Spells (language dialect) p ts

-- a unit of the program is too deep, or a constraint has too many tokens
abbrev pub RefusesLimits : Dialect → ProgramPhrase → ReadFault → Type 0
RefusesLimits dialect p (TooDeep place) = program_limit dialect p ≡ Some (limit.TooDeep place)
RefusesLimits dialect p (TooManyTokens place) = program_limit dialect p ≡ Some (limit.TooManyTokens place)
RefusesLimits dialect p _ = ⊥

-- a name or a domain of the program is faulty
abbrev pub RefusesNames : ProgramPhrase → ReadFault → Type 0
RefusesNames p (DoubleName place) = program_fault p ≡ Some (naming.DoubleName place)
RefusesNames p (EmptyDomain place) = program_fault p ≡ Some (naming.EmptyDomain place)
RefusesNames p (UnknownName place) = program_fault p ≡ Some (naming.UnknownName place)
RefusesNames p (WrongKind place) = program_fault p ≡ Some (naming.WrongKind place)
RefusesNames p Memory = Unit {0}
RefusesNames p _ = ⊥

-- the terms belong to a form that is not built yet, or are no program, or are one that is refused; out of memory says
-- nothing of them
abbrev pub RefusesTerms : Dialect → List Term → ReadFault → Type 0
RefusesTerms dialect ts (Later place) = position is_later (classes ts) ≡ Some place
RefusesTerms dialect ts (Syntax place) = (position is_later (classes ts) ≡ None) × IsFault (language dialect) ts place
RefusesTerms dialect ts Memory = Unit {0}
RefusesTerms dialect ts (TooDeep place) = (p : ProgramPhrase) × IsProgramOf dialect ts p × RefusesLimits dialect p (TooDeep place)
RefusesTerms dialect ts (TooManyTokens place) = (p : ProgramPhrase) × IsProgramOf dialect ts p × RefusesLimits dialect p (TooManyTokens place)
RefusesTerms dialect ts TooManyDeclared = (p : ProgramPhrase) × IsProgramOf dialect ts p × (program_limit dialect p ≡ None) × (program_fault p ≡ None) × (most_declared_cells < length (declared_cells p))
RefusesTerms dialect ts fault = (p : ProgramPhrase) × IsProgramOf dialect ts p × (program_limit dialect p ≡ None) × RefusesNames p fault

-- the text is refused: it is too long, has a bad byte or a lexeme that is too long, or its terms are refused; want of
-- memory says nothing of the text
abbrev pub Refuses : Dialect → List ℕ → ReadFault → Type 0
Refuses dialect text TextTooLong = max_bytes dialect < length text
Refuses dialect text (Lex offset) = (length text ≤ max_bytes dialect) × IsBad (text_form dialect) text offset
Refuses dialect text (LongName place) = (ls : List Lexeme) × IsLexed dialect text ls × RefusesLexemes text ls (LongName place)
Refuses dialect text (LongNumber place) = (ls : List Lexeme) × IsLexed dialect text ls × RefusesLexemes text ls (LongNumber place)
Refuses dialect text Memory = Unit {0}
Refuses dialect text fault = (ts : List Term) × HasTerms dialect text ts × RefusesTerms dialect ts fault

-- the text is this program, and it is not refused
pub record Accepts (dialect : Dialect) (text : List ℕ) (p : ProgramPhrase) : Type 0 where
  pub terms : List Term
  pub has : HasTerms dialect text terms
  pub is : IsProgramOf dialect terms p
  pub within : program_limit dialect p ≡ None
  pub named : program_fault p ≡ None
  pub declared : length (declared_cells p) ≤ most_declared_cells
