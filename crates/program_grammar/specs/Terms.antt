-- The terms of a program's text: what the grammar reads of a lexeme, with what a program keeps of it. A name stands
-- with its bytes and a number with its value; each keyword and each symbol stands for itself. This project's own.
use Rattle.std.specs.Prelude.{ℕ, ℤ, List, map}
use Rattle.program_grammar.specs.declared.words.Word.{Word}
use Rattle.program_grammar.specs.declared.words.Word.TheVariants as class

-- a lexeme, with what it says
pub data Term : Type 0 where
  Name : (bytes : List ℕ) → Term
  Number : (value : ℤ) → Term
  Signal : Term
  Int : Term
  Set : Term
  In : Term
  Skip : Term
  If : Term
  Then : Term
  Else : Term
  New : Term
  Hence : Term
  Next : Term
  Always : Term
  When : Term
  Do : Term
  Watching : Term
  Time : Term
  On : Term
  Semicolon : Term
  Comma : Term
  Range : Term
  Ampersand : Term
  Bars : Term
  OpenBrace : Term
  CloseBrace : Term
  Bang : Term
  Hash : Term
  GreaterEqual : Term
  LessEqual : Term
  Equal : Term
  Colon : Term

-- the class of a term: what is left of it without its name or number
abbrev pub class_of : Term → Word
class_of (Name x) = class.Name
class_of (Number n) = class.Number
class_of Signal = class.Signal
class_of Int = class.Int
class_of Set = class.Set
class_of In = class.In
class_of Skip = class.Skip
class_of If = class.If
class_of Then = class.Then
class_of Else = class.Else
class_of New = class.New
class_of Hence = class.Hence
class_of Next = class.Next
class_of Always = class.Always
class_of When = class.When
class_of Do = class.Do
class_of Watching = class.Watching
class_of Time = class.Time
class_of On = class.On
class_of Semicolon = class.Semicolon
class_of Comma = class.Comma
class_of Range = class.Range
class_of Ampersand = class.Ampersand
class_of Bars = class.Bars
class_of OpenBrace = class.OpenBrace
class_of CloseBrace = class.CloseBrace
class_of Bang = class.Bang
class_of Hash = class.Hash
class_of GreaterEqual = class.GreaterEqual
class_of LessEqual = class.LessEqual
class_of Equal = class.Equal
class_of Colon = class.Colon

-- the classes of a list of terms
abbrev pub classes : List Term → List Word
classes terms = map class_of terms
