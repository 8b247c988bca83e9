-- The table of the reading machine: what is to come stack_after a word, where a part of the grammar takes it. That of a
-- predictive parser, for this project's grammar. Each definition is of one part or of parts that take the same.
use Rattle.std.specs.Prelude.{List, [], ◌∷◌, Option, Some, None}
use Rattle.program_grammar.specs.declared.words.Word.{Word}
use Rattle.program_grammar.specs.declared.words.Word.TheVariants.{Name, Number, Signal, Int, In, Skip, If, Then, Else, New, Hence, Next, Always, When, Do, Watching, Time, On, Semicolon, Comma, Range, Ampersand, Bars, OpenBrace, CloseBrace, Bang, Hash, GreaterEqual, LessEqual, Equal}
use Rattle.program_grammar.specs.declared.stack_symbols.StackSymbol.{StackSymbol}
use Rattle.program_grammar.specs.declared.stack_symbols.StackSymbol.TheVariants.{Declarations, MoreNames, OneUnit, MoreUnits, OneToken, MoreTokens, Bound, Branch, DeclaredName, DeniedName, ClashingName, LocalName, LeastNumber, MostNumber, ExactNumber, TheIn, TheClose, EndTell, EndBody, EndLocal, DeclaredIntName, LocalIntName, DomainIn, LowNumber, TheRange, HighNumber, MoreItems, NewKind, TheDo, TheWatching, TheOn, EndWatch, EndTimed}

-- a unit begins with the word
abbrev pub after_unit : Word → Option (List StackSymbol)
after_unit Skip = Some []
after_unit Name = Some (Bound ∷ MoreTokens ∷ EndTell ∷ [])
after_unit Bang = Some (DeniedName ∷ MoreTokens ∷ EndTell ∷ [])
after_unit Hash = Some (ClashingName ∷ MoreTokens ∷ EndTell ∷ [])
after_unit OpenBrace = Some (OneUnit ∷ MoreUnits ∷ TheClose ∷ [])
after_unit If = Some (OneToken ∷ MoreTokens ∷ Branch ∷ [])
after_unit Hence = Some (OneUnit ∷ EndBody ∷ [])
after_unit New = Some (NewKind ∷ [])
after_unit Next = Some (OneUnit ∷ EndBody ∷ [])
after_unit Always = Some (OneUnit ∷ EndBody ∷ [])
after_unit When = Some (OneToken ∷ MoreTokens ∷ TheDo ∷ OneUnit ∷ EndBody ∷ [])
after_unit Do = Some (OneUnit ∷ MoreUnits ∷ TheWatching ∷ OneToken ∷ MoreTokens ∷ EndWatch ∷ [])
after_unit Time = Some (OneUnit ∷ MoreUnits ∷ TheOn ∷ OneToken ∷ MoreTokens ∷ EndTimed ∷ [])
after_unit _ = None

-- a token begins with it
abbrev pub after_token : Word → Option (List StackSymbol)
after_token Name = Some (Bound ∷ [])
after_token Bang = Some (DeniedName ∷ [])
after_token Hash = Some (ClashingName ∷ [])
after_token _ = None

-- a declaration begins with it
abbrev pub after_declaration : Word → Option (List StackSymbol)
after_declaration Signal = Some (DeclaredName ∷ MoreNames ∷ Declarations ∷ [])
after_declaration Int = Some (DeclaredIntName ∷ DomainIn ∷ LowNumber ∷ TheRange ∷ HighNumber ∷ MoreItems ∷ Declarations ∷ [])
after_declaration _ = None

-- a name of signal stands before it
abbrev pub after_names : Word → Option (List StackSymbol)
after_names Comma = Some (DeclaredName ∷ MoreNames ∷ [])
after_names Semicolon = Some []
after_names _ = None

-- a unit of an agent stands before it
abbrev pub after_units : Word → Option (List StackSymbol)
after_units Bars = Some (OneUnit ∷ MoreUnits ∷ [])
after_units _ = None

-- a token of a constraint stands before it
abbrev pub after_tokens : Word → Option (List StackSymbol)
after_tokens Ampersand = Some (OneToken ∷ MoreTokens ∷ [])
after_tokens _ = None

-- the name of a token stands before it
abbrev pub after_bound : Word → Option (List StackSymbol)
after_bound GreaterEqual = Some (LeastNumber ∷ [])
after_bound LessEqual = Some (MostNumber ∷ [])
after_bound Equal = Some (ExactNumber ∷ [])
after_bound _ = None

-- the ask of if stands before it
abbrev pub after_branch : Word → Option (List StackSymbol)
after_branch Then = Some (OneUnit ∷ EndBody ∷ [])
after_branch Else = Some (OneUnit ∷ EndBody ∷ [])
after_branch _ = None

-- a name is to come
abbrev pub after_name : Word → Option (List StackSymbol)
after_name Name = Some []
after_name _ = None

-- a number is to come
abbrev pub after_number : Word → Option (List StackSymbol)
after_number Number = Some []
after_number _ = None

-- the two dots are to come
abbrev pub after_range : Word → Option (List StackSymbol)
after_range Range = Some []
after_range _ = None

-- do is to come
abbrev pub after_do : Word → Option (List StackSymbol)
after_do Do = Some []
after_do _ = None

-- watching is to come
abbrev pub after_watching : Word → Option (List StackSymbol)
after_watching Watching = Some []
after_watching _ = None

-- on is to come
abbrev pub after_upon : Word → Option (List StackSymbol)
after_upon On = Some []
after_upon _ = None

-- an item of int stands before it
abbrev pub after_items : Word → Option (List StackSymbol)
after_items Comma = Some (DeclaredIntName ∷ DomainIn ∷ LowNumber ∷ TheRange ∷ HighNumber ∷ MoreItems ∷ [])
after_items Semicolon = Some []
after_items _ = None

-- new stands before it
abbrev pub after_kind : Word → Option (List StackSymbol)
after_kind Signal = Some (LocalName ∷ TheIn ∷ OneUnit ∷ EndLocal ∷ [])
after_kind Int = Some (LocalIntName ∷ DomainIn ∷ LowNumber ∷ TheRange ∷ HighNumber ∷ TheIn ∷ OneUnit ∷ EndLocal ∷ [])
after_kind _ = None

-- in is to come
abbrev pub after_in : Word → Option (List StackSymbol)
after_in In = Some []
after_in _ = None

-- the closing brace is to come
abbrev pub after_close : Word → Option (List StackSymbol)
after_close CloseBrace = Some []
after_close _ = None

-- what is to come stack_after the word, where this part takes it
abbrev pub stack_after : StackSymbol → Word → Option (List StackSymbol)
stack_after Declarations w = after_declaration w
stack_after MoreNames w = after_names w
stack_after OneUnit w = after_unit w
stack_after MoreUnits w = after_units w
stack_after OneToken w = after_token w
stack_after MoreTokens w = after_tokens w
stack_after Bound w = after_bound w
stack_after Branch w = after_branch w
stack_after DeclaredName w = after_name w
stack_after DeniedName w = after_name w
stack_after ClashingName w = after_name w
stack_after LocalName w = after_name w
stack_after LeastNumber w = after_number w
stack_after MostNumber w = after_number w
stack_after ExactNumber w = after_number w
stack_after DeclaredIntName w = after_name w
stack_after LocalIntName w = after_name w
stack_after DomainIn w = after_in w
stack_after LowNumber w = after_number w
stack_after HighNumber w = after_number w
stack_after TheRange w = after_range w
stack_after MoreItems w = after_items w
stack_after NewKind w = after_kind w
stack_after TheDo w = after_do w
stack_after TheWatching w = after_watching w
stack_after TheOn w = after_upon w
stack_after TheIn w = after_in w
stack_after TheClose w = after_close w
stack_after EndTell w = None
stack_after EndBody w = None
stack_after EndLocal w = None
stack_after EndWatch w = None
stack_after EndTimed w = None
