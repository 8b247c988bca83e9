-- The words of the core language: a program has none but these where it has no derived forms, and what the machine goes
-- through with these words is completed with these words.
use Rattle.std.proofs.Common.{◌≡◌, List, [], ◌∷◌, Option, Some, None, Bool, true, false, refl, ap, sym, ◌∙◌, IfSome}
use Rattle.std.specs.Prelude.{option_and_then, if◌then◌else◌, ◌&&◌}
use Rattle.program_grammar.specs.Terms.{Term, classes, Then, Else, Semicolon, Ampersand, Bars, CloseBrace}
use Rattle.program_grammar.specs.declared.words.Word.{Word}
use Rattle.program_grammar.specs.declared.words.Word.TheVariants as class
use Rattle.std.proofs.lemmas.List.Folds.{list_all-append}
use Rattle.program_grammar.specs.declared.stack_symbols.StackSymbol.{StackSymbol}
use Rattle.program_grammar.specs.declared.stack_symbols.StackSymbol.TheVariants.{Declarations, MoreNames, OneUnit, MoreUnits, OneToken, MoreTokens, Bound, Branch, DeclaredName, DeniedName, ClashingName, LocalName, LeastNumber, MostNumber, ExactNumber, TheIn, TheClose, EndTell, EndBody, EndLocal, DeclaredIntName, LocalIntName, DomainIn, LowNumber, TheRange, HighNumber, MoreItems, NewKind, TheDo, TheWatching, TheOn, EndWatch, EndTimed}
use Rattle.program_grammar.specs.Phrases.{TokenPhrase, AtLeast, AtMost, Exactly, ConstraintPhrase, One, Both, UnitPhrase, Tell, Braces, IfThen, IfElse, LocalSignal, LocalInt, AgentPhrase, Only, Par, NamesPhrase, LastName, MoreName, ItemsPhrase, LastItem, MoreItem, ProgramPhrase, Runs, Signals, Ints}
use Rattle.program_grammar.specs.Phrases as phrase
use Rattle.program_grammar.specs.Spelling.{token, constraint, unit, agent, names, items, program}
use Rattle.program_grammar.specs.Table.{stack_after}
use Rattle.program_grammar.specs.Machine.{may_end, replaced, feed, run, start}
use Rattle.std.specs.List.{list_all}
use Rattle.program_grammar.specs.declared.words.Language.{Language}
use Rattle.program_grammar.specs.declared.words.Language.TheVariants.{Whole, Core}
use Rattle.program_grammar.specs.Programs.{Allows, is_core, is_core_unit, is_core_agent}
use Rattle.program_grammar.specs.Machine.{permits}
use Rattle.program_grammar.proofs.Soundness.{some_same, none_some, and_left, and_right, finish, completion}

-- the terms have words of the core language alone
abbrev plain : List Term → Bool
plain ts = list_all (permits Core) (classes ts)

and_assoc : (a b c : Bool) → (a && (b && c)) ≡ ((a && b) && c)
and_assoc true b c = refl
and_assoc false b c = refl

and_true : (a : Bool) → (a && true) ≡ a
and_true true = refl
and_true false = refl

plain-token : (t : TokenPhrase) (k : List Term) → plain (token t k) ≡ plain k
plain-token (phrase.On x) k = refl
plain-token (phrase.Off x) k = refl
plain-token (phrase.Clash x) k = refl
plain-token (AtLeast x n) k = refl
plain-token (AtMost x n) k = refl
plain-token (Exactly x n) k = refl

plain-constraint : (c : ConstraintPhrase) (k : List Term) → plain (constraint c k) ≡ plain k
plain-constraint (One t) k = plain-token t k
plain-constraint (Both t c) k = plain-token t (Ampersand ∷ constraint c k) ∙ plain-constraint c k

mutual
  plain-unit : (u : UnitPhrase) (k : List Term) → plain (unit u k) ≡ (is_core_unit u && plain k)
  plain-unit phrase.Skip k = refl
  plain-unit (Tell c) k = plain-constraint c k
  plain-unit (Braces a) k = plain-agent a (CloseBrace ∷ k)
  plain-unit (IfThen c u) k = plain-constraint c (Then ∷ unit u k) ∙ plain-unit u k
  plain-unit (IfElse c u) k = plain-constraint c (Else ∷ unit u k) ∙ plain-unit u k
  plain-unit (LocalSignal x u) k = plain-unit u k
  plain-unit (LocalInt x l h u) k = plain-unit u k
  plain-unit (phrase.Hence u) k = plain-unit u k
  plain-unit (phrase.Next u) k = plain-unit u k
  plain-unit (phrase.Always u) k = refl
  plain-unit (phrase.When c u) k = refl
  plain-unit (phrase.Watching a c) k = refl
  plain-unit (phrase.TimeOn a c) k = refl

  plain-agent : (a : AgentPhrase) (k : List Term) → plain (agent a k) ≡ (is_core_agent a && plain k)
  plain-agent (Only u) k = plain-unit u k
  plain-agent (Par u a) k = plain-unit u (Bars ∷ agent a k) ∙ ap (λ b. is_core_unit u && b) (plain-agent a k) ∙ and_assoc (is_core_unit u) (is_core_agent a) (plain k)

plain-names : (ns : NamesPhrase) (k : List Term) → plain (names ns k) ≡ plain k
plain-names (LastName x) k = refl
plain-names (MoreName x ns) k = plain-names ns k

plain-items : (is : ItemsPhrase) (k : List Term) → plain (items is k) ≡ plain k
plain-items (LastItem x l h) k = refl
plain-items (MoreItem x l h is) k = plain-items is k

plain-program : (p : ProgramPhrase) → plain (program p []) ≡ is_core p
plain-program (Runs a) = plain-agent a [] ∙ and_true (is_core_agent a)
plain-program (Signals ns p) = plain-names ns (Semicolon ∷ program p []) ∙ plain-program p
plain-program (Ints is p) = plain-items is (Semicolon ∷ program p []) ∙ plain-program p

pub all_permitted : (ws : List Word) → list_all (permits Whole) ws ≡ true
all_permitted [] = refl
all_permitted (w ∷ ws) = all_permitted ws

-- A language has the words of its programs.
pub allowed_permitted : (l : Language) (p : ProgramPhrase) → Allows l (is_core p) → list_all (permits l) (classes (program p [])) ≡ true
allowed_permitted Whole p h = all_permitted (classes (program p []))
allowed_permitted Core p h = plain-program p ∙ h

-- A program that has the language's words is the language's.
pub permitted_allowed : (l : Language) (p : ProgramPhrase) → list_all (permits l) (classes (program p [])) ≡ true → Allows l (is_core p)
permitted_allowed Whole p h = tt
permitted_allowed Core p h = sym (plain-program p) ∙ h

-- the parts that come up where no derived form begins
abbrev is_plain : StackSymbol → Bool
is_plain TheDo = false
is_plain _ = true

-- a row of the table
abbrev Row : StackSymbol → Word → Type 0
Row p w = permits Core w ≡ true → IfSome (stack_after p w) (λ rest. list_all is_plain rest ≡ true)

unit_row : (w : Word) → Row OneUnit w
unit_row class.Skip h = refl
unit_row class.Name h = refl
unit_row class.Bang h = refl
unit_row class.Hash h = refl
unit_row class.OpenBrace h = refl
unit_row class.If h = refl
unit_row class.Hence h = refl
unit_row class.New h = refl
unit_row class.Next h = refl
unit_row class.Always h = cc
unit_row class.When h = cc
unit_row class.Do h = cc
unit_row class.Time h = cc
unit_row _ h = tt

token_row : (w : Word) → Row OneToken w
token_row class.Name h = refl
token_row class.Bang h = refl
token_row class.Hash h = refl
token_row _ h = tt

declarations_row : (w : Word) → Row Declarations w
declarations_row class.Signal h = refl
declarations_row class.Int h = refl
declarations_row _ h = tt

names_row : (w : Word) → Row MoreNames w
names_row class.Comma h = refl
names_row class.Semicolon h = refl
names_row _ h = tt

units_row : (w : Word) → Row MoreUnits w
units_row class.Bars h = refl
units_row _ h = tt

tokens_row : (w : Word) → Row MoreTokens w
tokens_row class.Ampersand h = refl
tokens_row _ h = tt

bound_row : (w : Word) → Row Bound w
bound_row class.GreaterEqual h = refl
bound_row class.LessEqual h = refl
bound_row class.Equal h = refl
bound_row _ h = tt

branch_row : (w : Word) → Row Branch w
branch_row class.Then h = refl
branch_row class.Else h = refl
branch_row _ h = tt

name_row : (w : Word) → Row DeclaredName w
name_row class.Name h = refl
name_row _ h = tt

number_row : (w : Word) → Row LowNumber w
number_row class.Number h = refl
number_row _ h = tt

range_row : (w : Word) → Row TheRange w
range_row class.Range h = refl
range_row _ h = tt

do_row : (w : Word) → Row TheDo w
do_row class.Do h = refl
do_row _ h = tt

watching_row : (w : Word) → Row TheWatching w
watching_row class.Watching h = refl
watching_row _ h = tt

on_row : (w : Word) → Row TheOn w
on_row class.On h = refl
on_row _ h = tt

items_row : (w : Word) → Row MoreItems w
items_row class.Comma h = refl
items_row class.Semicolon h = refl
items_row _ h = tt

kind_row : (w : Word) → Row NewKind w
kind_row class.Signal h = refl
kind_row class.Int h = refl
kind_row _ h = tt

in_row : (w : Word) → Row TheIn w
in_row class.In h = refl
in_row _ h = tt

close_row : (w : Word) → Row TheClose w
close_row class.CloseBrace h = refl
close_row _ h = tt

row : (p : StackSymbol) (w : Word) → Row p w
row Declarations w h = declarations_row w h
row MoreNames w h = names_row w h
row OneUnit w h = unit_row w h
row MoreUnits w h = units_row w h
row OneToken w h = token_row w h
row MoreTokens w h = tokens_row w h
row Bound w h = bound_row w h
row Branch w h = branch_row w h
row DeclaredName w h = name_row w h
row DeniedName w h = name_row w h
row ClashingName w h = name_row w h
row LocalName w h = name_row w h
row LeastNumber w h = number_row w h
row MostNumber w h = number_row w h
row ExactNumber w h = number_row w h
row TheIn w h = in_row w h
row TheClose w h = close_row w h
row EndTell w h = tt
row EndBody w h = tt
row EndLocal w h = tt
row DeclaredIntName w h = name_row w h
row LocalIntName w h = name_row w h
row DomainIn w h = in_row w h
row LowNumber w h = number_row w h
row TheRange w h = range_row w h
row HighNumber w h = number_row w h
row MoreItems w h = items_row w h
row NewKind w h = kind_row w h
row TheDo w h = do_row w h
row TheWatching w h = watching_row w h
row TheOn w h = on_row w h
row EndWatch w h = tt
row EndTimed w h = tt

fed_plain : (ps qs : List StackSymbol) (w : Word) → permits Core w ≡ true → list_all is_plain ps ≡ true → feed ps w ≡ Some qs → list_all is_plain qs ≡ true
fed_plain [] qs w h all e = absurd (none_some e)
fed_plain (p ∷ ps) qs w h all e = go (stack_after p w) (may_end p) (row p w h) (λ e'. fed_plain ps qs w h rest e') e
  where
    rest : list_all is_plain ps ≡ true
    rest = and_right (is_plain p) (list_all is_plain ps) all

    go : (o : Option (List StackSymbol)) (b : Bool) → IfSome o (λ more. list_all is_plain more ≡ true) → (feed ps w ≡ Some qs → list_all is_plain qs ≡ true)
        → replaced o ps (if b then feed ps w else None) ≡ Some qs → list_all is_plain qs ≡ true
    go (Some more) b r later e = ap (list_all is_plain) (sym (some_same e)) ∙ list_all-append is_plain more ps ∙ ap (λ c. c && list_all is_plain ps) r ∙ rest
    go None true r later e = later e
    go None false r later e = absurd (none_some e)

run_plain : (ws : List Word) (ps qs : List StackSymbol) → list_all (permits Core) ws ≡ true → list_all is_plain ps ≡ true → run ps ws ≡ Some qs → list_all is_plain qs ≡ true
run_plain [] ps qs h all e = ap (list_all is_plain) (sym (some_same e)) ∙ all
run_plain (w ∷ ws) ps qs h all e = go (feed ps w) refl (λ rs plain e'. run_plain ws rs qs (and_right (permits Core w) (list_all (permits Core) ws) h) plain e') e
  where
    go : (o : Option (List StackSymbol)) → feed ps w ≡ o → ((rs : List StackSymbol) → list_all is_plain rs ≡ true → run rs ws ≡ Some qs → list_all is_plain qs ≡ true)
        → option_and_then (λ rs. run rs ws) o ≡ Some qs → list_all is_plain qs ≡ true
    go None f ih e = absurd (none_some e)
    go (Some rs) f ih e = ih rs (fed_plain ps rs w (and_left (permits Core w) (list_all (permits Core) ws) h) all f) e

finish_plain : (p : StackSymbol) (k : List Term) → is_plain p ≡ true → plain (finish p k) ≡ plain k
finish_plain Declarations k h = refl
finish_plain MoreNames k h = refl
finish_plain OneUnit k h = refl
finish_plain MoreUnits k h = refl
finish_plain OneToken k h = refl
finish_plain MoreTokens k h = refl
finish_plain Bound k h = refl
finish_plain Branch k h = refl
finish_plain DeclaredName k h = refl
finish_plain DeniedName k h = refl
finish_plain ClashingName k h = refl
finish_plain LocalName k h = refl
finish_plain LeastNumber k h = refl
finish_plain MostNumber k h = refl
finish_plain ExactNumber k h = refl
finish_plain TheIn k h = refl
finish_plain TheClose k h = refl
finish_plain EndTell k h = refl
finish_plain EndBody k h = refl
finish_plain EndLocal k h = refl
finish_plain DeclaredIntName k h = refl
finish_plain LocalIntName k h = refl
finish_plain DomainIn k h = refl
finish_plain LowNumber k h = refl
finish_plain TheRange k h = refl
finish_plain HighNumber k h = refl
finish_plain MoreItems k h = refl
finish_plain NewKind k h = refl
finish_plain TheDo k h = cc
finish_plain TheWatching k h = refl
finish_plain TheOn k h = refl
finish_plain EndWatch k h = refl
finish_plain EndTimed k h = refl

completion_plain : (ps : List StackSymbol) → list_all is_plain ps ≡ true → plain (completion ps) ≡ true
completion_plain [] h = refl
completion_plain (p ∷ ps) h = finish_plain p (completion ps) (and_left (is_plain p) (list_all is_plain ps) h) ∙ completion_plain ps (and_right (is_plain p) (list_all is_plain ps) h)

-- What the machine goes through in a language is completed by the language's words.
pub completion_permitted : (l : Language) (ws : List Word) (qs : List StackSymbol) → list_all (permits l) ws ≡ true → run start ws ≡ Some qs → list_all (permits l) (classes (completion qs)) ≡ true
completion_permitted Whole ws qs h e = all_permitted (classes (completion qs))
completion_permitted Core ws qs h e = completion_plain qs (run_plain ws start qs h refl e)
