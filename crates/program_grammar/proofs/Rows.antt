-- What the parts of the grammar stand for, and why each row of the table is right.
use Rattle.std.proofs.Common.{◌≡◌, ℕ, List, [], ◌∷◌, ap, ◌∙◌, IfSome}
use Rattle.std.specs.Prelude.{ℤ}
use Rattle.program_grammar.specs.Terms.{Term, class_of, Name, Number, Signal, Int, In, Skip, If, Then, Else, New, Hence, Next, Always, When, Do, Watching, Time, On, Semicolon, Comma, Range, Ampersand, Bars, OpenBrace, CloseBrace, Bang, Hash, GreaterEqual, LessEqual, Equal}
use Rattle.program_grammar.specs.declared.stack_symbols.StackSymbol.{StackSymbol}
use Rattle.program_grammar.specs.declared.stack_symbols.StackSymbol.TheVariants.{Declarations, MoreNames, OneUnit, MoreUnits, OneToken, MoreTokens, Bound, Branch, DeclaredName, DeniedName, ClashingName, LocalName, LeastNumber, MostNumber, ExactNumber, TheIn, TheClose, EndTell, EndBody, EndLocal, DeclaredIntName, LocalIntName, DomainIn, LowNumber, TheRange, HighNumber, MoreItems, NewKind, TheDo, TheWatching, TheOn, EndWatch, EndTimed}
use Rattle.program_grammar.specs.Phrases.{TokenPhrase, AtLeast, AtMost, Exactly, ConstraintPhrase, Both, UnitPhrase, Tell, Braces, IfThen, IfElse, LocalSignal, LocalInt, AgentPhrase, Par, NamesPhrase, LastName, MoreName, ItemsPhrase, LastItem, MoreItem, ProgramPhrase, Signals, Ints}
use Rattle.program_grammar.specs.Phrases as phrase
use Rattle.program_grammar.specs.Spelling.{token, constraint, unit, agent, names, items, program}
use Rattle.program_grammar.specs.Table.{stack_after}

-- The words are the part and then the rest. A part that goes on with what stands before it is what completes that.
abbrev pub Is : StackSymbol → List Term → List Term → Type 0
Is Declarations ws k = (l : List Term) (p : ProgramPhrase) → k ≡ program p l → (q : ProgramPhrase) × (ws ≡ program q l)
Is MoreNames ws k = (x : List ℕ) → (ns : NamesPhrase) × (Name x ∷ ws ≡ names ns (Semicolon ∷ k))
Is OneUnit ws k = (u : UnitPhrase) × (ws ≡ unit u k)
Is MoreUnits ws k = (u : UnitPhrase) → (a : AgentPhrase) × (unit u ws ≡ agent a k)
Is OneToken ws k = (t : TokenPhrase) × (ws ≡ token t k)
Is MoreTokens ws k = (t : TokenPhrase) → (c : ConstraintPhrase) × (token t ws ≡ constraint c k)
Is Bound ws k = (x : List ℕ) → (t : TokenPhrase) × (Name x ∷ ws ≡ token t k)
Is Branch ws k = (c : ConstraintPhrase) → (u : UnitPhrase) × (If ∷ constraint c ws ≡ unit u k)
Is DeclaredName ws k = (x : List ℕ) × (ws ≡ Name x ∷ k)
Is DeniedName ws k = (x : List ℕ) × (ws ≡ Name x ∷ k)
Is ClashingName ws k = (x : List ℕ) × (ws ≡ Name x ∷ k)
Is LocalName ws k = (x : List ℕ) × (ws ≡ Name x ∷ k)
Is LeastNumber ws k = (n : ℤ) × (ws ≡ Number n ∷ k)
Is MostNumber ws k = (n : ℤ) × (ws ≡ Number n ∷ k)
Is ExactNumber ws k = (n : ℤ) × (ws ≡ Number n ∷ k)
Is DeclaredIntName ws k = (x : List ℕ) × (ws ≡ Name x ∷ k)
Is LocalIntName ws k = (x : List ℕ) × (ws ≡ Name x ∷ k)
Is DomainIn ws k = ws ≡ In ∷ k
Is LowNumber ws k = (n : ℤ) × (ws ≡ Number n ∷ k)
Is HighNumber ws k = (n : ℤ) × (ws ≡ Number n ∷ k)
Is TheRange ws k = ws ≡ Range ∷ k
Is MoreItems ws k = (x : List ℕ) → (l h : ℤ) → (is : ItemsPhrase) × (Name x ∷ In ∷ Number l ∷ Range ∷ Number h ∷ ws ≡ items is (Semicolon ∷ k))
Is NewKind ws k = (u : UnitPhrase) × (New ∷ ws ≡ unit u k)
Is TheDo ws k = ws ≡ Do ∷ k
Is TheWatching ws k = ws ≡ Watching ∷ k
Is TheOn ws k = ws ≡ On ∷ k
Is TheIn ws k = ws ≡ In ∷ k
Is TheClose ws k = ws ≡ CloseBrace ∷ k
Is EndTell ws k = ws ≡ k
Is EndBody ws k = ws ≡ k
Is EndLocal ws k = ws ≡ k
Is EndWatch ws k = ws ≡ k
Is EndTimed ws k = ws ≡ k

abbrev pub AreAll : List StackSymbol → List Term → List Term → Type 0
AreAll [] ws k = ws ≡ k
AreAll (p ∷ ps) ws k = (mid : List Term) × Is p ws mid × AreAll ps mid k

-- from what is to come stack_after a word back to before it
name_bound : (x : List ℕ) (u k : List Term) → AreAll (Bound ∷ []) u k → Is OneToken (Name x ∷ u) k
name_bound x u k (m, b, e) = let (t, et) = b x in (t, cc)

off_name : (u k : List Term) → AreAll (DeniedName ∷ []) u k → Is OneToken (Bang ∷ u) k
off_name u k (m, (x, ex), e) = (phrase.Off x, cc)

clash_name : (u k : List Term) → AreAll (ClashingName ∷ []) u k → Is OneToken (Hash ∷ u) k
clash_name u k (m, (x, ex), e) = (phrase.Clash x, cc)

tell_name : (x : List ℕ) (u k : List Term) → AreAll (Bound ∷ MoreTokens ∷ EndTell ∷ []) u k → Is OneUnit (Name x ∷ u) k
tell_name x u k (m, b, (n, more, (l, ends, e))) = let (t, et) = b x in let (c, ec) = more t in (Tell c, cc)

tell_off : (u k : List Term) → AreAll (DeniedName ∷ MoreTokens ∷ EndTell ∷ []) u k → Is OneUnit (Bang ∷ u) k
tell_off u k (m, (x, ex), (n, more, (l, ends, e))) = let (c, ec) = more (phrase.Off x) in (Tell c, cc)

tell_clash : (u k : List Term) → AreAll (ClashingName ∷ MoreTokens ∷ EndTell ∷ []) u k → Is OneUnit (Hash ∷ u) k
tell_clash u k (m, (x, ex), (n, more, (l, ends, e))) = let (c, ec) = more (phrase.Clash x) in (Tell c, cc)

braces : (u k : List Term) → AreAll (OneUnit ∷ MoreUnits ∷ TheClose ∷ []) u k → Is OneUnit (OpenBrace ∷ u) k
braces u k (m, (v, ev), (n, more, (l, ec, e))) = let (a, ea) = more v in (Braces a, cc)

asks : (u k : List Term) → AreAll (OneToken ∷ MoreTokens ∷ Branch ∷ []) u k → Is OneUnit (If ∷ u) k
asks u k (m, (t, et), (n, more, (l, branch, e))) = let (c, ec) = more t in let (v, ev) = branch c in (v, cc)

hence : (u k : List Term) → AreAll (OneUnit ∷ EndBody ∷ []) u k → Is OneUnit (Hence ∷ u) k
hence u k (m, (v, ev), (l, ends, e)) = (phrase.Hence v, cc)

local : (u k : List Term) → AreAll (NewKind ∷ []) u k → Is OneUnit (New ∷ u) k
local u k (m, (v, ev), e) = (v, ev ∙ ap (unit v) e)

new_signal : (u k : List Term) → AreAll (LocalName ∷ TheIn ∷ OneUnit ∷ EndLocal ∷ []) u k → Is NewKind (Signal ∷ u) k
new_signal u k (n, (x, ex), (l, ei, (j, (v, ev), (h, ends, e)))) = (LocalSignal x v, cc)

new_int : (u k : List Term) → AreAll (LocalIntName ∷ DomainIn ∷ LowNumber ∷ TheRange ∷ HighNumber ∷ TheIn ∷ OneUnit ∷ EndLocal ∷ []) u k → Is NewKind (Int ∷ u) k
new_int u k (n, (x, ex), (a, ea, (b, (y, ey), (c, ec, (d, (z, ez), (l, ei, (j, (v, ev), (h, ends, e)))))))) = (LocalInt x y z v, cc)

after_one : (u k : List Term) → AreAll (OneUnit ∷ EndBody ∷ []) u k → Is OneUnit (Next ∷ u) k
after_one u k (m, (v, ev), (l, ends, e)) = (phrase.Next v, cc)

ever : (u k : List Term) → AreAll (OneUnit ∷ EndBody ∷ []) u k → Is OneUnit (Always ∷ u) k
ever u k (m, (v, ev), (l, ends, e)) = (phrase.Always v, cc)

whenever : (u k : List Term) → AreAll (OneToken ∷ MoreTokens ∷ TheDo ∷ OneUnit ∷ EndBody ∷ []) u k → Is OneUnit (When ∷ u) k
whenever u k (m, (t, et), (n, more, (l, ed, (j, (v, ev), (h, ends, e))))) = let (c, ec) = more t in (phrase.When c v, cc)

watch : (u k : List Term) → AreAll (OneUnit ∷ MoreUnits ∷ TheWatching ∷ OneToken ∷ MoreTokens ∷ EndWatch ∷ []) u k → Is OneUnit (Do ∷ u) k
watch u k (m, (v, ev), (n, more, (l, ew, (j, (t, et), (h, tokens, (i, ends, e)))))) = let (a, ea) = more v in let (c, ec) = tokens t in (phrase.Watching a c, cc)

timed : (u k : List Term) → AreAll (OneUnit ∷ MoreUnits ∷ TheOn ∷ OneToken ∷ MoreTokens ∷ EndTimed ∷ []) u k → Is OneUnit (Time ∷ u) k
timed u k (m, (v, ev), (n, more, (l, ew, (j, (t, et), (h, tokens, (i, ends, e)))))) = let (a, ea) = more v in let (c, ec) = tokens t in (phrase.TimeOn a c, cc)

unit_back : (w : Term) (u k : List Term) → IfSome (stack_after OneUnit (class_of w)) (λ rest. AreAll rest u k → Is OneUnit (w ∷ u) k)
unit_back Skip u k = λ e. (phrase.Skip, ap (λ l. Skip ∷ l) e)
unit_back (Name x) u k = tell_name x u k
unit_back Bang u k = tell_off u k
unit_back Hash u k = tell_clash u k
unit_back OpenBrace u k = braces u k
unit_back If u k = asks u k
unit_back Hence u k = hence u k
unit_back New u k = local u k
unit_back Next u k = after_one u k
unit_back Always u k = ever u k
unit_back When u k = whenever u k
unit_back Do u k = watch u k
unit_back Time u k = timed u k
unit_back _ u k = tt

token_back : (w : Term) (u k : List Term) → IfSome (stack_after OneToken (class_of w)) (λ rest. AreAll rest u k → Is OneToken (w ∷ u) k)
token_back (Name x) u k = name_bound x u k
token_back Bang u k = off_name u k
token_back Hash u k = clash_name u k
token_back _ u k = tt

units_bars : (u k : List Term) → AreAll (OneUnit ∷ MoreUnits ∷ []) u k → Is MoreUnits (Bars ∷ u) k
units_bars u k (m, (v, ev), (n, more, e)) = λ left. let (a, ea) = more v in (Par left a, ap (λ l. unit left (Bars ∷ l)) (ev ∙ ea ∙ ap (agent a) e))

units_back : (w : Term) (u k : List Term) → IfSome (stack_after MoreUnits (class_of w)) (λ rest. AreAll rest u k → Is MoreUnits (w ∷ u) k)
units_back Bars u k = units_bars u k
units_back _ u k = tt

tokens_and : (u k : List Term) → AreAll (OneToken ∷ MoreTokens ∷ []) u k → Is MoreTokens (Ampersand ∷ u) k
tokens_and u k (m, (t, et), (n, more, e)) = λ before. let (c, ec) = more t in (Both before c, ap (λ l. token before (Ampersand ∷ l)) (et ∙ ec ∙ ap (constraint c) e))

tokens_back : (w : Term) (u k : List Term) → IfSome (stack_after MoreTokens (class_of w)) (λ rest. AreAll rest u k → Is MoreTokens (w ∷ u) k)
tokens_back Ampersand u k = tokens_and u k
tokens_back _ u k = tt

bound_least : (u k : List Term) → AreAll (LeastNumber ∷ []) u k → Is Bound (GreaterEqual ∷ u) k
bound_least u k (m, (n, en), e) = λ x. (AtLeast x n, cc)

bound_most : (u k : List Term) → AreAll (MostNumber ∷ []) u k → Is Bound (LessEqual ∷ u) k
bound_most u k (m, (n, en), e) = λ x. (AtMost x n, cc)

bound_exactly : (u k : List Term) → AreAll (ExactNumber ∷ []) u k → Is Bound (Equal ∷ u) k
bound_exactly u k (m, (n, en), e) = λ x. (Exactly x n, cc)

bound_back : (w : Term) (u k : List Term) → IfSome (stack_after Bound (class_of w)) (λ rest. AreAll rest u k → Is Bound (w ∷ u) k)
bound_back GreaterEqual u k = bound_least u k
bound_back LessEqual u k = bound_most u k
bound_back Equal u k = bound_exactly u k
bound_back _ u k = tt

branch_then : (u k : List Term) → AreAll (OneUnit ∷ EndBody ∷ []) u k → Is Branch (Then ∷ u) k
branch_then u k (m, (v, ev), (l, ends, e)) = λ c. (IfThen c v, ap (λ l. If ∷ constraint c (Then ∷ l)) (ev ∙ ap (unit v) (ends ∙ e)))

branch_else : (u k : List Term) → AreAll (OneUnit ∷ EndBody ∷ []) u k → Is Branch (Else ∷ u) k
branch_else u k (m, (v, ev), (l, ends, e)) = λ c. (IfElse c v, ap (λ l. If ∷ constraint c (Else ∷ l)) (ev ∙ ap (unit v) (ends ∙ e)))

branch_back : (w : Term) (u k : List Term) → IfSome (stack_after Branch (class_of w)) (λ rest. AreAll rest u k → Is Branch (w ∷ u) k)
branch_back Then u k = branch_then u k
branch_back Else u k = branch_else u k
branch_back _ u k = tt

names_comma : (u k : List Term) → AreAll (DeclaredName ∷ MoreNames ∷ []) u k → Is MoreNames (Comma ∷ u) k
names_comma u k (m, (y, ey), (n, more, e)) = λ x. let (ns, en) = more y in (MoreName x ns, ap (λ l. Name x ∷ Comma ∷ l) (ey ∙ en ∙ ap (λ l. names ns (Semicolon ∷ l)) e))

names_end : (u k : List Term) → AreAll [] u k → Is MoreNames (Semicolon ∷ u) k
names_end u k e = λ x. (LastName x, ap (λ l. Name x ∷ Semicolon ∷ l) e)

names_back : (w : Term) (u k : List Term) → IfSome (stack_after MoreNames (class_of w)) (λ rest. AreAll rest u k → Is MoreNames (w ∷ u) k)
names_back Comma u k = names_comma u k
names_back Semicolon u k = names_end u k
names_back _ u k = tt

decls_signal : (u k : List Term) → AreAll (DeclaredName ∷ MoreNames ∷ Declarations ∷ []) u k → Is Declarations (Signal ∷ u) k
decls_signal u k (m, (x, ex), (n, more, (h, decls, e))) = λ l p ep. let (ns, en) = more x in let (q, eq) = decls l p (e ∙ ep) in (Signals ns q, ap (λ i. Signal ∷ i) (ex ∙ en ∙ ap (λ l. names ns (Semicolon ∷ l)) eq))

decls_int : (u k : List Term) → AreAll (DeclaredIntName ∷ DomainIn ∷ LowNumber ∷ TheRange ∷ HighNumber ∷ MoreItems ∷ Declarations ∷ []) u k → Is Declarations (Int ∷ u) k
decls_int u k (m, (x, ex), (n, ei, (a, (b, eb), (c, ec, (d, (f, ef), (g, more, (h, decls, e))))))) = λ l p ep. let (is, en) = more x b f in let (q, eq) = decls l p (e ∙ ep) in (Ints is q, cc)

decls_back : (w : Term) (u k : List Term) → IfSome (stack_after Declarations (class_of w)) (λ rest. AreAll rest u k → Is Declarations (w ∷ u) k)
decls_back Signal u k = decls_signal u k
decls_back Int u k = decls_int u k
decls_back _ u k = tt

name_back : (w : Term) (u k : List Term) → IfSome (stack_after DeniedName (class_of w)) (λ rest. AreAll rest u k → Is DeniedName (w ∷ u) k)
name_back (Name x) u k = λ e. (x, ap (λ l. Name x ∷ l) e)
name_back _ u k = tt

number_back : (w : Term) (u k : List Term) → IfSome (stack_after LeastNumber (class_of w)) (λ rest. AreAll rest u k → Is LeastNumber (w ∷ u) k)
number_back (Number x) u k = λ e. (x, ap (λ l. Number x ∷ l) e)
number_back _ u k = tt

range_back : (w : Term) (u k : List Term) → IfSome (stack_after TheRange (class_of w)) (λ rest. AreAll rest u k → Is TheRange (w ∷ u) k)
range_back Range u k = λ e. ap (λ l. Range ∷ l) e
range_back _ u k = tt

do_back : (w : Term) (u k : List Term) → IfSome (stack_after TheDo (class_of w)) (λ rest. AreAll rest u k → Is TheDo (w ∷ u) k)
do_back Do u k = λ e. ap (λ l. Do ∷ l) e
do_back _ u k = tt

watching_back : (w : Term) (u k : List Term) → IfSome (stack_after TheWatching (class_of w)) (λ rest. AreAll rest u k → Is TheWatching (w ∷ u) k)
watching_back Watching u k = λ e. ap (λ l. Watching ∷ l) e
watching_back _ u k = tt

upon_back : (w : Term) (u k : List Term) → IfSome (stack_after TheOn (class_of w)) (λ rest. AreAll rest u k → Is TheOn (w ∷ u) k)
upon_back On u k = λ e. ap (λ l. On ∷ l) e
upon_back _ u k = tt

items_comma : (u k : List Term) → AreAll (DeclaredIntName ∷ DomainIn ∷ LowNumber ∷ TheRange ∷ HighNumber ∷ MoreItems ∷ []) u k → Is MoreItems (Comma ∷ u) k
items_comma u k (m, (y, ey), (n, ei, (a, (b, eb), (c, ec, (d, (f, ef), (g, more, e)))))) = λ x l h. let (is, en) = more y b f in (MoreItem x l h is, cc)

items_end : (u k : List Term) → AreAll [] u k → Is MoreItems (Semicolon ∷ u) k
items_end u k e = λ x l h. (LastItem x l h, ap (λ i. Name x ∷ In ∷ Number l ∷ Range ∷ Number h ∷ Semicolon ∷ i) e)

items_back : (w : Term) (u k : List Term) → IfSome (stack_after MoreItems (class_of w)) (λ rest. AreAll rest u k → Is MoreItems (w ∷ u) k)
items_back Comma u k = items_comma u k
items_back Semicolon u k = items_end u k
items_back _ u k = tt

kind_back : (w : Term) (u k : List Term) → IfSome (stack_after NewKind (class_of w)) (λ rest. AreAll rest u k → Is NewKind (w ∷ u) k)
kind_back Signal u k = new_signal u k
kind_back Int u k = new_int u k
kind_back _ u k = tt

in_back : (w : Term) (u k : List Term) → IfSome (stack_after TheIn (class_of w)) (λ rest. AreAll rest u k → Is TheIn (w ∷ u) k)
in_back In u k = λ e. ap (λ l. In ∷ l) e
in_back _ u k = tt

close_back : (w : Term) (u k : List Term) → IfSome (stack_after TheClose (class_of w)) (λ rest. AreAll rest u k → Is TheClose (w ∷ u) k)
close_back CloseBrace u k = λ e. ap (λ l. CloseBrace ∷ l) e
close_back _ u k = tt

-- every row of the table
pub back : (p : StackSymbol) (w : Term) (u k : List Term) → IfSome (stack_after p (class_of w)) (λ rest. AreAll rest u k → Is p (w ∷ u) k)
back Declarations w u k = decls_back w u k
back MoreNames w u k = names_back w u k
back OneUnit w u k = unit_back w u k
back MoreUnits w u k = units_back w u k
back OneToken w u k = token_back w u k
back MoreTokens w u k = tokens_back w u k
back Bound w u k = bound_back w u k
back Branch w u k = branch_back w u k
back DeclaredName w u k = name_back w u k
back DeniedName w u k = name_back w u k
back ClashingName w u k = name_back w u k
back LocalName w u k = name_back w u k
back LeastNumber w u k = number_back w u k
back MostNumber w u k = number_back w u k
back ExactNumber w u k = number_back w u k
back DeclaredIntName w u k = name_back w u k
back LocalIntName w u k = name_back w u k
back DomainIn w u k = in_back w u k
back LowNumber w u k = number_back w u k
back HighNumber w u k = number_back w u k
back TheRange w u k = range_back w u k
back MoreItems w u k = items_back w u k
back NewKind w u k = kind_back w u k
back TheDo w u k = do_back w u k
back TheWatching w u k = watching_back w u k
back TheOn w u k = upon_back w u k
back TheIn w u k = in_back w u k
back TheClose w u k = close_back w u k
back EndTell w u k = tt
back EndBody w u k = tt
back EndLocal w u k = tt
back EndWatch w u k = tt
back EndTimed w u k = tt
