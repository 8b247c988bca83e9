-- What a program goes on from begins a program by the cases of the alternatives.
use Rattle.std.proofs.Common.{◌≡◌, ℕ, List, [], ◌∷◌, ◌++◌, Bool, false, refl, ap, sym, ◌∙◌, subst}
use Rattle.std.specs.Prelude.{◌&&◌, ℤ}
use Rattle.std.proofs.lemmas.List.{append-nil}
use Rattle.program_grammar.specs.Terms.{Term, Name, Number, Signal, Int, In, Skip, If, Then, Else, New, Hence, Next, Always, When, Do, Watching, Time, On, Semicolon, Comma, Range, Ampersand, Bars, OpenBrace, CloseBrace, Bang, Hash, GreaterEqual, LessEqual, Equal}
use Rattle.program_grammar.specs.Phrases.{TokenPhrase, AtLeast, AtMost, Exactly, ConstraintPhrase, One, Both, UnitPhrase, Tell, Braces, IfThen, IfElse, LocalSignal, LocalInt, AgentPhrase, Only, Par, NamesPhrase, LastName, MoreName, ItemsPhrase, LastItem, MoreItem, ProgramPhrase, Runs, Signals, Ints}
use Rattle.program_grammar.specs.Phrases as phrase
use Rattle.program_grammar.specs.Spelling.{token, constraint, unit, agent, names, items, program}
use Rattle.program_grammar.specs.Alternatives.{Symbol, AName, ANumber, The, AToken, AConstraint, AUnit, AnAgent, SomeNames, AnItem, SomeItems, AProgram, MatchesSymbol, Alternative, asserts, denies, clashes, at_least, at_most, exactly, one, both, nothing, tell, braces, if_then, if_else, new_signal, new_int, hence, next, always, when_do, do_watching, time_on, only, par, last_name, more_names, item, last_item, more_items, runs, signals, ints, Is, AreAll, none, some, by, Begins, BeginAll, empty, within, whole, part, past}
use Rattle.program_grammar.specs.Alternatives.Is.{itself as is_itself}
use Rattle.program_grammar.specs.Alternatives.Begins.{itself as begins_itself}
use Rattle.program_grammar.specs.declared.words.Language.{Language}
use Rattle.program_grammar.specs.declared.words.Language.TheVariants.{Whole, Core}
use Rattle.std.proofs.Common.{append_assoc, inl, inr}
use Rattle.std.specs.Prelude.{◌⊎◌}
use Rattle.program_grammar.specs.Programs.{BeginsProgram, Allows, is_core, is_core_unit, is_core_agent}
use Rattle.program_grammar.proofs.Soundness.{and_left, and_right}

-- the symbol, and behind it terms that the rest goes on from
abbrev Passed : Language → Symbol → List Term → List Term → List Term → Type 0
Passed l s ts more k = (us : List Term) × (vs : List Term) × Is l s us × (ts ≡ us ++ vs) × (vs ++ more ≡ k)

abbrev PassedAll : Language → List Symbol → List Term → List Term → List Term → Type 0
PassedAll l ss ts more k = (us : List Term) × (vs : List Term) × AreAll l ss us × (ts ≡ us ++ vs) × (vs ++ more ≡ k)

-- Where f spells a symbol, what goes on to f's terms begins the symbol, or is the symbol and goes on behind it.
abbrev Front : Language → Symbol → (List Term → List Term) → Type 0
Front l s f = (ts more k : List Term) → ts ++ more ≡ f k → Begins l s ts ⊎ Passed l s ts more k

abbrev FrontAll : Language → List Symbol → (List Term → List Term) → Type 0
FrontAll l ss f = (ts more k : List Term) → ts ++ more ≡ f k → BeginAll l ss ts ⊎ PassedAll l ss ts more k

front_none : (l : Language) → FrontAll l [] (λ k. k)
front_none l ts more k e = inr ([], ts, none, refl, e)

front_some : (l : Language) (s : Symbol) (ss : List Symbol) (f g : List Term → List Term) → Front l s f → FrontAll l ss g → FrontAll l (s ∷ ss) (λ k. f (g k))
front_some l s ss f g p q ts more k e = first (p ts more (g k) e)
  where
    second : (us vs : List Term) → Is l s us → ts ≡ us ++ vs → BeginAll l ss vs ⊎ PassedAll l ss vs more k → BeginAll l (s ∷ ss) ts ⊎ PassedAll l (s ∷ ss) ts more k
    second us vs i et (inl b) = inl (subst (BeginAll l (s ∷ ss)) (sym et) (past i b))
    second us vs i et (inr (us', vs', is, et', ev)) = inr (us ++ us', vs', some i is, et ∙ ap (λ q. us ++ q) et' ∙ sym (append_assoc us us' vs'), ev)

    first : Begins l s ts ⊎ Passed l s ts more (g k) → BeginAll l (s ∷ ss) ts ⊎ PassedAll l (s ∷ ss) ts more k
    first (inl b) = inl (part b)
    first (inr (us, vs, i, et, ev)) = second us vs i et (q vs more k ev)

front_by : (l : Language) (s : Symbol) (ss : List Symbol) (f : List Term → List Term) → Alternative l s ss → FrontAll l ss f → Front l s f
front_by l s ss f a p ts more k e = go (p ts more k e)
  where
    go : BeginAll l ss ts ⊎ PassedAll l ss ts more k → Begins l s ts ⊎ Passed l s ts more k
    go (inl b) = inl (within a b)
    go (inr (us, vs, is, et, ev)) = inr (us, vs, by a is, et, ev)

front_term : (l : Language) (s : Symbol) (t : Term) → MatchesSymbol s t → Front l s (λ k. t ∷ k)
front_term l s t f [] more k e = inl empty
front_term l s t f (v ∷ vs) more k e =
    let head : v ≡ t = cc in
    let tail : vs ++ more ≡ k = cc in
    inr (t ∷ [], vs, is_itself f, ap (λ x. x ∷ vs) head, tail)

the : (l : Language) (t : Term) → Front l (The t) (λ k. t ∷ k)
the l t = front_term l (The t) t refl

a_name : (l : Language) (x : List ℕ) → Front l AName (λ k. Name x ∷ k)
a_name l x = front_term l AName (Name x) (x, refl)

a_number : (l : Language) (n : ℤ) → Front l ANumber (λ k. Number n ∷ k)
a_number l n = front_term l ANumber (Number n) (n, refl)

front_one : (l : Language) (s : Symbol) (f : List Term → List Term) → Front l s f → FrontAll l (s ∷ []) f
front_one l s f p = front_some l s [] f (λ k. k) p (front_none l)

front_two : (l : Language) (s t : Symbol) (f g : List Term → List Term) → Front l s f → Front l t g → FrontAll l (s ∷ t ∷ []) (λ k. f (g k))
front_two l s t f g p q = front_some l s (t ∷ []) f g p (front_one l t g q)

front_three : (l : Language) (s t u : Symbol) (f g h : List Term → List Term) → Front l s f → Front l t g → Front l u h → FrontAll l (s ∷ t ∷ u ∷ []) (λ k. f (g (h k)))
front_three l s t u f g h p q r = front_some l s (t ∷ u ∷ []) f (λ k. g (h k)) p (front_two l t u g h q r)

front_four : (l : Language) (s t u v : Symbol) (f g h i : List Term → List Term) → Front l s f → Front l t g → Front l u h → Front l v i → FrontAll l (s ∷ t ∷ u ∷ v ∷ []) (λ k. f (g (h (i k))))
front_four l s t u v f g h i p q r o = front_some l s (t ∷ u ∷ v ∷ []) f (λ k. g (h (i k))) p (front_three l t u v g h i q r o)

front_five : (l : Language) (s t u v w : Symbol) (f g h i j : List Term → List Term) → Front l s f → Front l t g → Front l u h → Front l v i → Front l w j → FrontAll l (s ∷ t ∷ u ∷ v ∷ w ∷ []) (λ k. f (g (h (i (j k)))))
front_five l s t u v w f g h i j p q r o n = front_some l s (t ∷ u ∷ v ∷ w ∷ []) f (λ k. g (h (i (j k)))) p (front_four l t u v w g h i j q r o n)

token_front : (l : Language) (t : TokenPhrase) → Front l AToken (token t)
token_front l (phrase.On x) = front_by l _ _ _ asserts (front_one l _ _ (a_name l x))
token_front l (phrase.Off x) = front_by l _ _ _ denies (front_two l _ _ _ _ (the l Bang) (a_name l x))
token_front l (phrase.Clash x) = front_by l _ _ _ clashes (front_two l _ _ _ _ (the l Hash) (a_name l x))
token_front l (AtLeast x n) = front_by l _ _ _ at_least (front_three l _ _ _ _ _ _ (a_name l x) (the l GreaterEqual) (a_number l n))
token_front l (AtMost x n) = front_by l _ _ _ at_most (front_three l _ _ _ _ _ _ (a_name l x) (the l LessEqual) (a_number l n))
token_front l (Exactly x n) = front_by l _ _ _ exactly (front_three l _ _ _ _ _ _ (a_name l x) (the l Equal) (a_number l n))

constraint_front : (l : Language) (c : ConstraintPhrase) → Front l AConstraint (constraint c)
constraint_front l (One t) = front_by l _ _ _ one (front_one l _ _ (token_front l t))
constraint_front l (Both t c) = front_by l _ _ _ both (front_three l _ _ _ _ _ _ (token_front l t) (the l Ampersand) (constraint_front l c))

item_front : (l : Language) (x : List ℕ) (low high : ℤ) → Front l AnItem (λ k. Name x ∷ In ∷ Number low ∷ Range ∷ Number high ∷ k)
item_front l x low high = front_by l _ _ _ item (front_five l _ _ _ _ _ _ _ _ _ _ (a_name l x) (the l In) (a_number l low) (the l Range) (a_number l high))

names_front : (l : Language) (ns : NamesPhrase) → Front l SomeNames (names ns)
names_front l (LastName x) = front_by l _ _ _ last_name (front_one l _ _ (a_name l x))
names_front l (MoreName x ns) = front_by l _ _ _ more_names (front_three l _ _ _ _ _ _ (a_name l x) (the l Comma) (names_front l ns))

items_front : (l : Language) (is : ItemsPhrase) → Front l SomeItems (items is)
items_front l (LastItem x low high) = front_by l _ _ _ last_item (front_one l _ _ (item_front l x low high))
items_front l (MoreItem x low high is) = front_by l _ _ _ more_items (front_three l _ _ _ _ _ _ (item_front l x low high) (the l Comma) (items_front l is))

-- what the language allows of a par it allows of each part
allows_left : (l : Language) (a b : Bool) → Allows l (a && b) → Allows l a
allows_left Whole a b h = tt
allows_left Core a b h = and_left a b h

allows_right : (l : Language) (a b : Bool) → Allows l (a && b) → Allows l b
allows_right Whole a b h = tt
allows_right Core a b h = and_right a b h

-- a derived form is of the whole language
derived : (l : Language) (s : Symbol) (f : List Term → List Term) → Allows l false → Front Whole s f → Front l s f
derived Whole s f h p = p
derived Core s f h p = cc

mutual
  unit_front : (l : Language) (u : UnitPhrase) → Allows l (is_core_unit u) → Front l AUnit (unit u)
  unit_front l phrase.Skip h = front_by l _ _ _ nothing (front_one l _ _ (the l Skip))
  unit_front l (Tell c) h = front_by l _ _ _ tell (front_one l _ _ (constraint_front l c))
  unit_front l (Braces a) h = front_by l _ _ _ braces (front_three l _ _ _ _ _ _ (the l OpenBrace) (agent_front l a h) (the l CloseBrace))
  unit_front l (IfThen c u) h = front_by l _ _ _ if_then (front_four l _ _ _ _ _ _ _ _ (the l If) (constraint_front l c) (the l Then) (unit_front l u h))
  unit_front l (IfElse c u) h = front_by l _ _ _ if_else (front_four l _ _ _ _ _ _ _ _ (the l If) (constraint_front l c) (the l Else) (unit_front l u h))
  unit_front l (LocalSignal x u) h = front_by l _ _ _ new_signal (front_five l _ _ _ _ _ _ _ _ _ _ (the l New) (the l Signal) (a_name l x) (the l In) (unit_front l u h))
  unit_front l (LocalInt x low high u) h = front_by l _ _ _ new_int (front_five l _ _ _ _ _ _ _ _ _ _ (the l New) (the l Int) (item_front l x low high) (the l In) (unit_front l u h))
  unit_front l (phrase.Hence u) h = front_by l _ _ _ hence (front_two l _ _ _ _ (the l Hence) (unit_front l u h))
  unit_front l (phrase.Next u) h = front_by l _ _ _ next (front_two l _ _ _ _ (the l Next) (unit_front l u h))
  unit_front l (phrase.Always u) h = derived l _ _ h (front_by Whole _ _ _ always (front_two Whole _ _ _ _ (the Whole Always) (unit_front Whole u tt)))
  unit_front l (phrase.When c u) h = derived l _ _ h (front_by Whole _ _ _ when_do (front_four Whole _ _ _ _ _ _ _ _ (the Whole When) (constraint_front Whole c) (the Whole Do) (unit_front Whole u tt)))
  unit_front l (phrase.Watching a c) h = derived l _ _ h (front_by Whole _ _ _ do_watching (front_four Whole _ _ _ _ _ _ _ _ (the Whole Do) (agent_front Whole a tt) (the Whole Watching) (constraint_front Whole c)))
  unit_front l (phrase.TimeOn a c) h = derived l _ _ h (front_by Whole _ _ _ time_on (front_four Whole _ _ _ _ _ _ _ _ (the Whole Time) (agent_front Whole a tt) (the Whole On) (constraint_front Whole c)))

  agent_front : (l : Language) (a : AgentPhrase) → Allows l (is_core_agent a) → Front l AnAgent (agent a)
  agent_front l (Only u) h = front_by l _ _ _ only (front_one l _ _ (unit_front l u h))
  agent_front l (Par u a) h = front_by l _ _ _ par (front_three l _ _ _ _ _ _ (unit_front l u (allows_left l (is_core_unit u) (is_core_agent a) h)) (the l Bars) (agent_front l a (allows_right l (is_core_unit u) (is_core_agent a) h)))

program_front : (l : Language) (p : ProgramPhrase) → Allows l (is_core p) → Front l AProgram (program p)
program_front l (Runs a) h = front_by l _ _ _ runs (front_one l _ _ (agent_front l a h))
program_front l (Signals ns p) h = front_by l _ _ _ signals (front_four l _ _ _ _ _ _ _ _ (the l Signal) (names_front l ns) (the l Semicolon) (program_front l p h))
program_front l (Ints is p) h = front_by l _ _ _ ints (front_four l _ _ _ _ _ _ _ _ (the l Int) (items_front l is) (the l Semicolon) (program_front l p h))

-- what is a symbol begins it
all_begin : {l : Language} (ss : List Symbol) (ts : List Term) → AreAll l ss ts → BeginAll l ss ts
all_begin _ _ none = whole
all_begin _ _ (some i all) = past i (all_begin _ _ all)

is_begins : {l : Language} (s : Symbol) (ts : List Term) → Is l s ts → Begins l s ts
is_begins s ts (is_itself f) = begins_itself f
is_begins s ts (by a all) = within a (all_begin _ _ all)

-- What a program goes on from begins one by the cases.
pub program_begins : (l : Language) (ts : List Term) → BeginsProgram l ts → Begins l AProgram ts
program_begins l ts (more, (p, s)) = go (program_front l p s.allowed ts more [] s.spelled)
  where
    go : Begins l AProgram ts ⊎ Passed l AProgram ts more [] → Begins l AProgram ts
    go (inl b) = b
    go (inr (us, [], i, et, ev)) = subst (Begins l AProgram) (sym (et ∙ append-nil us)) (is_begins AProgram us i)
    go (inr (us, v ∷ vs, i, et, ev)) = cc
