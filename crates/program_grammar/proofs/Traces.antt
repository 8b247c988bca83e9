-- The machine goes through each program to its end, and takes the steps of its phrases.
use Rattle.std.proofs.Common.{◌≡◌, ℕ, List, [], ◌∷◌, ◌++◌, Option, Some, None, Bool, true, false, refl, ap, sym, ◌∙◌}
use Rattle.std.specs.Prelude.{option_and_then, if◌then◌else◌, ◌&&◌, map}
use Rattle.program_grammar.specs.Terms.{Term, class_of, classes, Name, Number, Signal, Int, In, If, Then, Else, New, Hence, Next, Always, When, Do, Watching, Time, On, Semicolon, Comma, Range, Ampersand, Bars, OpenBrace, CloseBrace}
use Rattle.program_grammar.specs.declared.words.Word.{Word}
use Rattle.program_grammar.specs.declared.stack_symbols.StackSymbol.{StackSymbol}
use Rattle.program_grammar.specs.declared.stack_symbols.StackSymbol.TheVariants.{Declarations, MoreNames, OneUnit, MoreUnits, OneToken, MoreTokens, Bound, Branch, DeclaredName, LocalName, TheIn, TheClose, EndTell, EndBody, EndLocal, DeclaredIntName, LocalIntName, DomainIn, LowNumber, TheRange, HighNumber, MoreItems, NewKind, TheDo, TheWatching, TheOn, EndWatch, EndTimed}
use Rattle.program_grammar.specs.Phrases.{TokenPhrase, AtLeast, AtMost, Exactly, ConstraintPhrase, One, Both, UnitPhrase, Tell, Braces, IfThen, IfElse, LocalSignal, LocalInt, AgentPhrase, Only, Par, NamesPhrase, LastName, MoreName, ItemsPhrase, LastItem, MoreItem, ProgramPhrase, Runs, Signals, Ints}
use Rattle.program_grammar.specs.Phrases as phrase
use Rattle.program_grammar.specs.Spelling.{token, constraint, unit, agent, names, items, program}
use Rattle.program_grammar.specs.Table.{stack_after}
use Rattle.program_grammar.specs.Machine.{may_end, replaced, feed, run, ended, start}
use Rattle.program_grammar.specs.declared.machine.Step.TheVariants.{Matched, Skipped}
use Rattle.program_grammar.specs.Events.{Event, Matches, Skips, token_events, constraint_events, unit_events, agent_events, names_events, items_events, program_events, numbered}
use Rattle.std.specs.Prelude.{is_none, is_some, suc}
use Rattle.program_grammar.specs.Machine.{word_steps, with_some, trace}
use Rattle.program_grammar.proofs.Soundness.{some_same, none_some}

-- what a term does to the parts, and then the events that follow
abbrev word_events : List StackSymbol → Term → List Event → List Event
word_events [] t rest = rest
word_events (p ∷ ps) t rest = if is_some (stack_after p (class_of t)) then Matches p t ∷ rest else Skips p ∷ word_events ps t rest

-- the events of several terms, behind those that f puts before them, if the machine goes through and may end
abbrev events : (List Event → List Event) → List StackSymbol → List Term → Option (List Event)
events f ps [] = if ended ps then Some (f (map Skips ps)) else None
events f ps (t ∷ ts) = option_and_then (λ qs. events (λ es. f (word_events ps t es)) qs ts) (feed ps (class_of t))

-- the terms do not go on with the part
abbrev stops : StackSymbol → List Term → Bool
stops p [] = true
stops p (t ∷ ts) = is_none (stack_after p (class_of t))

pop_word : (f : List Event → List Event) (p : StackSymbol) (ps : List StackSymbol) (t : Term) (ts : List Term) (o : Option (List StackSymbol)) (b : Bool) → b ≡ true → is_none o ≡ true
    → option_and_then (λ qs. events (λ es. f (if is_some o then Matches p t ∷ es else Skips p ∷ word_events ps t es)) qs ts) (replaced o ps (if b then feed ps (class_of t) else None)) ≡ option_and_then (λ qs. events (λ es. f (Skips p ∷ word_events ps t es)) qs ts) (feed ps (class_of t))
pop_word f p ps t ts None true m s = refl
pop_word f p ps t ts None false m s = cc
pop_word f p ps t ts (Some rest) b m s = cc

-- a part that is left
pop : (f : List Event → List Event) (p : StackSymbol) (ps : List StackSymbol) (ts : List Term) → may_end p ≡ true → stops p ts ≡ true → events f (p ∷ ps) ts ≡ events (λ es. f (Skips p ∷ es)) ps ts
pop f p ps [] m s = ap (λ b. if b && ended ps then Some (f (Skips p ∷ map Skips ps)) else None) m
pop f p ps (t ∷ ts) m s = pop_word f p ps t ts (stack_after p (class_of t)) (may_end p) m s

-- a part that takes no word
pass : (f : List Event → List Event) (p : StackSymbol) (ps : List StackSymbol) (ts : List Term) → may_end p ≡ true → ((w : Word) → stack_after p w ≡ None) → events f (p ∷ ps) ts ≡ events (λ es. f (Skips p ∷ es)) ps ts
pass f p ps [] m h = pop f p ps [] m refl
pass f p ps (t ∷ ts) m h = pop f p ps (t ∷ ts) m (ap is_none (h (class_of t)))

token_trace : (f : List Event → List Event) (t : TokenPhrase) (ps : List StackSymbol) (k : List Term) → stops Bound k ≡ true → events f (OneToken ∷ ps) (token t k) ≡ events (λ es. f (token_events OneToken t es)) ps k
token_trace f (phrase.On x) ps k s = pop (λ es. f (Matches OneToken (Name x) ∷ es)) Bound ps k refl s
token_trace f (phrase.Off x) ps k s = refl
token_trace f (phrase.Clash x) ps k s = refl
token_trace f (AtLeast x n) ps k s = refl
token_trace f (AtMost x n) ps k s = refl
token_trace f (Exactly x n) ps k s = refl

-- the token that a unit begins with
unit_token : (f : List Event → List Event) (t : TokenPhrase) (ps : List StackSymbol) (k : List Term) → stops Bound k ≡ true → events f (OneUnit ∷ ps) (token t k) ≡ events (λ es. f (token_events OneUnit t es)) (MoreTokens ∷ EndTell ∷ ps) k
unit_token f (phrase.On x) ps k s = pop (λ es. f (Matches OneUnit (Name x) ∷ es)) Bound (MoreTokens ∷ EndTell ∷ ps) k refl s
unit_token f (phrase.Off x) ps k s = refl
unit_token f (phrase.Clash x) ps k s = refl
unit_token f (AtLeast x n) ps k s = refl
unit_token f (AtMost x n) ps k s = refl
unit_token f (Exactly x n) ps k s = refl

tokens_trace : (f : List Event → List Event) (c : ConstraintPhrase) (ps : List StackSymbol) (k : List Term) → stops Bound k ≡ true → stops MoreTokens k ≡ true → events f (OneToken ∷ MoreTokens ∷ ps) (constraint c k) ≡ events (λ es. f (constraint_events OneToken c es)) ps k
tokens_trace f (One t) ps k b s = token_trace f t (MoreTokens ∷ ps) k b ∙ pop (λ es. f (token_events OneToken t es)) MoreTokens ps k refl s
tokens_trace f (Both t c) ps k b s = token_trace f t (MoreTokens ∷ ps) (Ampersand ∷ constraint c k) refl ∙ tokens_trace (λ es. f (token_events OneToken t (Matches MoreTokens Ampersand ∷ es))) c ps k b s

unit_constraint : (f : List Event → List Event) (c : ConstraintPhrase) (ps : List StackSymbol) (k : List Term) → stops Bound k ≡ true → stops MoreTokens k ≡ true → events f (OneUnit ∷ ps) (constraint c k) ≡ events (λ es. f (constraint_events OneUnit c es)) (EndTell ∷ ps) k
unit_constraint f (One t) ps k b s = unit_token f t ps k b ∙ pop (λ es. f (token_events OneUnit t es)) MoreTokens (EndTell ∷ ps) k refl s
unit_constraint f (Both t c) ps k b s = unit_token f t ps (Ampersand ∷ constraint c k) refl ∙ tokens_trace (λ es. f (token_events OneUnit t (Matches MoreTokens Ampersand ∷ es))) c (EndTell ∷ ps) k b s

body_left : (f : List Event → List Event) (u : UnitPhrase) (ps : List StackSymbol) (k : List Term) → events (λ es. f (unit_events u es)) (EndBody ∷ ps) k ≡ events (λ es. f (unit_events u (Skips EndBody ∷ es))) ps k
body_left f u ps k = pass (λ es. f (unit_events u es)) EndBody ps k refl (λ w. refl)

local_left : (f : List Event → List Event) (u : UnitPhrase) (ps : List StackSymbol) (k : List Term) → events (λ es. f (unit_events u es)) (EndLocal ∷ ps) k ≡ events (λ es. f (unit_events u (Skips EndLocal ∷ es))) ps k
local_left f u ps k = pass (λ es. f (unit_events u es)) EndLocal ps k refl (λ w. refl)

mutual
  unit_trace : (f : List Event → List Event) (u : UnitPhrase) (ps : List StackSymbol) (k : List Term) → stops Bound k ≡ true → stops MoreTokens k ≡ true → events f (OneUnit ∷ ps) (unit u k) ≡ events (λ es. f (unit_events u es)) ps k
  unit_trace f phrase.Skip ps k b s = refl
  unit_trace f (Tell c) ps k b s = unit_constraint f c ps k b s ∙ pass (λ es. f (constraint_events OneUnit c es)) EndTell ps k refl (λ w. refl)
  unit_trace f (Braces a) ps k b s = agent_trace (λ es. f (Matches OneUnit OpenBrace ∷ es)) a (TheClose ∷ ps) (CloseBrace ∷ k) refl refl refl
  unit_trace f (IfThen c u) ps k b s = tokens_trace (λ es. f (Matches OneUnit If ∷ es)) c (Branch ∷ ps) (Then ∷ unit u k) refl refl ∙ unit_trace (λ es. f (Matches OneUnit If ∷ constraint_events OneToken c (Matches Branch Then ∷ es))) u (EndBody ∷ ps) k b s ∙ body_left (λ es. f (Matches OneUnit If ∷ constraint_events OneToken c (Matches Branch Then ∷ es))) u ps k
  unit_trace f (IfElse c u) ps k b s = tokens_trace (λ es. f (Matches OneUnit If ∷ es)) c (Branch ∷ ps) (Else ∷ unit u k) refl refl ∙ unit_trace (λ es. f (Matches OneUnit If ∷ constraint_events OneToken c (Matches Branch Else ∷ es))) u (EndBody ∷ ps) k b s ∙ body_left (λ es. f (Matches OneUnit If ∷ constraint_events OneToken c (Matches Branch Else ∷ es))) u ps k
  unit_trace f (LocalSignal x u) ps k b s = unit_trace (λ es. f (Matches OneUnit New ∷ Matches NewKind Signal ∷ Matches LocalName (Name x) ∷ Matches TheIn In ∷ es)) u (EndLocal ∷ ps) k b s ∙ local_left (λ es. f (Matches OneUnit New ∷ Matches NewKind Signal ∷ Matches LocalName (Name x) ∷ Matches TheIn In ∷ es)) u ps k
  unit_trace f (LocalInt x l h u) ps k b s = unit_trace (λ es. f (Matches OneUnit New ∷ Matches NewKind Int ∷ Matches LocalIntName (Name x) ∷ Matches DomainIn In ∷ Matches LowNumber (Number l) ∷ Matches TheRange Range ∷ Matches HighNumber (Number h) ∷ Matches TheIn In ∷ es)) u (EndLocal ∷ ps) k b s ∙ local_left (λ es. f (Matches OneUnit New ∷ Matches NewKind Int ∷ Matches LocalIntName (Name x) ∷ Matches DomainIn In ∷ Matches LowNumber (Number l) ∷ Matches TheRange Range ∷ Matches HighNumber (Number h) ∷ Matches TheIn In ∷ es)) u ps k
  unit_trace f (phrase.Hence u) ps k b s = unit_trace (λ es. f (Matches OneUnit Hence ∷ es)) u (EndBody ∷ ps) k b s ∙ body_left (λ es. f (Matches OneUnit Hence ∷ es)) u ps k
  unit_trace f (phrase.Next u) ps k b s = unit_trace (λ es. f (Matches OneUnit Next ∷ es)) u (EndBody ∷ ps) k b s ∙ body_left (λ es. f (Matches OneUnit Next ∷ es)) u ps k
  unit_trace f (phrase.Always u) ps k b s = unit_trace (λ es. f (Matches OneUnit Always ∷ es)) u (EndBody ∷ ps) k b s ∙ body_left (λ es. f (Matches OneUnit Always ∷ es)) u ps k
  unit_trace f (phrase.When c u) ps k b s = tokens_trace (λ es. f (Matches OneUnit When ∷ es)) c (TheDo ∷ OneUnit ∷ EndBody ∷ ps) (Do ∷ unit u k) refl refl ∙ unit_trace (λ es. f (Matches OneUnit When ∷ constraint_events OneToken c (Matches TheDo Do ∷ es))) u (EndBody ∷ ps) k b s ∙ body_left (λ es. f (Matches OneUnit When ∷ constraint_events OneToken c (Matches TheDo Do ∷ es))) u ps k
  unit_trace f (phrase.Watching a c) ps k b s = agent_trace (λ es. f (Matches OneUnit Do ∷ es)) a (TheWatching ∷ OneToken ∷ MoreTokens ∷ EndWatch ∷ ps) (Watching ∷ constraint c k) refl refl refl ∙ tokens_trace (λ es. f (Matches OneUnit Do ∷ agent_events a (Matches TheWatching Watching ∷ es))) c (EndWatch ∷ ps) k b s ∙ pass (λ es. f (Matches OneUnit Do ∷ agent_events a (Matches TheWatching Watching ∷ constraint_events OneToken c es))) EndWatch ps k refl (λ w. refl)
  unit_trace f (phrase.TimeOn a c) ps k b s = agent_trace (λ es. f (Matches OneUnit Time ∷ es)) a (TheOn ∷ OneToken ∷ MoreTokens ∷ EndTimed ∷ ps) (On ∷ constraint c k) refl refl refl ∙ tokens_trace (λ es. f (Matches OneUnit Time ∷ agent_events a (Matches TheOn On ∷ es))) c (EndTimed ∷ ps) k b s ∙ pass (λ es. f (Matches OneUnit Time ∷ agent_events a (Matches TheOn On ∷ constraint_events OneToken c es))) EndTimed ps k refl (λ w. refl)

  agent_trace : (f : List Event → List Event) (a : AgentPhrase) (ps : List StackSymbol) (k : List Term) → stops Bound k ≡ true → stops MoreTokens k ≡ true → stops MoreUnits k ≡ true → events f (OneUnit ∷ MoreUnits ∷ ps) (agent a k) ≡ events (λ es. f (agent_events a es)) ps k
  agent_trace f (Only u) ps k b s m = unit_trace f u (MoreUnits ∷ ps) k b s ∙ pop (λ es. f (unit_events u es)) MoreUnits ps k refl m
  agent_trace f (Par u a) ps k b s m = unit_trace f u (MoreUnits ∷ ps) (Bars ∷ agent a k) refl refl ∙ agent_trace (λ es. f (unit_events u (Matches MoreUnits Bars ∷ es))) a ps k b s m

names_trace : (f : List Event → List Event) (ns : NamesPhrase) (ps : List StackSymbol) (k : List Term) → events f (DeclaredName ∷ MoreNames ∷ ps) (names ns (Semicolon ∷ k)) ≡ events (λ es. f (names_events ns es)) ps k
names_trace f (LastName x) ps k = refl
names_trace f (MoreName x ns) ps k = names_trace (λ es. f (Matches DeclaredName (Name x) ∷ Matches MoreNames Comma ∷ es)) ns ps k

items_trace : (f : List Event → List Event) (is : ItemsPhrase) (ps : List StackSymbol) (k : List Term) → events f (DeclaredIntName ∷ DomainIn ∷ LowNumber ∷ TheRange ∷ HighNumber ∷ MoreItems ∷ ps) (items is (Semicolon ∷ k)) ≡ events (λ es. f (items_events is es)) ps k
items_trace f (LastItem x l h) ps k = refl
items_trace f (MoreItem x l h is) ps k = items_trace (λ es. f (Matches DeclaredIntName (Name x) ∷ Matches DomainIn In ∷ Matches LowNumber (Number l) ∷ Matches TheRange Range ∷ Matches HighNumber (Number h) ∷ Matches MoreItems Comma ∷ es)) is ps k

-- no agent begins as a declaration does
no_declaration_token : (t : TokenPhrase) (k : List Term) → stops Declarations (token t k) ≡ true
no_declaration_token (phrase.On x) k = refl
no_declaration_token (phrase.Off x) k = refl
no_declaration_token (phrase.Clash x) k = refl
no_declaration_token (AtLeast x n) k = refl
no_declaration_token (AtMost x n) k = refl
no_declaration_token (Exactly x n) k = refl

no_declaration_constraint : (c : ConstraintPhrase) (k : List Term) → stops Declarations (constraint c k) ≡ true
no_declaration_constraint (One t) k = no_declaration_token t k
no_declaration_constraint (Both t c) k = no_declaration_token t (Ampersand ∷ constraint c k)

no_declaration_unit : (u : UnitPhrase) (k : List Term) → stops Declarations (unit u k) ≡ true
no_declaration_unit (Tell c) k = no_declaration_constraint c k
no_declaration_unit phrase.Skip k = refl
no_declaration_unit (Braces a) k = refl
no_declaration_unit (IfThen c u) k = refl
no_declaration_unit (IfElse c u) k = refl
no_declaration_unit (LocalSignal x u) k = refl
no_declaration_unit (LocalInt x l h u) k = refl
no_declaration_unit (phrase.Hence u) k = refl
no_declaration_unit (phrase.Next u) k = refl
no_declaration_unit (phrase.Always u) k = refl
no_declaration_unit (phrase.When c u) k = refl
no_declaration_unit (phrase.Watching a c) k = refl
no_declaration_unit (phrase.TimeOn a c) k = refl

no_declaration_agent : (a : AgentPhrase) (k : List Term) → stops Declarations (agent a k) ≡ true
no_declaration_agent (Only u) k = no_declaration_unit u k
no_declaration_agent (Par u a) k = no_declaration_unit u (Bars ∷ agent a k)

program_trace : (f : List Event → List Event) (p : ProgramPhrase) → events f start (program p []) ≡ Some (f (program_events p))
program_trace f (Runs a) = pop f Declarations (OneUnit ∷ MoreUnits ∷ []) (agent a []) refl (no_declaration_agent a []) ∙ agent_trace (λ es. f (Skips Declarations ∷ es)) a [] [] refl refl refl
program_trace f (Signals ns p) = names_trace (λ es. f (Matches Declarations Signal ∷ es)) ns start (program p []) ∙ program_trace (λ es. f (Matches Declarations Signal ∷ names_events ns es)) p
program_trace f (Ints is p) = items_trace (λ es. f (Matches Declarations Int ∷ es)) is start (program p []) ∙ program_trace (λ es. f (Matches Declarations Int ∷ items_events is es)) p

-- where there are events, the machine goes through, may end, and takes them as steps
abbrev Reads : (List Event → List Event) → List StackSymbol → ℕ → List Term → List Event → Type 0
Reads f ps n ts es = ((qs : List StackSymbol) × (run ps (classes ts) ≡ Some qs) × (ended qs ≡ true)) × ((rest : List Event) × (es ≡ f rest) × (trace ps n (classes ts) ≡ numbered n rest))

left_numbered : (ps : List StackSymbol) (n : ℕ) → map Skipped ps ≡ numbered n (map Skips ps)
left_numbered [] n = refl
left_numbered (p ∷ ps) n = ap (λ l. Skipped p ∷ l) (left_numbered ps n)

word_numbered : (ps qs : List StackSymbol) (t : Term) (n : ℕ) (rest : List Event) → feed ps (class_of t) ≡ Some qs → word_steps ps n (class_of t) ++ numbered (suc n) rest ≡ numbered n (word_events ps t rest)
word_numbered [] qs t n rest e = absurd (none_some e)
word_numbered (p ∷ ps) qs t n rest e = go (stack_after p (class_of t)) (may_end p) (λ h. word_numbered ps qs t n rest h) e
  where
    go : (o : Option (List StackSymbol)) (b : Bool) → (feed ps (class_of t) ≡ Some qs → word_steps ps n (class_of t) ++ numbered (suc n) rest ≡ numbered n (word_events ps t rest))
        → replaced o ps (if b then feed ps (class_of t) else None) ≡ Some qs
        → (if is_some o then Matched p n ∷ [] else Skipped p ∷ word_steps ps n (class_of t)) ++ numbered (suc n) rest ≡ numbered n (if is_some o then Matches p t ∷ rest else Skips p ∷ word_events ps t rest)
    go (Some more) b ih e = refl
    go None true ih e = ap (λ l. Skipped p ∷ l) (ih e)
    go None false ih e = absurd (none_some e)

events_read : (ts : List Term) (f : List Event → List Event) (ps : List StackSymbol) (n : ℕ) (es : List Event) → events f ps ts ≡ Some es → Reads f ps n ts es
events_read [] f ps n es e = go (ended ps) refl e
  where
    go : (b : Bool) → ended ps ≡ b → (if b then Some (f (map Skips ps)) else None) ≡ Some es → Reads f ps n [] es
    go true h e = ((ps, refl, h), (map Skips ps, sym (some_same e), left_numbered ps n))
    go false h e = absurd (none_some e)
events_read (t ∷ ts) f ps n es e = go (feed ps (class_of t)) refl (λ qs h. events_read ts (λ es. f (word_events ps t es)) qs (suc n) es h) e
  where
    go : (o : Option (List StackSymbol)) → feed ps (class_of t) ≡ o → ((qs : List StackSymbol) → events (λ es. f (word_events ps t es)) qs ts ≡ Some es → Reads (λ es. f (word_events ps t es)) qs (suc n) ts es)
        → option_and_then (λ qs. events (λ es. f (word_events ps t es)) qs ts) o ≡ Some es
        → ((rs : List StackSymbol) × (option_and_then (λ qs. run qs (classes ts)) o ≡ Some rs) × (ended rs ≡ true)) × ((rest : List Event) × (es ≡ f rest) × (word_steps ps n (class_of t) ++ with_some o (λ qs. trace qs (suc n) (classes ts)) ≡ numbered n rest))
    go None h ih e = absurd (none_some e)
    go (Some qs) h ih e = let (goes, (rest, same, steps)) = ih qs e in (goes, (word_events ps t rest, same, ap (λ l. word_steps ps n (class_of t) ++ l) steps ∙ word_numbered ps qs t n rest h))

-- The machine goes through a program and may end there.
pub program_run : (p : ProgramPhrase) → (qs : List StackSymbol) × (run start (classes (program p [])) ≡ Some qs) × (ended qs ≡ true)
program_run p = (events_read (program p []) (λ es. es) start 0 (program_events p) (program_trace (λ es. es) p)).0

-- The steps that it takes are those of the program.
pub program_steps : (p : ProgramPhrase) → trace start 0 (classes (program p [])) ≡ numbered 0 (program_events p)
program_steps p = let (rest, same, steps) = (events_read (program p []) (λ es. es) start 0 (program_events p) (program_trace (λ es. es) p)).1 in steps ∙ ap (numbered 0) (sym same)
