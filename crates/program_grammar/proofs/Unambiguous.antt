-- The grammar is unambiguous: events are those of one phrase, and terms those of one program.
use Rattle.std.proofs.Common.{◌≡◌, ℕ, List, [], ◌∷◌, refl, ap, sym, ◌∙◌, arith}
use Rattle.std.specs.Prelude.{map}
use Rattle.program_grammar.specs.Terms.{classes, Skip, If, New, Hence, Next, Always, When, Do, Time, Ampersand, OpenBrace}
use Rattle.program_grammar.specs.Phrases.{TokenPhrase, AtLeast, AtMost, Exactly, ConstraintPhrase, One, Both, UnitPhrase, Tell, Braces, IfThen, IfElse, LocalSignal, LocalInt, AgentPhrase, Only, Par, NamesPhrase, LastName, MoreName, ItemsPhrase, LastItem, MoreItem, ProgramPhrase, Runs, Signals, Ints}
use Rattle.program_grammar.specs.Phrases as phrases
use Rattle.program_grammar.specs.declared.stack_symbols.StackSymbol.{StackSymbol}
use Rattle.program_grammar.specs.declared.stack_symbols.StackSymbol.TheVariants.{OneUnit, OneToken, MoreTokens, EndTell}
use Rattle.program_grammar.specs.Spelling.{program}
use Rattle.program_grammar.specs.Events.{Event, Matches, Skips, token_events, constraint_events, unit_events, agent_events, names_events, items_events, program_events, numbered, event_at}
use Rattle.program_grammar.specs.Machine.{start, trace}
use Rattle.program_grammar.proofs.Traces.{program_steps}
use Rattle.program_grammar.proofs.Places.{events_at-program}

-- what follows the first of two equal lists
abbrev less_first : List Event → List Event
less_first [] = []
less_first (x ∷ xs) = xs

tail : {x y : Event} {xs ys : List Event} → x ∷ xs ≡ y ∷ ys → xs ≡ ys
tail e = ap less_first e

token_one : (p : StackSymbol) (t s : TokenPhrase) (k l : List Event) → token_events p t k ≡ token_events p s l → (t ≡ s) × (k ≡ l)
token_one p (phrases.On x) (phrases.On y) k l e = (cc, cc)
token_one p (phrases.Off x) (phrases.Off y) k l e = (cc, cc)
token_one p (phrases.Clash x) (phrases.Clash y) k l e = (cc, cc)
token_one p (AtLeast x n) (AtLeast y m) k l e = (cc, cc)
token_one p (AtMost x n) (AtMost y m) k l e = (cc, cc)
token_one p (Exactly x n) (Exactly y m) k l e = (cc, cc)
token_one p t s k l e = cc

constraint_one : (p : StackSymbol) (c d : ConstraintPhrase) (k l : List Event) → constraint_events p c k ≡ constraint_events p d l → (c ≡ d) × (k ≡ l)
constraint_one p (One t) (One s) k l e = let (first, rest) = token_one p t s _ _ e in (ap One first, tail rest)
constraint_one p (Both t c) (Both s d) k l e =
    let (first, rest) = token_one p t s _ _ e in
    let (others, end) = constraint_one OneToken c d _ _ (tail rest) in (cc, end)
constraint_one p (One t) (Both s d) k l e = let (first, rest) = token_one p t s _ _ e in cc
constraint_one p (Both t c) (One s) k l e = let (first, rest) = token_one p t s _ _ e in cc

-- the form of a unit, as its first event tells it; if-then and if-else begin alike, and so do both forms of new
abbrev form : UnitPhrase → ℕ
form phrases.Skip = 0
form (Tell c) = 1
form (Braces a) = 2
form (IfThen c u) = 3
form (IfElse c u) = 3
form (LocalSignal x u) = 4
form (LocalInt x l h u) = 4
form (phrases.Hence u) = 5
form (phrases.Next u) = 6
form (phrases.Always u) = 7
form (phrases.When c u) = 8
form (phrases.Watching a c) = 9
form (phrases.TimeOn a c) = 10

abbrev first_form : List Event → ℕ
first_form (Matches p Skip ∷ es) = 0
first_form (Matches p OpenBrace ∷ es) = 2
first_form (Matches p If ∷ es) = 3
first_form (Matches p New ∷ es) = 4
first_form (Matches p Hence ∷ es) = 5
first_form (Matches p Next ∷ es) = 6
first_form (Matches p Always ∷ es) = 7
first_form (Matches p When ∷ es) = 8
first_form (Matches p Do ∷ es) = 9
first_form (Matches p Time ∷ es) = 10
first_form _ = 1

token_form : (t : TokenPhrase) (k : List Event) → first_form (token_events OneUnit t k) ≡ 1
token_form (phrases.On x) k = refl
token_form (phrases.Off x) k = refl
token_form (phrases.Clash x) k = refl
token_form (AtLeast x n) k = refl
token_form (AtMost x n) k = refl
token_form (Exactly x n) k = refl

unit_form : (u : UnitPhrase) (k : List Event) → first_form (unit_events u k) ≡ form u
unit_form phrases.Skip k = refl
unit_form (Tell (One t)) k = token_form t (Skips MoreTokens ∷ Skips EndTell ∷ k)
unit_form (Tell (Both t c)) k = token_form t (Matches MoreTokens Ampersand ∷ constraint_events OneToken c (Skips EndTell ∷ k))
unit_form (Braces a) k = refl
unit_form (IfThen c u) k = refl
unit_form (IfElse c u) k = refl
unit_form (LocalSignal x u) k = refl
unit_form (LocalInt x l h u) k = refl
unit_form (phrases.Hence u) k = refl
unit_form (phrases.Next u) k = refl
unit_form (phrases.Always u) k = refl
unit_form (phrases.When c u) k = refl
unit_form (phrases.Watching a c) k = refl
unit_form (phrases.TimeOn a c) k = refl

same_form : (u v : UnitPhrase) (k l : List Event) → unit_events u k ≡ unit_events v l → form u ≡ form v
same_form u v k l e = sym (unit_form u k) ∙ ap first_form e ∙ unit_form v l

mutual
  unit_one : (u v : UnitPhrase) (k l : List Event) → unit_events u k ≡ unit_events v l → (u ≡ v) × (k ≡ l)
  unit_one phrases.Skip phrases.Skip k l e = (refl, tail e)
  unit_one (Tell c) (Tell d) k l e = let (told, rest) = constraint_one OneUnit c d _ _ e in (ap Tell told, tail rest)
  unit_one (Braces a) (Braces b) k l e = let (inner, rest) = agent_one a b _ _ (tail e) in (ap Braces inner, tail rest)
  unit_one (IfThen c u) (IfThen d v) k l e = let (ask, rest) = constraint_one OneToken c d _ _ (tail e) in let (body, end) = unit_one u v _ _ (tail rest) in (cc, tail end)
  unit_one (IfElse c u) (IfElse d v) k l e = let (ask, rest) = constraint_one OneToken c d _ _ (tail e) in let (body, end) = unit_one u v _ _ (tail rest) in (cc, tail end)
  unit_one (IfThen c u) (IfElse d v) k l e = let (ask, rest) = constraint_one OneToken c d _ _ (tail e) in cc
  unit_one (IfElse c u) (IfThen d v) k l e = let (ask, rest) = constraint_one OneToken c d _ _ (tail e) in cc
  unit_one (LocalSignal x u) (LocalSignal y v) k l e = let (body, end) = unit_one u v _ _ (tail (tail (tail (tail e)))) in (cc, tail end)
  unit_one (LocalInt x a b u) (LocalInt y c d v) k l e = let (body, end) = unit_one u v _ _ (tail (tail (tail (tail (tail (tail (tail (tail e)))))))) in (cc, tail end)
  unit_one (LocalSignal x u) (LocalInt y c d v) k l e = cc
  unit_one (LocalInt x a b u) (LocalSignal y v) k l e = cc
  unit_one (phrases.Hence u) (phrases.Hence v) k l e = let (body, end) = unit_one u v _ _ (tail e) in (cc, tail end)
  unit_one (phrases.Next u) (phrases.Next v) k l e = let (body, end) = unit_one u v _ _ (tail e) in (cc, tail end)
  unit_one (phrases.Always u) (phrases.Always v) k l e = let (body, end) = unit_one u v _ _ (tail e) in (cc, tail end)
  unit_one (phrases.When c u) (phrases.When d v) k l e = let (ask, rest) = constraint_one OneToken c d _ _ (tail e) in let (body, end) = unit_one u v _ _ (tail rest) in (cc, tail end)
  unit_one (phrases.Watching a c) (phrases.Watching b d) k l e = let (inner, rest) = agent_one a b _ _ (tail e) in let (stop, end) = constraint_one OneToken c d _ _ (tail rest) in (cc, tail end)
  unit_one (phrases.TimeOn a c) (phrases.TimeOn b d) k l e = let (inner, rest) = agent_one a b _ _ (tail e) in let (clock, end) = constraint_one OneToken c d _ _ (tail rest) in (cc, tail end)
  unit_one u v k l e = let other = same_form u v k l e in absurd (omega (arith, other))

  agent_one : (a b : AgentPhrase) (k l : List Event) → agent_events a k ≡ agent_events b l → (a ≡ b) × (k ≡ l)
  agent_one (Only u) (Only v) k l e = let (unit, rest) = unit_one u v _ _ e in (ap Only unit, tail rest)
  agent_one (Par u a) (Par v b) k l e = let (left, rest) = unit_one u v _ _ e in let (right, end) = agent_one a b _ _ (tail rest) in (cc, end)
  agent_one (Only u) (Par v b) k l e = let (left, rest) = unit_one u v _ _ e in cc
  agent_one (Par u a) (Only v) k l e = let (left, rest) = unit_one u v _ _ e in cc

names_one : (ns ms : NamesPhrase) (k l : List Event) → names_events ns k ≡ names_events ms l → (ns ≡ ms) × (k ≡ l)
names_one (LastName x) (LastName y) k l e = (cc, (tail (tail e)))
names_one (MoreName x ns) (MoreName y ms) k l e = let (more, end) = names_one ns ms _ _ (tail (tail e)) in (cc, end)
names_one (LastName x) (MoreName y ms) k l e = cc
names_one (MoreName x ns) (LastName y) k l e = cc

items_one : (is js : ItemsPhrase) (k l : List Event) → items_events is k ≡ items_events js l → (is ≡ js) × (k ≡ l)
items_one (LastItem x a b) (LastItem y c d) k l e = (cc, (tail (tail (tail (tail (tail (tail e)))))))
items_one (MoreItem x a b is) (MoreItem y c d js) k l e = let (more, end) = items_one is js _ _ (tail (tail (tail (tail (tail (tail e)))))) in (cc, end)
items_one (LastItem x a b) (MoreItem y c d js) k l e = cc
items_one (MoreItem x a b is) (LastItem y c d) k l e = cc

program_one : (p q : ProgramPhrase) → program_events p ≡ program_events q → p ≡ q
program_one (Runs a) (Runs b) e = let (agent, end) = agent_one a b [] [] (tail e) in ap Runs agent
program_one (Signals ns p) (Signals ms q) e = let (names, rest) = names_one ns ms _ _ (tail e) in let more = program_one p q rest in cc
program_one (Ints is p) (Ints js q) e = let (items, rest) = items_one is js _ _ (tail e) in let more = program_one p q rest in cc
program_one p q e = cc

-- Programs with the same terms have the same events.
same_events : (p q : ProgramPhrase) → program p [] ≡ program q [] → program_events p ≡ program_events q
same_events p q e =
    sym (events_at-program p)
    ∙ ap (λ ts. map (event_at ts) (numbered 0 (program_events p))) e
    ∙ ap (map (event_at (program q []))) (sym (program_steps p) ∙ ap (λ ts. trace start 0 (classes ts)) e ∙ program_steps q)
    ∙ events_at-program q

-- A list of terms is at most one program.
pub one_program : (p q : ProgramPhrase) → program p [] ≡ program q [] → p ≡ q
one_program p q e = program_one p q (same_events p q e)
