-- What the pass over a program's events finds is the first fault of its names.
use Rattle.std.proofs.Common.{◌≡◌, ℕ, ℤ, ◌+◌, List, [], ◌∷◌, Option, None, refl, ap, sym, ◌∙◌, arith}
use Rattle.program_grammar.specs.Terms.{Name, Number, Then, Else, Do, Watching, On, Ampersand, Bars, CloseBrace, Bang, Hash, GreaterEqual, LessEqual, Equal}
use Rattle.program_grammar.specs.Phrases.{TokenPhrase, AtLeast, AtMost, Exactly, ConstraintPhrase, One, Both, UnitPhrase, Tell, Braces, IfThen, IfElse, LocalSignal, LocalInt, AgentPhrase, Only, Par, NamesPhrase, LastName, MoreName, ItemsPhrase, LastItem, MoreItem, ProgramPhrase, Runs, Signals, Ints}
use Rattle.program_grammar.specs.Phrases as phrase
use Rattle.program_grammar.specs.declared.stack_symbols.StackSymbol.{StackSymbol}
use Rattle.program_grammar.specs.declared.stack_symbols.StackSymbol.TheVariants.{OneUnit, MoreUnits, OneToken, MoreTokens, Bound, Branch, DeniedName, ClashingName, LeastNumber, MostNumber, ExactNumber, TheClose, EndTell, EndBody, EndLocal, TheDo, TheWatching, TheOn, EndWatch, EndTimed}
use Rattle.program_grammar.specs.Events.{Event, Matches, Skips, token_events, constraint_events, unit_events, agent_events, names_events, items_events, program_events}
use Rattle.token_system.specs.declared.cell.Kind.{Kind}
use Rattle.token_system.specs.declared.cell.Kind.TheVariants as kind
use Rattle.tdcc_reader.specs.declared.naming.NameFault.{NameFault}
use Rattle.tdcc_reader.specs.declared.naming.Waiting.TheVariants as waiting
use Rattle.tdcc_reader.specs.Widths.{token_width, constraint_width, unit_width, agent_width, names_width, items_width}
use Rattle.tdcc_reader.specs.LimitFaults.{first}
use Rattle.tdcc_reader.specs.Scope.{Known, known, kind_in_scope, any_use, signal_fault, number_fault, token_fault, constraint_fault, unit_fault, agent_fault, declared_fault, item_fault, domain_fault, names_fault, names_known, items_fault, items_known, fault_from, program_fault}
use Rattle.tdcc_reader.specs.Passes.{over_events}
use Rattle.tdcc_reader.specs.NamingPass as pass
use Rattle.tdcc_reader.proofs.Firsts.{first_assoc, first_none}

abbrev over : ℕ → List Event → List Known → Option NameFault → pass.NamingState
over at es s f = over_events pass.naming_pass at es (pass.naming_state s waiting.Nothing f)

same : (rest : List Event) (s : List Known) {at at' : ℕ} {f f' : Option NameFault} → at ≡ at' → f ≡ f' → over at rest s f ≡ over at' rest s f'
same rest s {at} {at'} {f} {f'} ea ef = ap (λ x. over x rest s f) ea ∙ ap (λ x. over at' rest s x) ef

-- a part that matches the first term of a token
abbrev Begins : StackSymbol → Type 0
Begins p = (x : List ℕ) (rest : List Event) (at : ℕ) (s : List Known) (f : Option NameFault)
    → (over at (Matches p (Name x) ∷ rest) s f ≡ over_events pass.naming_pass (at + 1) rest (pass.naming_state s (waiting.Name (kind_in_scope s x) at) (first f (any_use s x at))))
    × (over at (Matches p Bang ∷ rest) s f ≡ over (at + 1) rest s f)
    × (over at (Matches p Hash ∷ rest) s f ≡ over (at + 1) rest s f)

unit_begins : Begins OneUnit
unit_begins x rest at s f = (refl, refl, refl)

token_begins : Begins OneToken
token_begins x rest at s f = (refl, refl, refl)

-- a name with a bound
bounded : (p : StackSymbol) → Begins p → (x : List ℕ) (rest more : List Event) (sign : Event) → ((at : ℕ) (s : List Known) (k : Option Kind) (f : Option NameFault) → over_events pass.naming_pass (at + 1) (sign ∷ more) (pass.naming_state s (waiting.Name k at) f) ≡ over (at + 1 + 1 + 1) rest s (first f (number_fault k at)))
    → (at : ℕ) (s : List Known) (f : Option NameFault) → over at (Matches p (Name x) ∷ sign ∷ more) s f ≡ over (at + 3) rest s (first f (first (any_use s x at) (number_fault (kind_in_scope s x) at)))
bounded p b x rest more sign on at s f =
    (b x (sign ∷ more) at s f).0
    ∙ on at s (kind_in_scope s x) (first f (any_use s x at))
    ∙ same rest s (omega arith) (first_assoc f (any_use s x at) (number_fault (kind_in_scope s x) at))

token_scoped : (p : StackSymbol) → Begins p → (t : TokenPhrase) (rest : List Event) (at : ℕ) (s : List Known) (f : Option NameFault) → over at (token_events p t rest) s f ≡ over (at + token_width t) rest s (first f (token_fault t s at))
token_scoped p b (phrase.On x) rest at s f = (b x (Skips Bound ∷ rest) at s f).0 ∙ same rest s refl (first_assoc f (any_use s x at) (signal_fault (kind_in_scope s x) at))
token_scoped p b (phrase.Off x) rest at s f = (b x (Matches DeniedName (Name x) ∷ rest) at s f).1 ∙ same rest s (omega arith) refl
token_scoped p b (phrase.Clash x) rest at s f = (b x (Matches ClashingName (Name x) ∷ rest) at s f).2 ∙ same rest s (omega arith) refl
token_scoped p b (AtLeast x k) rest at s f = bounded p b x rest (Matches LeastNumber (Number k) ∷ rest) (Matches Bound GreaterEqual) (λ at s k f. refl) at s f
token_scoped p b (AtMost x k) rest at s f = bounded p b x rest (Matches MostNumber (Number k) ∷ rest) (Matches Bound LessEqual) (λ at s k f. refl) at s f
token_scoped p b (Exactly x k) rest at s f = bounded p b x rest (Matches ExactNumber (Number k) ∷ rest) (Matches Bound Equal) (λ at s k f. refl) at s f

constraint_scoped : (c : ConstraintPhrase) (p : StackSymbol) → Begins p → (rest : List Event) (at : ℕ) (s : List Known) (f : Option NameFault) → over at (constraint_events p c rest) s f ≡ over (at + constraint_width c) rest s (first f (constraint_fault c s at))
constraint_scoped (One t) p b rest at s f = token_scoped p b t (Skips MoreTokens ∷ rest) at s f
constraint_scoped (Both t c) p b rest at s f =
    token_scoped p b t (Matches MoreTokens Ampersand ∷ constraint_events OneToken c rest) at s f
    ∙ constraint_scoped c OneToken token_begins rest (at + token_width t + 1) s (first f (token_fault t s at))
    ∙ same rest s (omega arith) (first_assoc f (token_fault t s at) (constraint_fault c s (at + token_width t + 1)))

abbrev UnitScoped : UnitPhrase → Type 0
UnitScoped u = (rest : List Event) (at : ℕ) (s : List Known) (f : Option NameFault) → over at (unit_events u rest) s f ≡ over (at + unit_width u) rest s (first f (unit_fault u s at))

abbrev AgentScoped : AgentPhrase → Type 0
AgentScoped a = (rest : List Event) (at : ℕ) (s : List Known) (f : Option NameFault) → over at (agent_events a rest) s f ≡ over (at + agent_width a) rest s (first f (agent_fault a s at))

-- an ask and a body behind one term
asked_scoped : (c : ConstraintPhrase) (u : UnitPhrase) → UnitScoped u → (mid : Event) → ((rest : List Event) (at : ℕ) (s : List Known) (f : Option NameFault) → over at (mid ∷ rest) s f ≡ over (at + 1) rest s f)
    → (rest : List Event) (at : ℕ) (s : List Known) (f : Option NameFault)
    → over (at + 1) (constraint_events OneToken c (mid ∷ unit_events u (Skips EndBody ∷ rest))) s f
    ≡ over (at + (1 + constraint_width c + 1 + unit_width u)) rest s (first f (first (constraint_fault c s (at + 1)) (unit_fault u s (at + 1 + constraint_width c + 1))))
asked_scoped c u ih mid on rest at s f =
    constraint_scoped c OneToken token_begins (mid ∷ unit_events u (Skips EndBody ∷ rest)) (at + 1) s f
    ∙ on (unit_events u (Skips EndBody ∷ rest)) (at + 1 + constraint_width c) s (first f (constraint_fault c s (at + 1)))
    ∙ ih (Skips EndBody ∷ rest) (at + 1 + constraint_width c + 1) s (first f (constraint_fault c s (at + 1)))
    ∙ same rest s (omega arith) (first_assoc f (constraint_fault c s (at + 1)) (unit_fault u s (at + 1 + constraint_width c + 1)))

-- an agent and a constraint behind one term
ended_scoped : (a : AgentPhrase) (c : ConstraintPhrase) → AgentScoped a → (mid end : Event)
    → ((rest : List Event) (at : ℕ) (s : List Known) (f : Option NameFault) → over at (mid ∷ rest) s f ≡ over (at + 1) rest s f)
    → ((rest : List Event) (at : ℕ) (s : List Known) (f : Option NameFault) → over at (end ∷ rest) s f ≡ over at rest s f)
    → (rest : List Event) (at : ℕ) (s : List Known) (f : Option NameFault)
    → over (at + 1) (agent_events a (mid ∷ constraint_events OneToken c (end ∷ rest))) s f
    ≡ over (at + (1 + agent_width a + 1 + constraint_width c)) rest s (first f (first (agent_fault a s (at + 1)) (constraint_fault c s (at + 1 + agent_width a + 1))))
ended_scoped a c ih mid end on off rest at s f =
    ih (mid ∷ constraint_events OneToken c (end ∷ rest)) (at + 1) s f
    ∙ on (constraint_events OneToken c (end ∷ rest)) (at + 1 + agent_width a) s (first f (agent_fault a s (at + 1)))
    ∙ constraint_scoped c OneToken token_begins (end ∷ rest) (at + 1 + agent_width a + 1) s (first f (agent_fault a s (at + 1)))
    ∙ off rest (at + 1 + agent_width a + 1 + constraint_width c) s (first (first f (agent_fault a s (at + 1))) (constraint_fault c s (at + 1 + agent_width a + 1)))
    ∙ same rest s (omega arith) (first_assoc f (agent_fault a s (at + 1)) (constraint_fault c s (at + 1 + agent_width a + 1)))

-- the body of new, behind what was found before
local_scoped : (k : Known) (u : UnitPhrase) → UnitScoped u → (rest : List Event) (at at' to : ℕ) (s : List Known) (g g' f : Option NameFault) → at ≡ at' → at' + unit_width u ≡ to → g ≡ first f g'
    → over at (unit_events u (Skips EndLocal ∷ rest)) (k ∷ s) g ≡ over to rest s (first f (first g' (unit_fault u (k ∷ s) at')))
local_scoped k u ih rest at at' to s g g' f ea et eg =
    ap (λ x. over x (unit_events u (Skips EndLocal ∷ rest)) (k ∷ s) g) ea
    ∙ ih (Skips EndLocal ∷ rest) at' (k ∷ s) g
    ∙ same rest s et (ap (λ x. first x (unit_fault u (k ∷ s) at')) eg ∙ first_assoc f g' (unit_fault u (k ∷ s) at'))

-- a declared name and its domain
item_first : (x : List ℕ) (l h : ℤ) (s : List Known) (at at' at'' : ℕ) (f : Option NameFault) → at ≡ at' → at'' ≡ at' + 2 → first (first f (declared_fault x s at)) (domain_fault l h at'') ≡ first f (item_fault x l h s at')
item_first x l h s at at' at'' f e e' = ap (λ n. first (first f (declared_fault x s n)) (domain_fault l h at'')) e ∙ ap (λ n. first (first f (declared_fault x s at')) (domain_fault l h n)) e' ∙ first_assoc f (declared_fault x s at') (domain_fault l h (at' + 2))

mutual
  unit_scoped : (u : UnitPhrase) → UnitScoped u
  unit_scoped phrase.Skip rest at s f = same rest s refl (sym (first_none f))
  unit_scoped (Tell c) rest at s f = constraint_scoped c OneUnit unit_begins (Skips EndTell ∷ rest) at s f
  unit_scoped (Braces a) rest at s f = agent_scoped a (Matches TheClose CloseBrace ∷ rest) (at + 1) s f ∙ same rest s (omega arith) refl
  unit_scoped (IfThen c u) rest at s f = asked_scoped c u (unit_scoped u) (Matches Branch Then) (λ rest at s f. refl) rest at s f
  unit_scoped (IfElse c u) rest at s f = asked_scoped c u (unit_scoped u) (Matches Branch Else) (λ rest at s f. refl) rest at s f
  unit_scoped (LocalSignal x u) rest at s f =
      local_scoped (known x kind.Signal) u (unit_scoped u) rest (at + 1 + 1 + 1 + 1) (at + 4) (at + unit_width (LocalSignal x u)) s (first f (declared_fault x s (at + 1 + 1))) (declared_fault x s (at + 2)) f (omega arith) (omega arith)
      (let e : at + 1 + 1 ≡ at + 2 = omega arith in ap (λ n. first f (declared_fault x s n)) e)
  unit_scoped (LocalInt x l h u) rest at s f =
      local_scoped (known x kind.Number) u (unit_scoped u) rest (at + 1 + 1 + 1 + 1 + 1 + 1 + 1 + 1) (at + 8) (at + unit_width (LocalInt x l h u)) s (first (first f (declared_fault x s (at + 1 + 1))) (domain_fault l h (at + 1 + 1 + 1 + 1))) (item_fault x l h s (at + 2)) f (omega arith) (omega arith)
      (item_first x l h s (at + 1 + 1) (at + 2) (at + 1 + 1 + 1 + 1) f (omega arith) (omega arith))
  unit_scoped (phrase.Hence u) rest at s f = unit_scoped u (Skips EndBody ∷ rest) (at + 1) s f ∙ same rest s (omega arith) refl
  unit_scoped (phrase.Next u) rest at s f = unit_scoped u (Skips EndBody ∷ rest) (at + 1) s f ∙ same rest s (omega arith) refl
  unit_scoped (phrase.Always u) rest at s f = unit_scoped u (Skips EndBody ∷ rest) (at + 1) s f ∙ same rest s (omega arith) refl
  unit_scoped (phrase.When c u) rest at s f = asked_scoped c u (unit_scoped u) (Matches TheDo Do) (λ rest at s f. refl) rest at s f
  unit_scoped (phrase.Watching a c) rest at s f = ended_scoped a c (agent_scoped a) (Matches TheWatching Watching) (Skips EndWatch) (λ rest at s f. refl) (λ rest at s f. refl) rest at s f
  unit_scoped (phrase.TimeOn a c) rest at s f = ended_scoped a c (agent_scoped a) (Matches TheOn On) (Skips EndTimed) (λ rest at s f. refl) (λ rest at s f. refl) rest at s f

  agent_scoped : (a : AgentPhrase) → AgentScoped a
  agent_scoped (Only u) rest at s f = unit_scoped u (Skips MoreUnits ∷ rest) at s f
  agent_scoped (Par u a) rest at s f =
      unit_scoped u (Matches MoreUnits Bars ∷ agent_events a rest) at s f
      ∙ agent_scoped a rest (at + unit_width u + 1) s (first f (unit_fault u s at))
      ∙ same rest s (omega arith) (first_assoc f (unit_fault u s at) (agent_fault a s (at + unit_width u + 1)))

names_scoped : (ns : NamesPhrase) (rest : List Event) (at : ℕ) (s : List Known) (f : Option NameFault) → over at (names_events ns rest) s f ≡ over (at + names_width ns) rest (names_known ns s) (first f (names_fault ns s at))
names_scoped (LastName x) rest at s f = same rest (known x kind.Signal ∷ s) (omega arith) refl
names_scoped (MoreName x ns) rest at s f =
    (let e : at + 1 + 1 ≡ at + 2 = omega arith in ap (λ n. over n (names_events ns rest) (known x kind.Signal ∷ s) (first f (declared_fault x s at))) e)
    ∙ names_scoped ns rest (at + 2) (known x kind.Signal ∷ s) (first f (declared_fault x s at))
    ∙ same rest (names_known ns (known x kind.Signal ∷ s)) (omega arith) (first_assoc f (declared_fault x s at) (names_fault ns (known x kind.Signal ∷ s) (at + 2)))

items_scoped : (is : ItemsPhrase) (rest : List Event) (at : ℕ) (s : List Known) (f : Option NameFault) → over at (items_events is rest) s f ≡ over (at + items_width is) rest (items_known is s) (first f (items_fault is s at))
items_scoped (LastItem x l h) rest at s f = same rest (known x kind.Number ∷ s) (omega arith) (item_first x l h s at at (at + 1 + 1) f refl (omega arith))
items_scoped (MoreItem x l h is) rest at s f =
    (let e : at + 1 + 1 + 1 + 1 + 1 + 1 ≡ at + 6 = omega arith in ap (λ n. over n (items_events is rest) (known x kind.Number ∷ s) (first (first f (declared_fault x s at)) (domain_fault l h (at + 1 + 1)))) e)
    ∙ items_scoped is rest (at + 6) (known x kind.Number ∷ s) (first (first f (declared_fault x s at)) (domain_fault l h (at + 1 + 1)))
    ∙ same rest (items_known is (known x kind.Number ∷ s)) (omega arith)
    (ap (λ q. first q (items_fault is (known x kind.Number ∷ s) (at + 6))) (item_first x l h s at at (at + 1 + 1) f refl (omega arith)) ∙ first_assoc f (item_fault x l h s at) (items_fault is (known x kind.Number ∷ s) (at + 6)))

scoped_from : (p : ProgramPhrase) (at : ℕ) (s : List Known) (f : Option NameFault) → (over at (program_events p) s f).found ≡ first f (fault_from p s at)
scoped_from (Runs a) at s f = ap (λ q. q.found) (agent_scoped a [] at s f)
scoped_from (Signals ns p) at s f =
    ap (λ q. q.found) (names_scoped ns (program_events p) (at + 1) s f)
    ∙ scoped_from p (at + 1 + names_width ns) (names_known ns s) (first f (names_fault ns s (at + 1)))
    ∙ first_assoc f (names_fault ns s (at + 1)) (fault_from p (names_known ns s) (at + 1 + names_width ns))
scoped_from (Ints is p) at s f =
    ap (λ q. q.found) (items_scoped is (program_events p) (at + 1) s f)
    ∙ scoped_from p (at + 1 + items_width is) (items_known is s) (first f (items_fault is s (at + 1)))
    ∙ first_assoc f (items_fault is s (at + 1)) (fault_from p (items_known is s) (at + 1 + items_width is))

-- The pass over a program finds the first fault of its names.
pub program_scoped : (p : ProgramPhrase) → (over_events pass.naming_pass 0 (program_events p) (pass.naming_state [] waiting.Nothing None)).found ≡ program_fault p
program_scoped p = scoped_from p 0 [] None
