-- What the pass over a program's events builds is the program's tree and cells.
use Rattle.std.proofs.Common.{◌≡◌, ℕ, ◌+◌, ◌-◌, ◌≤◌, min, List, [], ◌∷◌, ◌++◌, length, refl, ap, sym, ◌∙◌, arith, append_assoc, length-append, subst}
use Rattle.std.specs.Prelude.{insert}
use Rattle.std.proofs.lemmas.List.{append-nil}
use Rattle.std.proofs.lemmas.List.Edits.{insert-append_right}
use Rattle.program_grammar.specs.Terms.{Name, Number, Then, Else, Do, Watching, On, Ampersand, Bars, CloseBrace, Bang, Hash, GreaterEqual, LessEqual, Equal}
use Rattle.program_grammar.specs.Phrases.{TokenPhrase, AtLeast, AtMost, Exactly, ConstraintPhrase, One, Both, UnitPhrase, Tell, Braces, IfThen, IfElse, LocalSignal, LocalInt, AgentPhrase, Only, Par, NamesPhrase, LastName, MoreName, ItemsPhrase, LastItem, MoreItem, ProgramPhrase, Runs, Signals, Ints}
use Rattle.program_grammar.specs.Phrases as phrase
use Rattle.program_grammar.specs.declared.stack_symbols.StackSymbol.{StackSymbol}
use Rattle.program_grammar.specs.declared.stack_symbols.StackSymbol.TheVariants.{OneUnit, MoreUnits, OneToken, MoreTokens, Bound, Branch, DeniedName, ClashingName, LeastNumber, MostNumber, ExactNumber, TheClose, EndTell, EndBody, EndLocal, TheDo, TheWatching, TheOn, EndWatch, EndTimed}
use Rattle.program_grammar.specs.Events.{Event, Matches, Skips, token_events, constraint_events, unit_events, agent_events, names_events, items_events, program_events}
use Rattle.tdcc_reader.specs.declared.flat_form.FlatFormKind.{FlatFormKind}
use Rattle.tdcc_reader.specs.declared.flat_form.FlatFormKind.TheVariants as kind
use Rattle.agent_core.specs.Agents.{Constraint}
use Rattle.tdcc_reader.specs.Surfaces.{Placed, placed, cell_in_scope, Declared, declared_signal, declared_number, token_tokens, constraint_of, unit_cells, agent_cells, unit_tree, agent_tree, names_cells, names_scope, items_cells, items_scope, tree_from, declared_cells, program_cells}
use Rattle.tdcc_reader.specs.FlatForms.{Entry, entry, flat_forms}
use Rattle.tdcc_reader.specs.Passes.{over_events}
use Rattle.tdcc_reader.specs.BuildPass as pass
use Rattle.tdcc_reader.specs.Builds.{IsBuilt}

-- the pass looks at no place
abbrev acts : List Event → pass.Built → pass.Built
acts [] b = b
acts (Matches p t ∷ es) b = acts es (pass.builds_matched p t b)
acts (Skips p ∷ es) b = acts es (pass.builds_skipped p b)

over_acts : (es : List Event) (at : ℕ) (b : pass.Built) → over_events pass.build_pass at es b ≡ acts es b
over_acts [] at b = refl
over_acts (Matches p t ∷ es) at b = over_acts es (at + 1) (pass.builds_matched p t b)
over_acts (Skips p ∷ es) at b = over_acts es at (pass.builds_skipped p b)

-- between phrases nothing waits
abbrev B : List Entry → Constraint → List ℕ → List Placed → List Declared → ℕ → pass.Built
B f a s n c d = pass.built f a s n c pass.Nothing d

-- a part that matches the first term of a token
abbrev Begins : StackSymbol → Type 0
Begins p = (x : List ℕ) (rest : List Event) (f : List Entry) (a : Constraint) (s : List ℕ) (n : List Placed) (c : List Declared) (d : ℕ)
    → (acts (Matches p (Name x) ∷ rest) (B f a s n c d) ≡ acts rest (pass.built f a s n c (pass.Subject (cell_in_scope n x)) d))
    × (acts (Matches p Bang ∷ rest) (B f a s n c d) ≡ acts rest (B f a s n c d))
    × (acts (Matches p Hash ∷ rest) (B f a s n c d) ≡ acts rest (B f a s n c d))

unit_begins : Begins OneUnit
unit_begins x rest f a s n c d = (refl, refl, refl)

token_begins : Begins OneToken
token_begins x rest f a s n c d = (refl, refl, refl)

token_built : (p : StackSymbol) → Begins p → (t : TokenPhrase) (rest : List Event) (f : List Entry) (a : Constraint) (s : List ℕ) (n : List Placed) (c : List Declared) (d : ℕ)
    → acts (token_events p t rest) (B f a s n c d) ≡ acts rest (B f (a ++ token_tokens n t) s n c d)
token_built p b (phrase.On x) rest f a s n c d = (b x (Skips Bound ∷ rest) f a s n c d).0
token_built p b (phrase.Off x) rest f a s n c d = (b x (Matches DeniedName (Name x) ∷ rest) f a s n c d).1
token_built p b (phrase.Clash x) rest f a s n c d = (b x (Matches ClashingName (Name x) ∷ rest) f a s n c d).2
token_built p b (AtLeast x k) rest f a s n c d = (b x (Matches Bound GreaterEqual ∷ Matches LeastNumber (Number k) ∷ rest) f a s n c d).0
token_built p b (AtMost x k) rest f a s n c d = (b x (Matches Bound LessEqual ∷ Matches MostNumber (Number k) ∷ rest) f a s n c d).0
token_built p b (Exactly x k) rest f a s n c d = (b x (Matches Bound Equal ∷ Matches ExactNumber (Number k) ∷ rest) f a s n c d).0

constraint_built : (q : ConstraintPhrase) (p : StackSymbol) → Begins p → (rest : List Event) (f : List Entry) (a : Constraint) (s : List ℕ) (n : List Placed) (c : List Declared) (d : ℕ)
    → acts (constraint_events p q rest) (B f a s n c d) ≡ acts rest (B f (a ++ constraint_of n q) s n c d)
constraint_built (One t) p b rest f a s n c d = token_built p b t (Skips MoreTokens ∷ rest) f a s n c d
constraint_built (Both t q) p b rest f a s n c d =
    token_built p b t (Matches MoreTokens Ampersand ∷ constraint_events OneToken q rest) f a s n c d
    ∙ constraint_built q OneToken token_begins rest f (a ++ token_tokens n t) s n c d
    ∙ ap (λ l. acts rest (B f l s n c d)) (append_assoc a (token_tokens n t) (constraint_of n q))

abbrev UnitBuilt : UnitPhrase → Type 0
UnitBuilt u = (rest : List Event) (f : List Entry) (s : List ℕ) (n : List Placed) (c : List Declared) (d : ℕ) → length c + length (unit_cells u) ≤ 4294967295
    → acts (unit_events u rest) (B f [] s n c d) ≡ acts rest (B (f ++ flat_forms (unit_tree u n (length c))) [] s n (c ++ unit_cells u) d)

abbrev AgentBuilt : AgentPhrase → Type 0
AgentBuilt g = (rest : List Event) (f : List Entry) (s : List ℕ) (n : List Placed) (c : List Declared) (d : ℕ) → length c + length (agent_cells g) ≤ 4294967295
    → acts (agent_events g rest) (B f [] (length f ∷ s) n c d) ≡ acts rest (B (f ++ flat_forms (agent_tree g n (length c))) [] s n (c ++ agent_cells g) d)

-- a form in front of its body
under : (u : UnitPhrase) (e : Entry) (rest : List Event) (f : List Entry) (s : List ℕ) (n : List Placed) (c : List Declared) (d : ℕ) → UnitBuilt u → length c + length (unit_cells u) ≤ 4294967295
    → acts (unit_events u (Skips EndBody ∷ rest)) (B (f ++ e ∷ []) [] s n c d) ≡ acts rest (B (f ++ e ∷ flat_forms (unit_tree u n (length c))) [] s n (c ++ unit_cells u) d)
under u e rest f s n c d ih h = ih (Skips EndBody ∷ rest) (f ++ e ∷ []) s n c d h ∙ ap (λ l. acts rest (B l [] s n (c ++ unit_cells u) d)) (append_assoc f (e ∷ []) (flat_forms (unit_tree u n (length c))))

-- an ask and then a body
asked : (q : ConstraintPhrase) (u : UnitPhrase) (k : FlatFormKind) (mid : Event) → ((rest : List Event) (f : List Entry) (a : Constraint) (s : List ℕ) (n : List Placed) (c : List Declared) (d : ℕ) → acts (mid ∷ rest) (B f a s n c d) ≡ acts rest (B (f ++ entry k a ∷ []) [] s n c d))
    → (rest : List Event) (f : List Entry) (s : List ℕ) (n : List Placed) (c : List Declared) (d : ℕ) → UnitBuilt u → length c + length (unit_cells u) ≤ 4294967295
    → acts (constraint_events OneToken q (mid ∷ unit_events u (Skips EndBody ∷ rest))) (B f [] s n c d) ≡ acts rest (B (f ++ entry k (constraint_of n q) ∷ flat_forms (unit_tree u n (length c))) [] s n (c ++ unit_cells u) d)
asked q u k mid on rest f s n c d ih h =
    constraint_built q OneToken token_begins (mid ∷ unit_events u (Skips EndBody ∷ rest)) f [] s n c d
    ∙ on (unit_events u (Skips EndBody ∷ rest)) f (constraint_of n q) s n c d
    ∙ under u (entry k (constraint_of n q)) rest f s n c d ih h

length_more : (c : List Declared) (v : Declared) → length (c ++ v ∷ []) ≡ length c + 1
length_more c v = length-append c (v ∷ [])

next_is : (c : List Declared) (v : Declared) (more : List Declared) → length c + length (v ∷ more) ≤ 4294967295 → pass.next_cell c ≡ length c
next_is c v more h = let e : length (v ∷ more) ≡ length more + 1 = omega arith in omega (arith, e)

rest_fits : (c : List Declared) (v : Declared) (more : List Declared) → length c + length (v ∷ more) ≤ 4294967295 → length (c ++ v ∷ []) + length more ≤ 4294967295
rest_fits c v more h = let e : length (v ∷ more) ≡ length more + 1 = omega arith in omega (arith, e, length_more c v)

-- a new local cell in front of its body
local_built : (x : List ℕ) (v : Declared) (u : UnitPhrase) (rest : List Event) (f : List Entry) (s : List ℕ) (n : List Placed) (c : List Declared) (d : ℕ) → UnitBuilt u → length c + length (v ∷ unit_cells u) ≤ 4294967295
    → acts (unit_events u (Skips EndLocal ∷ rest)) (B (f ++ entry (kind.New (pass.next_cell c)) [] ∷ []) [] s (placed x (pass.next_cell c) ∷ n) (c ++ v ∷ []) d)
    ≡ acts rest (B (f ++ entry (kind.New (length c)) [] ∷ flat_forms (unit_tree u (placed x (length c) ∷ n) (length c + 1))) [] s n (c ++ v ∷ unit_cells u) d)
local_built x v u rest f s n c d ih h =
    ap (λ k. acts (unit_events u (Skips EndLocal ∷ rest)) (B (f ++ entry (kind.New k) [] ∷ []) [] s (placed x k ∷ n) (c ++ v ∷ []) d)) (next_is c v (unit_cells u) h)
    ∙ ih (Skips EndLocal ∷ rest) (f ++ entry (kind.New (length c)) [] ∷ []) s (placed x (length c) ∷ n) (c ++ v ∷ []) d (rest_fits c v (unit_cells u) h)
    ∙ ap (λ l. acts rest (B l [] s n ((c ++ v ∷ []) ++ unit_cells u) d)) (append_assoc f (entry (kind.New (length c)) [] ∷ []) (flat_forms (unit_tree u (placed x (length c) ∷ n) (length (c ++ v ∷ []))))
    ∙ ap (λ k. f ++ entry (kind.New (length c)) [] ∷ flat_forms (unit_tree u (placed x (length c) ∷ n) k)) (length_more c v))
    ∙ ap (λ l. acts rest (B (f ++ entry (kind.New (length c)) [] ∷ flat_forms (unit_tree u (placed x (length c) ∷ n) (length c + 1))) [] s n l d)) (append_assoc c (v ∷ []) (unit_cells u))

-- where a unit turns out to be the left part, or the body
left_place : (f g : List Entry) → min (length f) (length (f ++ g)) ≡ length f
left_place f g = omega (arith, length-append f g)

left_skip : (f g : List Entry) → (length (f ++ g) + 1) - min (length f) (length (f ++ g)) ≡ 1 + length g
left_skip f g = omega (arith, length-append f g)

sub_self : (n : ℕ) → n - n ≡ 0
sub_self n = omega arith

insert_seam : (f g : List Entry) (e : Entry) → insert (f ++ g) (length f) e ≡ f ++ e ∷ g
insert_seam f g e = insert-append_right f g (length f) (length f) e refl (omega arith) ∙ ap (λ k. f ++ insert g k e) (sub_self (length f))

length_cons : (e : Entry) (g : List Entry) → length (e ∷ g) ≡ length g + 1
length_cons e g = omega arith

length_seam : (f g : List Entry) (e : Entry) → length (f ++ g) + 1 ≡ length (f ++ e ∷ g)
length_seam f g e = omega (arith, length-append f g, length-append f (e ∷ g), length_cons e g)

left_built : (f g : List Entry) (rest : List Event) (s : List ℕ) (n : List Placed) (c : List Declared) (d : ℕ)
    → acts (Matches MoreUnits Bars ∷ rest) (B (f ++ g) [] (length f ∷ s) n c d)
    ≡ acts rest (B (f ++ entry (kind.Par (1 + length g)) [] ∷ g) [] (length (f ++ entry (kind.Par (1 + length g)) [] ∷ g) ∷ s) n c d)
left_built f g rest s n c d =
    ap (λ k. acts rest (B (insert (f ++ g) k (entry (kind.Par ((length (f ++ g) + 1) - k)) [])) [] ((length (f ++ g) + 1) ∷ s) n c d)) (left_place f g)
    ∙ ap (λ k. acts rest (B (insert (f ++ g) (length f) (entry (kind.Par k) [])) [] ((length (f ++ g) + 1) ∷ s) n c d)) (ap (λ k. (length (f ++ g) + 1) - k) (sym (left_place f g)) ∙ left_skip f g)
    ∙ ap (λ l. acts rest (B l [] ((length (f ++ g) + 1) ∷ s) n c d)) (insert_seam f g (entry (kind.Par (1 + length g)) []))
    ∙ ap (λ k. acts rest (B (f ++ entry (kind.Par (1 + length g)) [] ∷ g) [] (k ∷ s) n c d)) (length_seam f g (entry (kind.Par (1 + length g)) []))

-- the right part behind the left one
right_built : (f h : List Entry) (e : Entry) (g : AgentPhrase) (rest : List Event) (s : List ℕ) (n : List Placed) (c v : List Declared) (d : ℕ)
    → acts rest (B ((f ++ e ∷ h) ++ flat_forms (agent_tree g n (length (c ++ v)))) [] s n ((c ++ v) ++ agent_cells g) d)
    ≡ acts rest (B (f ++ (e ∷ h ++ flat_forms (agent_tree g n (length c + length v)))) [] s n (c ++ (v ++ agent_cells g)) d)
right_built f h e g rest s n c v d =
    ap (λ l. acts rest (B l [] s n ((c ++ v) ++ agent_cells g) d)) (append_assoc f (e ∷ h) (flat_forms (agent_tree g n (length (c ++ v)))) ∙ ap (λ k. f ++ (e ∷ h ++ flat_forms (agent_tree g n k))) (length-append c v))
    ∙ ap (λ l. acts rest (B (f ++ (e ∷ h ++ flat_forms (agent_tree g n (length c + length v)))) [] s n l d)) (append_assoc c v (agent_cells g))

-- a body in front of its constraint
ended : (a : AgentPhrase) (q : ConstraintPhrase) (k : FlatFormKind) (mid end : Event)
    → ((rest : List Event) (b : pass.Built) → acts (mid ∷ rest) b ≡ acts rest b)
    → ((rest : List Event) (b : pass.Built) → acts (end ∷ rest) b ≡ acts rest (pass.wraps k b))
    → (rest : List Event) (f : List Entry) (s : List ℕ) (n : List Placed) (c : List Declared) (d : ℕ) → AgentBuilt a → length c + length (agent_cells a) ≤ 4294967295
    → acts (agent_events a (mid ∷ constraint_events OneToken q (end ∷ rest))) (B f [] (length f ∷ length f ∷ s) n c d)
    ≡ acts rest (B (f ++ entry k (constraint_of n q) ∷ flat_forms (agent_tree a n (length c))) [] s n (c ++ agent_cells a) d)
ended a q k mid end on off rest f s n c d ih h =
    ih (mid ∷ constraint_events OneToken q (end ∷ rest)) f (length f ∷ s) n c d h
    ∙ on (constraint_events OneToken q (end ∷ rest)) (B (f ++ flat_forms (agent_tree a n (length c))) [] (length f ∷ s) n (c ++ agent_cells a) d)
    ∙ constraint_built q OneToken token_begins (end ∷ rest) (f ++ flat_forms (agent_tree a n (length c))) [] (length f ∷ s) n (c ++ agent_cells a) d
    ∙ off rest (B (f ++ flat_forms (agent_tree a n (length c))) (constraint_of n q) (length f ∷ s) n (c ++ agent_cells a) d)
    ∙ ap (λ i. acts rest (B (insert (f ++ flat_forms (agent_tree a n (length c))) i (entry k (constraint_of n q))) [] s n (c ++ agent_cells a) d)) (left_place f (flat_forms (agent_tree a n (length c))))
    ∙ ap (λ l. acts rest (B l [] s n (c ++ agent_cells a) d)) (insert_seam f (flat_forms (agent_tree a n (length c))) (entry k (constraint_of n q)))

left_fits : (c v w : List Declared) → length c + length (v ++ w) ≤ 4294967295 → length c + length v ≤ 4294967295
left_fits c v w h = omega (arith, length-append v w)

right_fits : (c v w : List Declared) → length c + length (v ++ w) ≤ 4294967295 → length (c ++ v) + length w ≤ 4294967295
right_fits c v w h = omega (arith, length-append v w, length-append c v)

mutual
  unit_built : (u : UnitPhrase) → UnitBuilt u
  unit_built phrase.Skip rest f s n c d h = ap (λ l. acts rest (B (f ++ entry kind.Skip [] ∷ []) [] s n l d)) (sym (append-nil c))
  unit_built (Tell q) rest f s n c d h = constraint_built q OneUnit unit_begins (Skips EndTell ∷ rest) f [] s n c d ∙ ap (λ l. acts rest (B (f ++ entry kind.Tell (constraint_of n q) ∷ []) [] s n l d)) (sym (append-nil c))
  unit_built (Braces g) rest f s n c d h = agent_built g (Matches TheClose CloseBrace ∷ rest) f s n c d h
  unit_built (IfThen q u) rest f s n c d h = asked q u kind.Then (Matches Branch Then) (λ rest f a s n c d. refl) rest f s n c d (unit_built u) h
  unit_built (IfElse q u) rest f s n c d h = asked q u kind.Else (Matches Branch Else) (λ rest f a s n c d. refl) rest f s n c d (unit_built u) h
  unit_built (LocalSignal x u) rest f s n c d h = local_built x (declared_signal x) u rest f s n c d (unit_built u) h
  unit_built (LocalInt x l k u) rest f s n c d h = local_built x (declared_number x l k) u rest f s n c d (unit_built u) h
  unit_built (phrase.Hence u) rest f s n c d h = under u (entry kind.Hence []) rest f s n c d (unit_built u) h
  unit_built (phrase.Next u) rest f s n c d h = under u (entry kind.Next []) rest f s n c d (unit_built u) h
  unit_built (phrase.Always u) rest f s n c d h = under u (entry kind.Always []) rest f s n c d (unit_built u) h
  unit_built (phrase.When q u) rest f s n c d h = asked q u kind.When (Matches TheDo Do) (λ rest f a s n c d. refl) rest f s n c d (unit_built u) h
  unit_built (phrase.Watching a q) rest f s n c d h = ended a q kind.Watch (Matches TheWatching Watching) (Skips EndWatch) (λ rest b. refl) (λ rest b. refl) rest f s n c d (agent_built a) h
  unit_built (phrase.TimeOn a q) rest f s n c d h = ended a q kind.Time (Matches TheOn On) (Skips EndTimed) (λ rest b. refl) (λ rest b. refl) rest f s n c d (agent_built a) h

  agent_built : (g : AgentPhrase) → AgentBuilt g
  agent_built (Only u) rest f s n c d h = unit_built u (Skips MoreUnits ∷ rest) f (length f ∷ s) n c d h
  agent_built (Par u g) rest f s n c d h =
      unit_built u (Matches MoreUnits Bars ∷ agent_events g rest) f (length f ∷ s) n c d (left_fits c (unit_cells u) (agent_cells g) h)
      ∙ left_built f (flat_forms (unit_tree u n (length c))) (agent_events g rest) s n (c ++ unit_cells u) d
      ∙ agent_built g rest (f ++ entry (kind.Par (1 + length (flat_forms (unit_tree u n (length c))))) [] ∷ flat_forms (unit_tree u n (length c))) s n (c ++ unit_cells u) d (right_fits c (unit_cells u) (agent_cells g) h)
      ∙ right_built f (flat_forms (unit_tree u n (length c))) (entry (kind.Par (1 + length (flat_forms (unit_tree u n (length c))))) []) g rest s n c (unit_cells u) d

names_built : (ns : NamesPhrase) (rest : List Event) (f : List Entry) (s : List ℕ) (n : List Placed) (c : List Declared) (d : ℕ) → length c + length (names_cells ns) ≤ 4294967295
    → acts (names_events ns rest) (B f [] s n c d) ≡ acts rest (B f [] s (names_scope ns n (length c)) (c ++ names_cells ns) d)
names_built (LastName x) rest f s n c d h = ap (λ k. acts rest (B f [] s (placed x k ∷ n) (c ++ declared_signal x ∷ []) d)) (next_is c (declared_signal x) [] h)
names_built (MoreName x ns) rest f s n c d h =
    ap (λ k. acts (names_events ns rest) (B f [] s (placed x k ∷ n) (c ++ declared_signal x ∷ []) d)) (next_is c (declared_signal x) (names_cells ns) h)
    ∙ names_built ns rest f s (placed x (length c) ∷ n) (c ++ declared_signal x ∷ []) d (rest_fits c (declared_signal x) (names_cells ns) h)
    ∙ ap (λ k. acts rest (B f [] s (names_scope ns (placed x (length c) ∷ n) k) ((c ++ declared_signal x ∷ []) ++ names_cells ns) d)) (length_more c (declared_signal x))
    ∙ ap (λ l. acts rest (B f [] s (names_scope ns (placed x (length c) ∷ n) (length c + 1)) l d)) (append_assoc c (declared_signal x ∷ []) (names_cells ns))

items_built : (is : ItemsPhrase) (rest : List Event) (f : List Entry) (s : List ℕ) (n : List Placed) (c : List Declared) (d : ℕ) → length c + length (items_cells is) ≤ 4294967295
    → acts (items_events is rest) (B f [] s n c d) ≡ acts rest (B f [] s (items_scope is n (length c)) (c ++ items_cells is) d)
items_built (LastItem x l k) rest f s n c d h = ap (λ j. acts rest (B f [] s (placed x j ∷ n) (c ++ declared_number x l k ∷ []) d)) (next_is c (declared_number x l k) [] h)
items_built (MoreItem x l k is) rest f s n c d h =
    ap (λ j. acts (items_events is rest) (B f [] s (placed x j ∷ n) (c ++ declared_number x l k ∷ []) d)) (next_is c (declared_number x l k) (items_cells is) h)
    ∙ items_built is rest f s (placed x (length c) ∷ n) (c ++ declared_number x l k ∷ []) d (rest_fits c (declared_number x l k) (items_cells is) h)
    ∙ ap (λ j. acts rest (B f [] s (items_scope is (placed x (length c) ∷ n) j) ((c ++ declared_number x l k ∷ []) ++ items_cells is) d)) (length_more c (declared_number x l k))
    ∙ ap (λ q. acts rest (B f [] s (items_scope is (placed x (length c) ∷ n) (length c + 1)) q d)) (append_assoc c (declared_number x l k ∷ []) (items_cells is))

-- the flat forms, the cells and how many are declared
pub record Gives (p : ProgramPhrase) (n : List Placed) (c : List Declared) (b : pass.Built) : Type 0 where
  pub tree : b.flat_forms ≡ flat_forms (tree_from p n (length c))
  pub cells : b.cells ≡ c ++ program_cells p
  pub declared : b.declared ≡ length c + length (declared_cells p)

gives_behind : (v : List Declared) (p q : ProgramPhrase) (n m : List Placed) (c : List Declared) (b : pass.Built)
    → tree_from q n (length c) ≡ tree_from p m (length c + length v) → program_cells q ≡ v ++ program_cells p → declared_cells q ≡ v ++ declared_cells p
    → Gives p m (c ++ v) b → Gives q n c b
gives_behind v p q n m c b et ec ed g = record {
  tree = g.tree ∙ ap (λ k. flat_forms (tree_from p m k)) (length-append c v) ∙ ap flat_forms (sym et);
  cells = g.cells ∙ append_assoc c v (program_cells p) ∙ ap (λ l. c ++ l) (sym ec);
  declared = (let e : length (declared_cells q) ≡ length v + length (declared_cells p) = ap length ed ∙ length-append v (declared_cells p) in g.declared ∙ omega (arith, e, length-append c v));
}

gives_from : (p : ProgramPhrase) (n : List Placed) (c : List Declared) (d : ℕ) → length c + length (program_cells p) ≤ 4294967295 → Gives p n c (acts (program_events p) (B [] [] (0 ∷ []) n c d))
gives_from (Runs g) n c d h =
    subst (Gives (Runs g) n c) (sym (agent_built g [] [] [] n c (length c) h)) (record { tree = refl; cells = refl; declared = omega arith })
gives_from (Signals ns p) n c d h =
    subst (Gives (Signals ns p) n c) (sym (names_built ns (program_events p) [] (0 ∷ []) n c d (left_fits c (names_cells ns) (program_cells p) h)))
    (gives_behind (names_cells ns) p (Signals ns p) n (names_scope ns n (length c)) c (acts (program_events p) (B [] [] (0 ∷ []) (names_scope ns n (length c)) (c ++ names_cells ns) d)) refl refl refl (gives_from p (names_scope ns n (length c)) (c ++ names_cells ns) d (right_fits c (names_cells ns) (program_cells p) h)))
gives_from (Ints is p) n c d h =
    subst (Gives (Ints is p) n c) (sym (items_built is (program_events p) [] (0 ∷ []) n c d (left_fits c (items_cells is) (program_cells p) h)))
    (gives_behind (items_cells is) p (Ints is p) n (items_scope is n (length c)) c (acts (program_events p) (B [] [] (0 ∷ []) (items_scope is n (length c)) (c ++ items_cells is) d)) refl refl refl (gives_from p (items_scope is n (length c)) (c ++ items_cells is) d (right_fits c (items_cells is) (program_cells p) h)))

-- The pass over a program builds its tree and its cells.
pub program_built : (p : ProgramPhrase) → length (program_cells p) ≤ 4294967295 → Gives p [] [] (over_events pass.build_pass 0 (program_events p) pass.nothing_built)
program_built p h = subst (Gives p [] []) (sym (over_acts (program_events p) 0 pass.nothing_built)) (gives_from p [] [] 0 (omega arith))

pub is_built : (p : ProgramPhrase) (b : pass.Built) → length (program_cells p) ≤ 4294967295 → b ≡ over_events pass.build_pass 0 (program_events p) pass.nothing_built → IsBuilt p b
is_built p b h e = subst (IsBuilt p) (sym e) (let g = program_built p h in record { tree = g.tree; cells = g.cells; declared = g.declared ∙ omega arith })
