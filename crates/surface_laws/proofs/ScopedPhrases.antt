-- In a program of fit terms within the limits whose names have no fault, each constraint is in scope.
use Rattle.std.proofs.Common.{◌≡◌, ℕ, ◌+◌, ◌≤◌, List, [], ◌∷◌, ◌++◌, length, Option, Some, None, true, refl, ap, sym, ◌∙◌, arith, length-append, append_assoc}
use Rattle.std.specs.Prelude.{map}
use Rattle.std.proofs.lemmas.List.{append-nil}
use Rattle.program_lexemes.specs.declared.bytes.TextForm.{TextForm}
use Rattle.token_system.specs.Tokens.{fits_kind}
use Rattle.token_system.specs.declared.cell.Kind.{Kind}
use Rattle.token_system.specs.declared.cell.Kind.TheVariants as kind
use Rattle.token_system.specs.declared.cell.Token as cell_token
use Rattle.token_system.specs.declared.cell.Token.TheVariants as tokens
use Rattle.agent_core.specs.Agents.{Constraint}
use Rattle.agent_core.specs.Programs.{CoreProgram}
use Rattle.agent_core.specs.WellFormed.{IsInScope, AreInScope, IsConstraint}
use Rattle.program_grammar.specs.Phrases.{TokenPhrase, AtLeast, AtMost, Exactly, ConstraintPhrase, One, Both, UnitPhrase, Tell, Braces, IfThen, IfElse, LocalSignal, LocalInt, AgentPhrase, Only, Par, ProgramPhrase, Runs, Signals, Ints}
use Rattle.program_grammar.specs.Phrases as phrase
use Rattle.tdcc_reader.specs.declared.dialect.Dialect.{Dialect}
use Rattle.tdcc_reader.specs.Widths.{token_width, constraint_width, unit_width, agent_width, names_width, items_width}
use Rattle.tdcc_reader.specs.LimitFaults.{first, constraint_limit, unit_limit, agent_limit, limit_from, program_limit}
use Rattle.tdcc_reader.specs.Scope.{Known, known, kind_in_scope, unknown_fault, signal_fault, number_fault, token_fault, constraint_fault, declared_fault, item_fault, unit_fault, agent_fault, names_known, names_fault, items_known, items_fault, fault_from, program_fault}
use Rattle.tdcc_reader.specs.Surfaces.{Placed, placed, cell_in_scope, Declared, declared_signal, declared_number, cell_view, token_tokens, constraint_of, unit_cells, agent_cells, unit_tree, agent_tree, names_cells, names_scope, items_cells, items_scope, tree_from, program_tree, declared_cells, program_cells}
use Rattle.tdcc_reader.proofs.Asks.{none_left, none_right, ask_kept, inner}
use Rattle.surface_laws.specs.Surfaces.{IsScopedTree}
use Rattle.surface_laws.proofs.FitPhrases.{TokenFit, ConstraintFit, UnitFit, AgentFit, ProgramFit}
use Rattle.surface_laws.proofs.PlacedNames.{IsCellOf, ArePlaced, none_placed, local_placed, whole_more, long_more, names_placed, number_kind, items_placed}

-- a use without a fault is of a known name
signal_known : (o : Option Kind) (at : ℕ) → first (unknown_fault o at) (signal_fault o at) ≡ None → o ≡ Some kind.Signal
signal_known None at e = cc
signal_known (Some kind.Signal) at e = refl
signal_known (Some kind.Number) at e = cc

number_known : (o : Option Kind) (at : ℕ) → first (unknown_fault o at) (number_fault o at) ≡ None → o ≡ Some kind.Number
number_known None at e = cc
number_known (Some kind.Signal) at e = cc
number_known (Some kind.Number) at e = refl

any_known : (o : Option Kind) (at : ℕ) → unknown_fault o at ≡ None → (k : Kind) × (o ≡ Some k)
any_known None at e = cc
any_known (Some k) at e = (k, refl)

-- a token that fits the cells of this kind
in_scope : (p : CoreProgram) (locals : List ℕ) (cell : ℕ) (k : Kind) (t : cell_token.Token) → IsCellOf p locals cell k → fits_kind k t ≡ true → IsInScope p locals (cell, t)
in_scope p locals cell k t is e = record {
  visible = is.visible;
  decl = is.decl;
  found = is.found;
  fits = (let f : fits_kind is.decl.cell.kind t ≡ true = ap (λ (j : Kind). fits_kind j t) is.kind ∙ e in f);
}

token_scoped : (t : TokenPhrase) (p : CoreProgram) (locals : List ℕ) (names : List Known) (places : List Placed) (at : ℕ) → ArePlaced p locals names places → TokenFit t → token_fault t names at ≡ None → AreInScope p locals (token_tokens places t)
token_scoped (phrase.On x) p locals names places at are fit e = (in_scope p locals (cell_in_scope places x) kind.Signal tokens.On (are.each x kind.Signal (signal_known (kind_in_scope names x) at e)) refl, tt)
token_scoped (phrase.Off x) p locals names places at are fit e = (in_scope p locals (cell_in_scope places x) kind.Signal tokens.Off (are.each x kind.Signal (signal_known (kind_in_scope names x) (at + 1) e)) refl, tt)
token_scoped (phrase.Clash x) p locals names places at are fit e = let (k, is) = any_known (kind_in_scope names x) (at + 1) e in (in_scope p locals (cell_in_scope places x) k tokens.Clash (are.each x k is) refl, tt)
token_scoped (AtLeast x n) p locals names places at are fit e = (in_scope p locals (cell_in_scope places x) kind.Number (tokens.AtLeast n) (are.each x kind.Number (number_known (kind_in_scope names x) at e)) fit, tt)
token_scoped (AtMost x n) p locals names places at are fit e = (in_scope p locals (cell_in_scope places x) kind.Number (tokens.AtMost n) (are.each x kind.Number (number_known (kind_in_scope names x) at e)) fit, tt)
token_scoped (Exactly x n) p locals names places at are fit e =
    let is = are.each x kind.Number (number_known (kind_in_scope names x) at e) in
    (in_scope p locals (cell_in_scope places x) kind.Number (tokens.AtLeast n) is fit, (in_scope p locals (cell_in_scope places x) kind.Number (tokens.AtMost n) is fit, tt))

scoped-append : (p : CoreProgram) (locals : List ℕ) (a b : Constraint) → AreInScope p locals a → AreInScope p locals b → AreInScope p locals (a ++ b)
scoped-append p locals [] b x y = y
scoped-append p locals (t ∷ a) b (h, x) y = (h, scoped-append p locals a b x y)

tokens_scoped : (c : ConstraintPhrase) (p : CoreProgram) (locals : List ℕ) (names : List Known) (places : List Placed) (at : ℕ) → ArePlaced p locals names places → ConstraintFit c → constraint_fault c names at ≡ None → AreInScope p locals (constraint_of places c)
tokens_scoped (One t) p locals names places at are fit e = token_scoped t p locals names places at are fit e
tokens_scoped (Both t c) p locals names places at are fit e =
    scoped-append p locals (token_tokens places t) (constraint_of places c)
    (token_scoped t p locals names places at are fit.0 (none_left (token_fault t names at) (constraint_fault c names (at + token_width t + 1)) e))
    (tokens_scoped c p locals names places (at + token_width t + 1) are fit.1 (none_right (token_fault t names at) (constraint_fault c names (at + token_width t + 1)) e))

constraint_scoped : (dialect : Dialect) (c : ConstraintPhrase) (p : CoreProgram) (locals : List ℕ) (names : List Known) (places : List Placed) (at to : ℕ) → ArePlaced p locals names places → ConstraintFit c → constraint_limit dialect c 0 at ≡ None → constraint_fault c names to ≡ None → IsConstraint p locals (constraint_of places c)
constraint_scoped dialect c p locals names places at to are fit l e =
    let (some, few) = ask_kept dialect places c at l in record { some = some; few = few; tokens = tokens_scoped c p locals names places to are fit e }

-- the cells of a unit, with those in front and those behind
abbrev UnitScoped : TextForm → Dialect → UnitPhrase → Type 0
UnitScoped form dialect u = (p : CoreProgram) (locals : List ℕ) (names : List Known) (places : List Placed) (front back : List Declared) (n d at to : ℕ)
    → map cell_view p.cells ≡ front ++ (unit_cells u ++ back) → length front ≡ n → ArePlaced p locals names places → UnitFit form u → unit_limit dialect u d at ≡ None → unit_fault u names to ≡ None
    → IsScopedTree p locals (unit_tree u places n)

abbrev AgentScoped : TextForm → Dialect → AgentPhrase → Type 0
AgentScoped form dialect a = (p : CoreProgram) (locals : List ℕ) (names : List Known) (places : List Placed) (front back : List Declared) (n d at to : ℕ)
    → map cell_view p.cells ≡ front ++ (agent_cells a ++ back) → length front ≡ n → ArePlaced p locals names places → AgentFit form a → agent_limit dialect a d at ≡ None → agent_fault a names to ≡ None
    → IsScopedTree p locals (agent_tree a places n)

-- an ask and a body behind one term
asked : (form : TextForm) (dialect : Dialect) (c : ConstraintPhrase) (u : UnitPhrase) → UnitScoped form dialect u → (p : CoreProgram) (locals : List ℕ) (names : List Known) (places : List Placed) (front back : List Declared) (n d at to : ℕ)
    → map cell_view p.cells ≡ front ++ (unit_cells u ++ back) → length front ≡ n → ArePlaced p locals names places → ConstraintFit c × UnitFit form u
    → first (constraint_limit dialect c 0 (at + 1)) (unit_limit dialect u (d + 1) (at + 1 + constraint_width c + 1)) ≡ None
    → first (constraint_fault c names (to + 1)) (unit_fault u names (to + 1 + constraint_width c + 1)) ≡ None
    → IsConstraint p locals (constraint_of places c) × IsScopedTree p locals (unit_tree u places n)
asked form dialect c u ih p locals names places front back n d at to whole long are fit l e = (
  constraint_scoped dialect c p locals names places (at + 1) (to + 1) are fit.0
      (none_left (constraint_limit dialect c 0 (at + 1)) (unit_limit dialect u (d + 1) (at + 1 + constraint_width c + 1)) l) (none_left (constraint_fault c names (to + 1)) (unit_fault u names (to + 1 + constraint_width c + 1)) e),
  ih p locals names places front back n (d + 1) (at + 1 + constraint_width c + 1) (to + 1 + constraint_width c + 1) whole long are fit.1
      (none_right (constraint_limit dialect c 0 (at + 1)) (unit_limit dialect u (d + 1) (at + 1 + constraint_width c + 1)) l) (none_right (constraint_fault c names (to + 1)) (unit_fault u names (to + 1 + constraint_width c + 1)) e),
)

-- an agent and a constraint behind one term
ended : (form : TextForm) (dialect : Dialect) (a : AgentPhrase) (c : ConstraintPhrase) → AgentScoped form dialect a → (p : CoreProgram) (locals : List ℕ) (names : List Known) (places : List Placed) (front back : List Declared) (n d at to : ℕ)
    → map cell_view p.cells ≡ front ++ (agent_cells a ++ back) → length front ≡ n → ArePlaced p locals names places → AgentFit form a × ConstraintFit c
    → first (agent_limit dialect a (d + 1) (at + 1)) (constraint_limit dialect c 0 (at + 1 + agent_width a + 1)) ≡ None
    → first (agent_fault a names (to + 1)) (constraint_fault c names (to + 1 + agent_width a + 1)) ≡ None
    → IsScopedTree p locals (agent_tree a places n) × IsConstraint p locals (constraint_of places c)
ended form dialect a c ih p locals names places front back n d at to whole long are fit l e = (
  ih p locals names places front back n (d + 1) (at + 1) (to + 1) whole long are fit.0
      (none_left (agent_limit dialect a (d + 1) (at + 1)) (constraint_limit dialect c 0 (at + 1 + agent_width a + 1)) l) (none_left (agent_fault a names (to + 1)) (constraint_fault c names (to + 1 + agent_width a + 1)) e),
  constraint_scoped dialect c p locals names places (at + 1 + agent_width a + 1) (to + 1 + agent_width a + 1) are fit.1
      (none_right (agent_limit dialect a (d + 1) (at + 1)) (constraint_limit dialect c 0 (at + 1 + agent_width a + 1)) l) (none_right (agent_fault a names (to + 1)) (constraint_fault c names (to + 1 + agent_width a + 1)) e),
)

-- cells in two parts
pub parted : (cs front xs ys back : List Declared) → cs ≡ front ++ ((xs ++ ys) ++ back) → cs ≡ front ++ (xs ++ (ys ++ back))
parted cs front xs ys back e = e ∙ ap (λ l. front ++ l) (append_assoc xs ys back)

pub moved : (cs front xs ys back : List Declared) → cs ≡ front ++ ((xs ++ ys) ++ back) → cs ≡ (front ++ xs) ++ (ys ++ back)
moved cs front xs ys back e = parted cs front xs ys back e ∙ sym (append_assoc front xs (ys ++ back))

pub longer : (front xs : List Declared) (n : ℕ) → length front ≡ n → length (front ++ xs) ≡ n + length xs
longer front xs n long = length-append front xs ∙ ap (λ k. k + length xs) long

mutual
  unit_scoped : (form : TextForm) (dialect : Dialect) (u : UnitPhrase) → UnitScoped form dialect u
  unit_scoped form dialect phrase.Skip p locals names places front back n d at to whole long are fit l e = tt
  unit_scoped form dialect (Tell c) p locals names places front back n d at to whole long are fit l e = constraint_scoped dialect c p locals names places at to are fit (inner dialect d at (constraint_limit dialect c 0 at) l) e
  unit_scoped form dialect (Braces a) p locals names places front back n d at to whole long are fit l e =
      agent_scoped form dialect a p locals names places front back n (d + 1) (at + 1) (to + 1) whole long are fit (inner dialect d at (agent_limit dialect a (d + 1) (at + 1)) l) e
  unit_scoped form dialect (IfThen c u) p locals names places front back n d at to whole long are fit l e =
      asked form dialect c u (unit_scoped form dialect u) p locals names places front back n d at to whole long are fit (inner dialect d at (first (constraint_limit dialect c 0 (at + 1)) (unit_limit dialect u (d + 1) (at + 1 + constraint_width c + 1))) l) e
  unit_scoped form dialect (IfElse c u) p locals names places front back n d at to whole long are fit l e =
      asked form dialect c u (unit_scoped form dialect u) p locals names places front back n d at to whole long are fit (inner dialect d at (first (constraint_limit dialect c 0 (at + 1)) (unit_limit dialect u (d + 1) (at + 1 + constraint_width c + 1))) l) e
  unit_scoped form dialect (LocalSignal x u) p locals names places front back n d at to whole long are fit l e =
      unit_scoped form dialect u p (n ∷ locals) (known x kind.Signal ∷ names) (placed x n ∷ places) (front ++ declared_signal x ∷ []) back (n + 1) (d + 1) (at + 4) (to + 4)
      (whole_more (map cell_view p.cells) front (unit_cells u ++ back) (declared_signal x) whole) (long_more front (declared_signal x) n long)
      (local_placed p locals names places front (unit_cells u ++ back) x (declared_signal x) kind.Signal n whole long refl are) fit.1
      (inner dialect d at (unit_limit dialect u (d + 1) (at + 4)) l) (none_right (declared_fault x names (to + 2)) (unit_fault u (known x kind.Signal ∷ names) (to + 4)) e)
  unit_scoped form dialect (LocalInt x low high u) p locals names places front back n d at to whole long are fit l e =
      let is = number_kind form x low high names (to + 2) fit.0 (none_left (item_fault x low high names (to + 2)) (unit_fault u (known x kind.Number ∷ names) (to + 8)) e) in
      unit_scoped form dialect u p (n ∷ locals) (known x kind.Number ∷ names) (placed x n ∷ places) (front ++ declared_number x low high ∷ []) back (n + 1) (d + 1) (at + 8) (to + 8)
      (whole_more (map cell_view p.cells) front (unit_cells u ++ back) (declared_number x low high) whole) (long_more front (declared_number x low high) n long)
      (local_placed p locals names places front (unit_cells u ++ back) x (declared_number x low high) kind.Number n whole long is are) fit.1
      (inner dialect d at (unit_limit dialect u (d + 1) (at + 8)) l) (none_right (item_fault x low high names (to + 2)) (unit_fault u (known x kind.Number ∷ names) (to + 8)) e)
  unit_scoped form dialect (phrase.Hence u) p locals names places front back n d at to whole long are fit l e =
      unit_scoped form dialect u p locals names places front back n (d + 1) (at + 1) (to + 1) whole long are fit (inner dialect d at (unit_limit dialect u (d + 1) (at + 1)) l) e
  unit_scoped form dialect (phrase.Next u) p locals names places front back n d at to whole long are fit l e =
      unit_scoped form dialect u p locals names places front back n (d + 1) (at + 1) (to + 1) whole long are fit (inner dialect d at (unit_limit dialect u (d + 1) (at + 1)) l) e
  unit_scoped form dialect (phrase.Always u) p locals names places front back n d at to whole long are fit l e =
      unit_scoped form dialect u p locals names places front back n (d + 1) (at + 1) (to + 1) whole long are fit (inner dialect d at (unit_limit dialect u (d + 1) (at + 1)) l) e
  unit_scoped form dialect (phrase.When c u) p locals names places front back n d at to whole long are fit l e =
      asked form dialect c u (unit_scoped form dialect u) p locals names places front back n d at to whole long are fit (inner dialect d at (first (constraint_limit dialect c 0 (at + 1)) (unit_limit dialect u (d + 1) (at + 1 + constraint_width c + 1))) l) e
  unit_scoped form dialect (phrase.Watching a c) p locals names places front back n d at to whole long are fit l e =
      ended form dialect a c (agent_scoped form dialect a) p locals names places front back n d at to whole long are fit (inner dialect d at (first (agent_limit dialect a (d + 1) (at + 1)) (constraint_limit dialect c 0 (at + 1 + agent_width a + 1))) l) e
  unit_scoped form dialect (phrase.TimeOn a c) p locals names places front back n d at to whole long are fit l e =
      ended form dialect a c (agent_scoped form dialect a) p locals names places front back n d at to whole long are fit (inner dialect d at (first (agent_limit dialect a (d + 1) (at + 1)) (constraint_limit dialect c 0 (at + 1 + agent_width a + 1))) l) e

  agent_scoped : (form : TextForm) (dialect : Dialect) (a : AgentPhrase) → AgentScoped form dialect a
  agent_scoped form dialect (Only u) p locals names places front back n d at to whole long are fit l e = unit_scoped form dialect u p locals names places front back n d at to whole long are fit l e
  agent_scoped form dialect (Par u a) p locals names places front back n d at to whole long are fit l e = (
    unit_scoped form dialect u p locals names places front (agent_cells a ++ back) n d at to (parted (map cell_view p.cells) front (unit_cells u) (agent_cells a) back whole) long are
        fit.0 (none_left (unit_limit dialect u d at) (agent_limit dialect a d (at + unit_width u + 1)) l) (none_left (unit_fault u names to) (agent_fault a names (to + unit_width u + 1)) e),
    agent_scoped form dialect a p locals names places (front ++ unit_cells u) back (n + length (unit_cells u)) d (at + unit_width u + 1) (to + unit_width u + 1)
        (moved (map cell_view p.cells) front (unit_cells u) (agent_cells a) back whole) (longer front (unit_cells u) n long) are
        fit.1 (none_right (unit_limit dialect u d at) (agent_limit dialect a d (at + unit_width u + 1)) l) (none_right (unit_fault u names to) (agent_fault a names (to + unit_width u + 1)) e),
  )

-- fewer are declared in front
few_first : (n b : ℕ) (xs ys : List Declared) → n + length (xs ++ ys) ≤ b → n + length xs ≤ b
few_first n b xs ys h = let l = length-append xs ys in omega arith

few_then : (n b : ℕ) (xs ys : List Declared) → n + length (xs ++ ys) ≤ b → n + length xs + length ys ≤ b
few_then n b xs ys h = let l = length-append xs ys in omega arith

scoped_from : (form : TextForm) (dialect : Dialect) (q : ProgramPhrase) (p : CoreProgram) (names : List Known) (places : List Placed) (front : List Declared) (n at to : ℕ)
    → map cell_view p.cells ≡ front ++ program_cells q → length front ≡ n → n + length (declared_cells q) ≤ p.declared → ArePlaced p [] names places
    → ProgramFit form q → limit_from dialect q at ≡ None → fault_from q names to ≡ None → IsScopedTree p [] (tree_from q places n)
scoped_from form dialect (Runs a) p names places front n at to whole long few are fit l e =
    agent_scoped form dialect a p [] names places front [] n 0 at to (whole ∙ ap (λ k. front ++ k) (sym (append-nil (agent_cells a)))) long are fit l e
scoped_from form dialect (Signals ns q) p names places front n at to whole long few are fit l e =
    scoped_from form dialect q p (names_known ns names) (names_scope ns places n) (front ++ names_cells ns) (n + length (names_cells ns)) (at + 1 + names_width ns) (to + 1 + names_width ns)
    (whole ∙ sym (append_assoc front (names_cells ns) (program_cells q))) (longer front (names_cells ns) n long) (few_then n p.declared (names_cells ns) (declared_cells q) few)
    (names_placed ns p names places front (program_cells q) n whole long (few_first n p.declared (names_cells ns) (declared_cells q) few) are) fit.1 l
    (none_right (names_fault ns names (to + 1)) (fault_from q (names_known ns names) (to + 1 + names_width ns)) e)
scoped_from form dialect (Ints is q) p names places front n at to whole long few are fit l e =
    scoped_from form dialect q p (items_known is names) (items_scope is places n) (front ++ items_cells is) (n + length (items_cells is)) (at + 1 + items_width is) (to + 1 + items_width is)
    (whole ∙ sym (append_assoc front (items_cells is) (program_cells q))) (longer front (items_cells is) n long) (few_then n p.declared (items_cells is) (declared_cells q) few)
    (items_placed form is p names places front (program_cells q) n (to + 1) whole long (few_first n p.declared (items_cells is) (declared_cells q) few) fit.0
    (none_left (items_fault is names (to + 1)) (fault_from q (items_known is names) (to + 1 + items_width is)) e) are)
    fit.1 l
    (none_right (items_fault is names (to + 1)) (fault_from q (items_known is names) (to + 1 + items_width is)) e)

-- Each constraint of the program is in scope.
pub program_scoped : (form : TextForm) (dialect : Dialect) (q : ProgramPhrase) (p : CoreProgram) → map cell_view p.cells ≡ program_cells q → p.declared ≡ length (declared_cells q) → ProgramFit form q → program_limit dialect q ≡ None → program_fault q ≡ None
    → IsScopedTree p [] (program_tree q)
program_scoped form dialect q p whole many fit l e = scoped_from form dialect q p [] [] [] 0 0 0 whole refl (omega arith) (none_placed p) fit l e
