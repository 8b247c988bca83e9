-- A program has at most as many cells, and at most as many forms, as it has terms.
use Rattle.std.proofs.Common.{ℕ, ◌+◌, ◌≤◌, List, [], ◌∷◌, length, arith, length-append}
use Rattle.program_grammar.specs.Terms.{Term, Then, Else, Do, Watching, On, Semicolon, Ampersand, Bars, CloseBrace}
use Rattle.program_grammar.specs.Phrases.{TokenPhrase, AtLeast, AtMost, Exactly, ConstraintPhrase, One, Both, UnitPhrase, Tell, Braces, IfThen, IfElse, LocalSignal, LocalInt, AgentPhrase, Only, Par, NamesPhrase, LastName, MoreName, ItemsPhrase, LastItem, MoreItem, ProgramPhrase, Runs, Signals, Ints}
use Rattle.program_grammar.specs.Phrases as phrase
use Rattle.program_grammar.specs.Spelling.{token, constraint, unit, agent, names, items, program}
use Rattle.tdcc_reader.specs.Trees.{form_count}
use Rattle.tdcc_reader.specs.Surfaces.{Placed, placed, unit_cells, agent_cells, unit_tree, agent_tree, names_cells, names_scope, items_cells, items_scope, tree_from, program_tree, program_cells}

token_longer : (t : TokenPhrase) (k : List Term) → length k + 1 ≤ length (token t k)
token_longer (phrase.On x) k = omega arith
token_longer (phrase.Off x) k = omega arith
token_longer (phrase.Clash x) k = omega arith
token_longer (AtLeast x n) k = omega arith
token_longer (AtMost x n) k = omega arith
token_longer (Exactly x n) k = omega arith

constraint_longer : (c : ConstraintPhrase) (k : List Term) → length k + 1 ≤ length (constraint c k)
constraint_longer (One t) k = token_longer t k
constraint_longer (Both t c) k = omega (arith, token_longer t (Ampersand ∷ constraint c k), constraint_longer c k)

abbrev Fit : ℕ → ℕ → List Term → List Term → Type 0
Fit cells forms k whole = (cells + length k ≤ length whole) × (forms + length k ≤ length whole)

mutual
  unit_fits : (u : UnitPhrase) (n : List Placed) (m : ℕ) (k : List Term) → Fit (length (unit_cells u)) (form_count (unit_tree u n m)) k (unit u k)
  unit_fits phrase.Skip n m k = (omega arith, omega arith)
  unit_fits (Tell c) n m k = let l = constraint_longer c k in (omega arith, omega arith)
  unit_fits (Braces a) n m k = let (x, y) = agent_fits a n m (CloseBrace ∷ k) in (omega arith, omega arith)
  unit_fits (IfThen c u) n m k = let l = constraint_longer c (Then ∷ unit u k) in let (x, y) = unit_fits u n m k in (omega arith, omega arith)
  unit_fits (IfElse c u) n m k = let l = constraint_longer c (Else ∷ unit u k) in let (x, y) = unit_fits u n m k in (omega arith, omega arith)
  unit_fits (LocalSignal z u) n m k = let (x, y) = unit_fits u (placed z m ∷ n) (m + 1) k in (omega arith, omega arith)
  unit_fits (LocalInt z l h u) n m k = let (x, y) = unit_fits u (placed z m ∷ n) (m + 1) k in (omega arith, omega arith)
  unit_fits (phrase.Hence u) n m k = let (x, y) = unit_fits u n m k in (omega arith, omega arith)
  unit_fits (phrase.Next u) n m k = let (x, y) = unit_fits u n m k in (omega arith, omega arith)
  unit_fits (phrase.Always u) n m k = let (x, y) = unit_fits u n m k in (omega arith, omega arith)
  unit_fits (phrase.When c u) n m k = let l = constraint_longer c (Do ∷ unit u k) in let (x, y) = unit_fits u n m k in (omega arith, omega arith)
  unit_fits (phrase.Watching a c) n m k = let l = constraint_longer c k in let (x, y) = agent_fits a n m (Watching ∷ constraint c k) in (omega arith, omega arith)
  unit_fits (phrase.TimeOn a c) n m k = let l = constraint_longer c k in let (x, y) = agent_fits a n m (On ∷ constraint c k) in (omega arith, omega arith)

  agent_fits : (a : AgentPhrase) (n : List Placed) (m : ℕ) (k : List Term) → Fit (length (agent_cells a)) (form_count (agent_tree a n m)) k (agent a k)
  agent_fits (Only u) n m k = unit_fits u n m k
  agent_fits (Par u a) n m k =
      let (x, y) = unit_fits u n m (Bars ∷ agent a k) in
      let (v, w) = agent_fits a n (m + length (unit_cells u)) k in
      let e = length-append (unit_cells u) (agent_cells a) in (omega arith, omega arith)

names_fit : (ns : NamesPhrase) (k : List Term) → length (names_cells ns) + length k ≤ length (names ns k)
names_fit (LastName x) k = omega arith
names_fit (MoreName x ns) k = let i = names_fit ns k in omega arith

items_fit : (is : ItemsPhrase) (k : List Term) → length (items_cells is) + length k ≤ length (items is k)
items_fit (LastItem x l h) k = omega arith
items_fit (MoreItem x l h is) k = let i = items_fit is k in omega arith

program_fits : (p : ProgramPhrase) (n : List Placed) (m : ℕ) → Fit (length (program_cells p)) (form_count (tree_from p n m)) [] (program p [])
program_fits (Runs a) n m = agent_fits a n m []
program_fits (Signals ns p) n m =
    let (x, y) = program_fits p (names_scope ns n m) (m + length (names_cells ns)) in
    let i = names_fit ns (Semicolon ∷ program p []) in
    let e = length-append (names_cells ns) (program_cells p) in (omega arith, omega arith)
program_fits (Ints is p) n m =
    let (x, y) = program_fits p (items_scope is n m) (m + length (items_cells is)) in
    let i = items_fit is (Semicolon ∷ program p []) in
    let e = length-append (items_cells is) (program_cells p) in (omega arith, omega arith)

pub cells_fit : (p : ProgramPhrase) → length (program_cells p) ≤ length (program p [])
cells_fit p = let (x, y) = program_fits p [] 0 in omega arith

pub forms_fit : (p : ProgramPhrase) → form_count (program_tree p) ≤ length (program p [])
forms_fit p = let (x, y) = program_fits p [] 0 in omega arith
