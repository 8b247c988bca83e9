-- The cells of the new forms of a program are its local cells, in order.
use Rattle.std.proofs.Common.{◌≡◌, ℕ, zero, suc, ◌+◌, List, [], ◌∷◌, ◌++◌, length, refl, ap, sym, ◌∙◌, arith, length-append, append_assoc}
use Rattle.program_grammar.specs.Phrases.{UnitPhrase, Tell, Braces, IfThen, IfElse, LocalSignal, LocalInt, AgentPhrase, Only, Par, ProgramPhrase, Runs, Signals, Ints}
use Rattle.program_grammar.specs.Phrases as phrase
use Rattle.agent_core.specs.WellFormed.{count_up}
use Rattle.tdcc_reader.specs.Surfaces.{Placed, placed, Declared, unit_tree, agent_tree, unit_cells, agent_cells, names_cells, names_scope, items_cells, items_scope, tree_from, program_tree, declared_cells, program_cells}
use Rattle.surface_laws.specs.Surfaces.{new_cells}

pub count_up-append : (n a b : ℕ) → count_up n a ++ count_up (n + a) b ≡ count_up n (a + b)
count_up-append n zero b = let e : n + 0 ≡ n = omega arith in let f : 0 + b ≡ b = omega arith in ap (λ k. count_up k b) e ∙ ap (count_up n) (sym f)
count_up-append n (suc a) b =
    let e : n + suc a ≡ suc n + a = omega arith in
    let f : suc (a + b) ≡ suc a + b = omega arith in
    ap (λ k. n ∷ (count_up (suc n) a ++ count_up k b)) e ∙ ap (λ q. n ∷ q) (count_up-append (suc n) a b) ∙ ap (count_up n) f

-- a cell in front of those behind it
counted_more : (n k : ℕ) (xs : List ℕ) → xs ≡ count_up (n + 1) k → n ∷ xs ≡ count_up n (suc k)
counted_more n k xs e = let f : n + 1 ≡ suc n = omega arith in ap (λ q. n ∷ q) (e ∙ ap (λ m. count_up m k) f)

mutual
  unit_counted : (u : UnitPhrase) (s : List Placed) (n : ℕ) → new_cells (unit_tree u s n) ≡ count_up n (length (unit_cells u))
  unit_counted phrase.Skip s n = refl
  unit_counted (Tell c) s n = refl
  unit_counted (Braces a) s n = agent_counted a s n
  unit_counted (IfThen c u) s n = unit_counted u s n
  unit_counted (IfElse c u) s n = unit_counted u s n
  unit_counted (LocalSignal x u) s n = counted_more n (length (unit_cells u)) (new_cells (unit_tree u (placed x n ∷ s) (n + 1))) (unit_counted u (placed x n ∷ s) (n + 1))
  unit_counted (LocalInt x l h u) s n = counted_more n (length (unit_cells u)) (new_cells (unit_tree u (placed x n ∷ s) (n + 1))) (unit_counted u (placed x n ∷ s) (n + 1))
  unit_counted (phrase.Hence u) s n = unit_counted u s n
  unit_counted (phrase.Next u) s n = unit_counted u s n
  unit_counted (phrase.Always u) s n = unit_counted u s n
  unit_counted (phrase.When c u) s n = unit_counted u s n
  unit_counted (phrase.Watching a c) s n = agent_counted a s n
  unit_counted (phrase.TimeOn a c) s n = agent_counted a s n

  agent_counted : (a : AgentPhrase) (s : List Placed) (n : ℕ) → new_cells (agent_tree a s n) ≡ count_up n (length (agent_cells a))
  agent_counted (Only u) s n = unit_counted u s n
  agent_counted (Par u a) s n =
      ap (λ q. q ++ new_cells (agent_tree a s (n + length (unit_cells u)))) (unit_counted u s n)
      ∙ ap (λ q. count_up n (length (unit_cells u)) ++ q) (agent_counted a s (n + length (unit_cells u)))
      ∙ count_up-append n (length (unit_cells u)) (length (agent_cells a))
      ∙ ap (count_up n) (sym (length-append (unit_cells u) (agent_cells a)))

-- the local cells of a program
abbrev pub local_cells : ProgramPhrase → List Declared
local_cells (Runs a) = agent_cells a
local_cells (Signals ns p) = local_cells p
local_cells (Ints is p) = local_cells p

-- Its cells are the declared ones and then the local ones.
pub cells_parted : (p : ProgramPhrase) → program_cells p ≡ declared_cells p ++ local_cells p
cells_parted (Runs a) = refl
cells_parted (Signals ns p) = ap (λ q. names_cells ns ++ q) (cells_parted p) ∙ sym (append_assoc (names_cells ns) (declared_cells p) (local_cells p))
cells_parted (Ints is p) = ap (λ q. items_cells is ++ q) (cells_parted p) ∙ sym (append_assoc (items_cells is) (declared_cells p) (local_cells p))

moved : (n : ℕ) (xs ys : List Declared) (k : ℕ) → count_up (n + length xs + length ys) k ≡ count_up (n + length (xs ++ ys)) k
moved n xs ys k = let l = length-append xs ys in let e : n + length xs + length ys ≡ n + length (xs ++ ys) = omega arith in ap (λ m. count_up m k) e

counted_from : (p : ProgramPhrase) (s : List Placed) (n : ℕ) → new_cells (tree_from p s n) ≡ count_up (n + length (declared_cells p)) (length (local_cells p))
counted_from (Runs a) s n = agent_counted a s n ∙ (let f : n ≡ n + 0 = omega arith in ap (λ m. count_up m (length (agent_cells a))) f)
counted_from (Signals ns p) s n = counted_from p (names_scope ns s n) (n + length (names_cells ns)) ∙ moved n (names_cells ns) (declared_cells p) (length (local_cells p))
counted_from (Ints is p) s n = counted_from p (items_scope is s n) (n + length (items_cells is)) ∙ moved n (items_cells is) (declared_cells p) (length (local_cells p))

-- The new forms of a program's tree have its local cells, in order.
pub program_counted : (p : ProgramPhrase) → new_cells (program_tree p) ≡ count_up (length (declared_cells p)) (length (local_cells p))
program_counted p = counted_from p [] 0 ∙ (let f : 0 + length (declared_cells p) ≡ length (declared_cells p) = omega arith in ap (λ m. count_up m (length (local_cells p))) f)
