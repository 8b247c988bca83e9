-- The cells of a program's phrase are the program's cells.
use Rattle.std.proofs.Common.{◌≡◌, ℕ, ℤ, pos, zero, suc, ◌+◌, ◌-◌, ◌<◌, Bool, true, false, cond, List, [], ◌∷◌, ◌++◌, length, take, drop, get_or, Option, Some, refl, sym, ap, ◌∙◌, arith, drop-cons}
use Rattle.std.specs.Prelude.{slice_get, map, ◌&&◌, IsTrue}
use Rattle.std.specs.Option.{option_map_or}
use Rattle.std.specs.Ordering.{int_eq}
use Rattle.std.proofs.lemmas.Bool.Decides.{Decides-int_eq}
use Rattle.std.proofs.lemmas.List.{map-append, length-map, length-take-le, take-append-drop, drop_all}
use Rattle.std.proofs.lemmas.Option.{slice_get-get_or}
use Rattle.token_system.specs.Domain.{is_cell}
use Rattle.token_system.specs.declared.cell.Kind.{Kind}
use Rattle.token_system.specs.declared.cell.Kind.TheVariants.{Signal, Number}
use Rattle.program_grammar.specs.Phrases as g
use Rattle.agent_core.specs.declared.node.CellDecl.{CellDecl}
use Rattle.agent_core.specs.Agents.{Agent, Skip, Tell, Then, Else, Par, New, Hence, Next, agent_at}
use Rattle.agent_core.specs.Programs.{CoreProgram}
use Rattle.agent_core.specs.WellFormed.{IsWellFormed, count_up}
use Rattle.tdcc_reader.specs.Surfaces.{Declared, declared, declared_signal, declared_number, cell_view, unit_cells, agent_cells, declared_cells, program_cells}
use Rattle.core_text.specs.GoodNames.{HasGoodNames}
use Rattle.core_reader.proofs.LocalCells.{news}
use Rattle.core_text_laws.proofs.Sitting.{Sits, sits_then, sits_else, sits_hence, sits_next, sits_left, sits_right, sits_cell, sits_new, root_sits, root_news}
use Rattle.core_text_laws.proofs.CorePhrases.{as_unit_phrase, local_phrase, local_at, agent_phrase, decl_phrase, decls_phrase, program_phrase}

-- what is seen of the cell with this declared_number
abbrev pub seen_at : List CellDecl → ℕ → Declared
seen_at cells n = option_map_or cell_view (slice_get cells n) (declared_signal [])

-- a cell with this declared_number stands in the list
pub found_at : (cells : List CellDecl) (n : ℕ) → n < length cells → (d : CellDecl) × (slice_get cells n ≡ Some d)
found_at [] n h = absurd (omega arith)
found_at (d ∷ cells) zero h = (d, refl)
found_at (d ∷ cells) (suc n) h = found_at cells n (omega arith)

-- an element of the front stands in the list
pub taken : (xs : List CellDecl) (n i : ℕ) (d : CellDecl) → slice_get (take n xs) i ≡ Some d → slice_get xs i ≡ Some d
taken [] zero i d e = e
taken [] (suc n) i d e = e
taken (x ∷ xs) zero i d e = absurd (cc)
taken (x ∷ xs) (suc n) zero d e = e
taken (x ∷ xs) (suc n) (suc i) d e = taken xs n i d e

pub both : (a b : Bool) → IsTrue (a && b) → IsTrue a × IsTrue b
both true true h = (refl, refl)
both true false h = let e : false ≡ true = h in cc
both false b h = let e : false ≡ true = h in cc

int_same : (a b : ℤ) → IsTrue (int_eq a b) → a ≡ b
int_same a b h = (Decides-int_eq a b).0 h

-- what is seen of a lawful cell, by its kind
signal_seen : (x : List ℕ) (l h : ℤ) → IsTrue (is_cell Signal l h) → declared x Signal l h ≡ declared_signal x
signal_seen x l h law =
    let (a, b) = both (int_eq l (pos 0)) (int_eq h (pos 0)) law in
    ap (λ (i : ℤ). declared x Signal i h) (int_same l (pos 0) a) ∙ ap (λ (i : ℤ). declared x Signal (pos 0) i) (int_same h (pos 0) b)

number_seen : (x : List ℕ) (l h : ℤ) → IsTrue (is_cell Number l h) → declared x Number l h ≡ declared_number x l h
number_seen x l h law = ap (λ (b : Bool). cond b (declared x Number l h) (declared_signal x)) (sym law)

local_cells : (x : List ℕ) (k : Kind) (l h : ℤ) (law : IsTrue (is_cell k l h)) (u : g.UnitPhrase)
    → unit_cells (local_phrase k (record { name = x; cell = record { kind = k; lo = l; hi = h; lawful = law } }) u) ≡ declared x k l h ∷ unit_cells u
local_cells x Signal l h law u = ap (λ (d : Declared). d ∷ unit_cells u) (sym (signal_seen x l h law))
local_cells x Number l h law u = ap (λ (d : Declared). d ∷ unit_cells u) (sym (number_seen x l h law))

unit_cells-as_unit : (a : g.AgentPhrase) → unit_cells (as_unit_phrase a) ≡ agent_cells a
unit_cells-as_unit (g.Only u) = refl
unit_cells-as_unit (g.Par u a) = refl

module _ (p : CoreProgram) where
  -- The cells of an agent's phrase are those of its new nodes.
  pub cells_kept : (a : Agent) (locals : List ℕ) (n : ℕ) → Sits p locals n a → agent_cells (agent_phrase p.cells a) ≡ map (seen_at p.cells) (news a)
  cells_kept Skip locals n s = refl
  cells_kept (Tell c) locals n s = refl
  cells_kept (Then c a) locals n s = unit_cells-as_unit (agent_phrase p.cells a) ∙ cells_kept a locals n (sits_then p locals n c a s)
  cells_kept (Else c a) locals n s = unit_cells-as_unit (agent_phrase p.cells a) ∙ cells_kept a locals n (sits_else p locals n c a s)
  cells_kept (Hence a) locals n s = unit_cells-as_unit (agent_phrase p.cells a) ∙ cells_kept a locals n (sits_hence p locals n a s)
  cells_kept (Next a) locals n s = unit_cells-as_unit (agent_phrase p.cells a) ∙ cells_kept a locals n (sits_next p locals n a s)
  cells_kept (Par l r) locals n s =
      ap (λ (q : List Declared). q ++ agent_cells (agent_phrase p.cells r)) (unit_cells-as_unit (agent_phrase p.cells l) ∙ cells_kept l locals n (sits_left p locals n l r s))
      ∙ ap (λ (q : List Declared). map (seen_at p.cells) (news l) ++ q) (cells_kept r locals (n + length (news l)) (sits_right p locals n l r s))
      ∙ sym (map-append (seen_at p.cells) (news l) (news r))
  cells_kept (New cell a) locals n s =
      let few = s.few in
      let same = sits_cell p locals n cell a s in
      let (d, found) = found_at p.cells cell (omega arith) in
      ap (λ (o : Option CellDecl). unit_cells (local_at o (as_unit_phrase (agent_phrase p.cells a)))) found
      ∙ local_cells d.name d.cell.kind d.cell.lo d.cell.hi d.cell.lawful (as_unit_phrase (agent_phrase p.cells a))
      ∙ ap (λ (q : List Declared). cell_view d ∷ q) (unit_cells-as_unit (agent_phrase p.cells a) ∙ cells_kept a (cell ∷ locals) (n + 1) (sits_new p locals n cell a s))
      ∙ ap (λ (o : Option CellDecl). option_map_or cell_view o (declared_signal []) ∷ map (seen_at p.cells) (news a)) (sym found)

  pub cells_many : (a : Agent) (locals : List ℕ) (n : ℕ) → Sits p locals n a → length (unit_cells (as_unit_phrase (agent_phrase p.cells a))) ≡ length (news a)
  cells_many a locals n s = ap length (unit_cells-as_unit (agent_phrase p.cells a) ∙ cells_kept a locals n s) ∙ length-map (news a) (seen_at p.cells)

-- DECLARATIONS

decl_cells : (x : List ℕ) (k : Kind) (l h : ℤ) (law : IsTrue (is_cell k l h)) (q : g.ProgramPhrase)
    → let d : CellDecl = record { name = x; cell = record { kind = k; lo = l; hi = h; lawful = law } } in (declared_cells (decl_phrase k d q) ≡ declared x k l h ∷ declared_cells q) × (program_cells (decl_phrase k d q) ≡ declared x k l h ∷ program_cells q)
decl_cells x Signal l h law q = let e = sym (signal_seen x l h law) in (ap (λ (d : Declared). d ∷ declared_cells q) e, ap (λ (d : Declared). d ∷ program_cells q) e)
decl_cells x Number l h law q = let e = sym (number_seen x l h law) in (ap (λ (d : Declared). d ∷ declared_cells q) e, ap (λ (d : Declared). d ∷ program_cells q) e)

decls_declared : (ds : List CellDecl) (a : g.AgentPhrase) → declared_cells (decls_phrase ds (g.Runs a)) ≡ map cell_view ds
decls_declared [] a = refl
decls_declared (d ∷ ds) a = (decl_cells d.name d.cell.kind d.cell.lo d.cell.hi d.cell.lawful (decls_phrase ds (g.Runs a))).0 ∙ ap (λ (q : List Declared). cell_view d ∷ q) (decls_declared ds a)

decls_all : (ds : List CellDecl) (a : g.AgentPhrase) → program_cells (decls_phrase ds (g.Runs a)) ≡ map cell_view ds ++ agent_cells a
decls_all [] a = refl
decls_all (d ∷ ds) a = (decl_cells d.name d.cell.kind d.cell.lo d.cell.hi d.cell.lawful (decls_phrase ds (g.Runs a))).1 ∙ ap (λ (q : List Declared). cell_view d ∷ q) (decls_all ds a)

-- the cells from n on, by their numbers
numbered : (cells : List CellDecl) (k n : ℕ) → n + k ≡ length cells → map (seen_at cells) (count_up n k) ≡ map cell_view (drop n cells)
numbered cells zero n e = ap (map cell_view) (sym (drop_all n cells (omega arith)))
numbered cells (suc k) n e =
    let (d, found) = found_at cells n (omega arith) in
    let here : d ≡ get_or cells n d = let f = slice_get-get_or cells n d (omega arith) in let g : Some d ≡ Some (get_or cells n d) = sym found ∙ f in cc in
    ap (λ (o : Option CellDecl). option_map_or cell_view o (declared_signal []) ∷ map (seen_at cells) (count_up (suc n) k)) found
    ∙ ap (λ (q : List Declared). cell_view d ∷ q) (numbered cells k (suc n) (omega arith))
    ∙ ap (map cell_view) (ap (λ (x : CellDecl). x ∷ drop (suc n) cells) here ∙ sym (drop-cons cells n d (omega arith)))

-- The cells of a program's phrase.
pub program_declared : (p : CoreProgram) → IsWellFormed p → p.declared ≡ length (declared_cells (program_phrase p))
program_declared p is =
    let within = is.limits.within in
    sym (ap length (decls_declared (take p.declared p.cells) (agent_phrase p.cells (agent_at p.nodes 0))) ∙ length-map (take p.declared p.cells) cell_view ∙ length-take-le p.declared p.cells within)

pub program_seen : (p : CoreProgram) → IsWellFormed p → HasGoodNames p → map cell_view p.cells ≡ program_cells (program_phrase p)
program_seen p is good =
    let within = is.limits.within in
    sym (
    decls_all (take p.declared p.cells) (agent_phrase p.cells (agent_at p.nodes 0))
    ∙ ap (λ (q : List Declared). map cell_view (take p.declared p.cells) ++ q)
    (cells_kept p (agent_at p.nodes 0) [] p.declared (root_sits p is good) ∙ ap (map (seen_at p.cells)) (root_news p is) ∙ numbered p.cells (length p.cells - p.declared) p.declared (omega arith))
    ∙ sym (map-append cell_view (take p.declared p.cells) (drop p.declared p.cells))
    ∙ ap (map cell_view) (take-append-drop p.declared p.cells)
    )
