-- In a program whose names have no fault, no cell is declared under a name that is in scope.
use Rattle.std.proofs.Common.{◌≡◌, ℕ, suc, ◌+◌, ◌<◌, ◌≤◌, ℤ, List, [], ◌∷◌, ◌++◌, length, Option, Some, None, Bool, true, false, refl, ap, sym, ◌∙◌, arith, subst, inl, inr, bytes_eq, length-append, append_assoc}
use Rattle.std.specs.Prelude.{◌⊎◌, map, if◌then◌else◌}
use Rattle.std.specs.Option.{option_map_or}
use Rattle.std.proofs.lemmas.Bool.{cases_lt}
use Rattle.std.proofs.lemmas.List.{append-nil}
use Rattle.std.proofs.lemmas.Slice.Eq.{bytes_eq-Decides}
use Rattle.token_system.specs.declared.cell.Kind.{Kind}
use Rattle.token_system.specs.declared.cell.Kind.TheVariants as kind
use Rattle.agent_core.specs.declared.node.CellDecl.{CellDecl}
use Rattle.agent_core.specs.Programs.{CoreProgram}
use Rattle.agent_core.specs.WellFormed.{IsAmong}
use Rattle.agent_core.specs.CellNames.{name_at}
use Rattle.program_grammar.specs.Phrases.{UnitPhrase, Tell, Braces, IfThen, IfElse, LocalSignal, LocalInt, AgentPhrase, Only, Par, NamesPhrase, LastName, MoreName, ItemsPhrase, LastItem, MoreItem, ProgramPhrase, Runs, Signals, Ints}
use Rattle.program_grammar.specs.Phrases as phrase
use Rattle.tdcc_reader.specs.Widths.{constraint_width, unit_width, agent_width, names_width, items_width}
use Rattle.tdcc_reader.specs.Scope.{Known, known, kind_in_scope, double_fault, declared_fault, domain_fault, item_fault, constraint_fault, unit_fault, agent_fault, names_known, names_fault, items_known, items_fault, fault_from, program_fault}
use Rattle.tdcc_reader.specs.Surfaces.{Placed, placed, Declared, declared_signal, declared_number, cell_view, unit_cells, agent_cells, unit_tree, agent_tree, names_cells, names_scope, items_cells, items_scope, tree_from, program_tree, declared_cells, program_cells}
use Rattle.tdcc_reader.proofs.Asks.{none_left, none_right}
use Rattle.surface_laws.specs.Surfaces.{AreFreshInTree}
use Rattle.surface_laws.proofs.PlacedNames.{seen_behind, whole_more, long_more}
use Rattle.surface_laws.proofs.ScopedPhrases.{parted, moved, longer}
use Rattle.surface_laws.proofs.CellNames.{number_name}

-- a name that is declared without fault is not in scope
not_double : (o : Option Kind) (at : ℕ) → double_fault o at ≡ None → o ≡ None
not_double None at e = refl
not_double (Some k) at e = cc

-- a name is still in scope under a newer one, which is in scope too
still_known : (x y : List ℕ) (k : Kind) (names : List Known) → kind_in_scope (known x k ∷ names) y ≡ None → kind_in_scope names y ≡ None
still_known x y k names e = go (bytes_eq x y) e
  where
    go : (b : Bool) → (if b then Some k else kind_in_scope names y) ≡ None → kind_in_scope names y ≡ None
    go true e = cc
    go false e = e

newly_known : (x y : List ℕ) (k : Kind) (names : List Known) → x ≡ y → kind_in_scope (known x k ∷ names) y ≡ None → ⊥
newly_known x y k names same e =
    let first : kind_in_scope (known x k ∷ names) y ≡ Some k = ap (λ (b : Bool). if b then Some k else kind_in_scope names y) ((bytes_eq-Decides x y).1 same) in cc

module _ (p : CoreProgram) where
  -- the cell behind those in front has its name
  name_behind : (front back : List Declared) (d : Declared) (n : ℕ) → map cell_view p.cells ≡ front ++ d ∷ back → length front ≡ n → name_at p.cells n ≡ d.name
  name_behind front back d n whole long =
      let (c, found, seen) = seen_behind p.cells front back d n whole long in
      ap (λ (o : Option CellDecl). option_map_or (λ (x : CellDecl). x.name) o []) found ∙ ap (λ (e : Declared). e.name) seen

  number_behind : (front back : List Declared) (x : List ℕ) (l h : ℤ) (n : ℕ) → map cell_view p.cells ≡ front ++ declared_number x l h ∷ back → length front ≡ n → name_at p.cells n ≡ x
  number_behind front back x l h n whole long = name_behind front back (declared_number x l h) n whole long ∙ number_name x l h

  -- the names of the first n cells and of these local ones are in scope
  record AreKnown (n : ℕ) (locals : List ℕ) (names : List Known) : Type 0 where
    each : (c : ℕ) → (c < n) ⊎ IsAmong locals c → kind_in_scope names (name_at p.cells c) ≡ None → ⊥

  -- so a cell whose name is declared without fault has none of their names
  is_fresh : (n : ℕ) (locals : List ℕ) (names : List Known) (x : List ℕ) (cell at : ℕ) → AreKnown n locals names → declared_fault x names at ≡ None → name_at p.cells cell ≡ x
      → (c : ℕ) → (c < n) ⊎ IsAmong locals c → name_at p.cells c ≡ name_at p.cells cell → ⊥
  is_fresh n locals names x cell at are e is c v same = are.each c v (ap (kind_in_scope names) (same ∙ is) ∙ not_double (kind_in_scope names x) at e)

  local_known : (n : ℕ) (locals : List ℕ) (names : List Known) (x : List ℕ) (k : Kind) (cell : ℕ) → AreKnown n locals names → name_at p.cells cell ≡ x → AreKnown n (cell ∷ locals) (known x k ∷ names)
  local_known n locals names x k cell are is = record { each = each }
    where
      each : (c : ℕ) → (c < n) ⊎ IsAmong (cell ∷ locals) c → kind_in_scope (known x k ∷ names) (name_at p.cells c) ≡ None → ⊥
      each c (inl h) none = are.each c (inl h) (still_known x (name_at p.cells c) k names none)
      each c (inr (inl e)) none = newly_known x (name_at p.cells c) k names (sym (ap (name_at p.cells) e ∙ is)) none
      each c (inr (inr h)) none = are.each c (inr h) (still_known x (name_at p.cells c) k names none)

  -- AGENTS

  abbrev UnitFresh : UnitPhrase → Type 0
  UnitFresh u = (locals : List ℕ) (names : List Known) (places : List Placed) (front back : List Declared) (n to : ℕ)
      → map cell_view p.cells ≡ front ++ (unit_cells u ++ back) → length front ≡ n → AreKnown p.declared locals names → unit_fault u names to ≡ None → AreFreshInTree p locals (unit_tree u places n)

  abbrev AgentFresh : AgentPhrase → Type 0
  AgentFresh a = (locals : List ℕ) (names : List Known) (places : List Placed) (front back : List Declared) (n to : ℕ)
      → map cell_view p.cells ≡ front ++ (agent_cells a ++ back) → length front ≡ n → AreKnown p.declared locals names → agent_fault a names to ≡ None → AreFreshInTree p locals (agent_tree a places n)

  mutual
    unit_fresh : (u : UnitPhrase) → UnitFresh u
    unit_fresh phrase.Skip locals names places front back n to whole long are e = tt
    unit_fresh (Tell c) locals names places front back n to whole long are e = tt
    unit_fresh (Braces a) locals names places front back n to whole long are e = agent_fresh a locals names places front back n (to + 1) whole long are e
    unit_fresh (IfThen c u) locals names places front back n to whole long are e =
        unit_fresh u locals names places front back n (to + 1 + constraint_width c + 1) whole long are (none_right (constraint_fault c names (to + 1)) (unit_fault u names (to + 1 + constraint_width c + 1)) e)
    unit_fresh (IfElse c u) locals names places front back n to whole long are e =
        unit_fresh u locals names places front back n (to + 1 + constraint_width c + 1) whole long are (none_right (constraint_fault c names (to + 1)) (unit_fault u names (to + 1 + constraint_width c + 1)) e)
    unit_fresh (LocalSignal x u) locals names places front back n to whole long are e =
        let is = name_behind front (unit_cells u ++ back) (declared_signal x) n whole long in
        let here = none_left (declared_fault x names (to + 2)) (unit_fault u (known x kind.Signal ∷ names) (to + 4)) e in
        let inside = none_right (declared_fault x names (to + 2)) (unit_fault u (known x kind.Signal ∷ names) (to + 4)) e in (
          is_fresh p.declared locals names x n (to + 2) are here is,
          unit_fresh u (n ∷ locals) (known x kind.Signal ∷ names) (placed x n ∷ places) (front ++ declared_signal x ∷ []) back (n + 1) (to + 4)
              (whole_more (map cell_view p.cells) front (unit_cells u ++ back) (declared_signal x) whole) (long_more front (declared_signal x) n long) (local_known p.declared locals names x kind.Signal n are is) inside,
        )
    unit_fresh (LocalInt x l h u) locals names places front back n to whole long are e =
        let is = number_behind front (unit_cells u ++ back) x l h n whole long in
        let here = none_left (declared_fault x names (to + 2)) (domain_fault l h (to + 2 + 2)) (none_left (item_fault x l h names (to + 2)) (unit_fault u (known x kind.Number ∷ names) (to + 8)) e) in
        let inside = none_right (item_fault x l h names (to + 2)) (unit_fault u (known x kind.Number ∷ names) (to + 8)) e in (
          is_fresh p.declared locals names x n (to + 2) are here is,
          unit_fresh u (n ∷ locals) (known x kind.Number ∷ names) (placed x n ∷ places) (front ++ declared_number x l h ∷ []) back (n + 1) (to + 8)
              (whole_more (map cell_view p.cells) front (unit_cells u ++ back) (declared_number x l h) whole) (long_more front (declared_number x l h) n long) (local_known p.declared locals names x kind.Number n are is) inside,
        )
    unit_fresh (phrase.Hence u) locals names places front back n to whole long are e = unit_fresh u locals names places front back n (to + 1) whole long are e
    unit_fresh (phrase.Next u) locals names places front back n to whole long are e = unit_fresh u locals names places front back n (to + 1) whole long are e
    unit_fresh (phrase.Always u) locals names places front back n to whole long are e = unit_fresh u locals names places front back n (to + 1) whole long are e
    unit_fresh (phrase.When c u) locals names places front back n to whole long are e =
        unit_fresh u locals names places front back n (to + 1 + constraint_width c + 1) whole long are (none_right (constraint_fault c names (to + 1)) (unit_fault u names (to + 1 + constraint_width c + 1)) e)
    unit_fresh (phrase.Watching a c) locals names places front back n to whole long are e =
        agent_fresh a locals names places front back n (to + 1) whole long are (none_left (agent_fault a names (to + 1)) (constraint_fault c names (to + 1 + agent_width a + 1)) e)
    unit_fresh (phrase.TimeOn a c) locals names places front back n to whole long are e =
        agent_fresh a locals names places front back n (to + 1) whole long are (none_left (agent_fault a names (to + 1)) (constraint_fault c names (to + 1 + agent_width a + 1)) e)

    agent_fresh : (a : AgentPhrase) → AgentFresh a
    agent_fresh (Only u) locals names places front back n to whole long are e = unit_fresh u locals names places front back n to whole long are e
    agent_fresh (Par u a) locals names places front back n to whole long are e = (
      unit_fresh u locals names places front (agent_cells a ++ back) n to (parted (map cell_view p.cells) front (unit_cells u) (agent_cells a) back whole) long are
          (none_left (unit_fault u names to) (agent_fault a names (to + unit_width u + 1)) e),
      agent_fresh a locals names places (front ++ unit_cells u) back (n + length (unit_cells u)) (to + unit_width u + 1) (moved (map cell_view p.cells) front (unit_cells u) (agent_cells a) back whole) (longer front (unit_cells u) n long) are
          (none_right (unit_fault u names to) (agent_fault a names (to + unit_width u + 1)) e),
    )

  -- DECLARATIONS

  -- no two of the first n cells have one name
  abbrev Distinct : ℕ → Type 0
  Distinct n = (c d : ℕ) → c < d → d < n → name_at p.cells c ≡ name_at p.cells d → ⊥

  -- they have not, and their names are in scope
  record Apart (n : ℕ) (names : List Known) : Type 0 where
    scope : AreKnown n [] names
    distinct : Distinct n

  none_apart : Apart 0 []
  none_apart = record { scope = record { each = none }; distinct = λ c d h k e. absurd (omega arith) }
    where
      none : (c : ℕ) → (c < 0) ⊎ IsAmong [] c → kind_in_scope [] (name_at p.cells c) ≡ None → ⊥
      none c (inl h) e = absurd (omega arith)
      none c (inr h) e = absurd h

  one_apart : (n : ℕ) (names : List Known) (x : List ℕ) (k : Kind) (at : ℕ) → Apart n names → declared_fault x names at ≡ None → name_at p.cells n ≡ x → Apart (n + 1) (known x k ∷ names)
  one_apart n names x k at are e is = record { scope = record { each = each }; distinct = distinct }
    where
      each : (c : ℕ) → (c < n + 1) ⊎ IsAmong [] c → kind_in_scope (known x k ∷ names) (name_at p.cells c) ≡ None → ⊥
      each c (inr h) none = absurd h
      each c (inl h) none = go (cases_lt c n)
        where
          go : (c < n) ⊎ (n ≤ c) → ⊥
          go (inl less) = are.scope.each c (inl less) (still_known x (name_at p.cells c) k names none)
          go (inr most) = let same : c ≡ n = omega arith in newly_known x (name_at p.cells c) k names (sym (ap (name_at p.cells) same ∙ is)) none

      distinct : Distinct (n + 1)
      distinct c d less h same = go (cases_lt d n)
        where
          go : (d < n) ⊎ (n ≤ d) → ⊥
          go (inl below) = are.distinct c d less below same
          go (inr most) = let last : d ≡ n = omega arith in is_fresh n [] names x n at are.scope e is c (inl (omega arith)) (same ∙ ap (name_at p.cells) last)

  names_apart : (ns : NamesPhrase) (names : List Known) (front back : List Declared) (n at : ℕ) → map cell_view p.cells ≡ front ++ (names_cells ns ++ back) → length front ≡ n → Apart n names → names_fault ns names at ≡ None
      → Apart (n + length (names_cells ns)) (names_known ns names)
  names_apart (LastName x) names front back n at whole long are e = one_apart n names x kind.Signal at are e (name_behind front back (declared_signal x) n whole long)
  names_apart (MoreName x ns) names front back n at whole long are e =
      let here = none_left (declared_fault x names at) (names_fault ns (known x kind.Signal ∷ names) (at + 2)) e in
      let behind = none_right (declared_fault x names at) (names_fault ns (known x kind.Signal ∷ names) (at + 2)) e in
      let more : n + 1 + length (names_cells ns) ≡ n + suc (length (names_cells ns)) = omega arith in
      subst (λ (m : ℕ). Apart m (names_known ns (known x kind.Signal ∷ names))) more
      (names_apart ns (known x kind.Signal ∷ names) (front ++ declared_signal x ∷ []) back (n + 1) (at + 2) (whole_more (map cell_view p.cells) front (names_cells ns ++ back) (declared_signal x) whole) (long_more front (declared_signal x) n long)
      (one_apart n names x kind.Signal at are here (name_behind front (names_cells ns ++ back) (declared_signal x) n whole long)) behind)

  items_apart : (is : ItemsPhrase) (names : List Known) (front back : List Declared) (n at : ℕ) → map cell_view p.cells ≡ front ++ (items_cells is ++ back) → length front ≡ n → Apart n names → items_fault is names at ≡ None
      → Apart (n + length (items_cells is)) (items_known is names)
  items_apart (LastItem x l h) names front back n at whole long are e =
      one_apart n names x kind.Number at are (none_left (declared_fault x names at) (domain_fault l h (at + 2)) e) (number_behind front back x l h n whole long)
  items_apart (MoreItem x l h is) names front back n at whole long are e =
      let here = none_left (declared_fault x names at) (domain_fault l h (at + 2)) (none_left (item_fault x l h names at) (items_fault is (known x kind.Number ∷ names) (at + 6)) e) in
      let behind = none_right (item_fault x l h names at) (items_fault is (known x kind.Number ∷ names) (at + 6)) e in
      let more : n + 1 + length (items_cells is) ≡ n + suc (length (items_cells is)) = omega arith in
      subst (λ (m : ℕ). Apart m (items_known is (known x kind.Number ∷ names))) more
      (items_apart is (known x kind.Number ∷ names) (front ++ declared_number x l h ∷ []) back (n + 1) (at + 6) (whole_more (map cell_view p.cells) front (items_cells is ++ back) (declared_number x l h) whole) (long_more front (declared_number x l h) n long)
      (one_apart n names x kind.Number at are here (number_behind front (items_cells is ++ back) x l h n whole long)) behind)

  fresh_from : (q : ProgramPhrase) (names : List Known) (places : List Placed) (front : List Declared) (n at : ℕ) → map cell_view p.cells ≡ front ++ program_cells q → length front ≡ n → n + length (declared_cells q) ≡ p.declared
      → Apart n names → fault_from q names at ≡ None → Distinct p.declared × AreFreshInTree p [] (tree_from q places n)
  fresh_from (Runs a) names places front n at whole long all are e =
      let last : n ≡ p.declared = omega arith in
      let apart : Apart p.declared names = subst (λ (m : ℕ). Apart m names) last are in
      (apart.distinct, agent_fresh a [] names places front [] n at (whole ∙ ap (λ k. front ++ k) (sym (append-nil (agent_cells a)))) long apart.scope e)
  fresh_from (Signals ns q) names places front n at whole long all are e =
      let l = length-append (names_cells ns) (declared_cells q) in
      fresh_from q (names_known ns names) (names_scope ns places n) (front ++ names_cells ns) (n + length (names_cells ns)) (at + 1 + names_width ns)
      (whole ∙ sym (append_assoc front (names_cells ns) (program_cells q))) (longer front (names_cells ns) n long) (omega arith)
      (names_apart ns names front (program_cells q) n (at + 1) whole long are (none_left (names_fault ns names (at + 1)) (fault_from q (names_known ns names) (at + 1 + names_width ns)) e))
      (none_right (names_fault ns names (at + 1)) (fault_from q (names_known ns names) (at + 1 + names_width ns)) e)
  fresh_from (Ints is q) names places front n at whole long all are e =
      let l = length-append (items_cells is) (declared_cells q) in
      fresh_from q (items_known is names) (items_scope is places n) (front ++ items_cells is) (n + length (items_cells is)) (at + 1 + items_width is)
      (whole ∙ sym (append_assoc front (items_cells is) (program_cells q))) (longer front (items_cells is) n long) (omega arith)
      (items_apart is names front (program_cells q) n (at + 1) whole long are (none_left (items_fault is names (at + 1)) (fault_from q (items_known is names) (at + 1 + items_width is)) e))
      (none_right (items_fault is names (at + 1)) (fault_from q (items_known is names) (at + 1 + items_width is)) e)

-- The names of a program's cells are fresh.
pub program_fresh : (q : ProgramPhrase) (p : CoreProgram) → map cell_view p.cells ≡ program_cells q → p.declared ≡ length (declared_cells q) → program_fault q ≡ None
    → ((c d : ℕ) → c < d → d < p.declared → name_at p.cells c ≡ name_at p.cells d → ⊥) × AreFreshInTree p [] (program_tree q)
program_fresh q p whole many e =
    fresh_from p q [] [] [] 0 0 whole refl (omega arith) (none_apart p) e
