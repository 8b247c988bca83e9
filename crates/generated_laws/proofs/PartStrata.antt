-- The table of a generated program meets all of its edges.
use Rattle.std.proofs.Common.{◌≡◌, ℕ, suc, ◌+◌, ◌<◌, ◌≤◌, Bool, true, false, List, [], ◌∷◌, ◌++◌, length, refl, sym, ap, ◌∙◌, subst, arith, append_assoc, length-append}
use Rattle.std.specs.Prelude.{flat_map, nat_eq, slice_index, if◌then◌else◌}
use Rattle.std.proofs.Math.Seq.{get_or-append_seam}
use Rattle.std.proofs.lemmas.Bool.{eqb-true, eq-eqb}
use Rattle.agent_core.specs.Agents.{Agent, Tell, Then, Else, Par, New, Hence}
use Rattle.agent_core.specs.Strata.{Each, Meets, agent_edges}
use Rattle.agent_core.specs.Listing as core
use Rattle.tdcc_reader.specs.Trees as tree
use Rattle.expansion_laws.specs.SymbolicAgents.{binders}
use Rattle.expansion_laws.specs.Numbering.{Binding, binding, bound_cell, bound_agent}
use Rattle.generated_laws.specs.GeneratedUnits.{GeneratedUnit, Follows, Defaults, Delays, Starts, Ends, Bounds}
use Rattle.generated_laws.specs.GeneratedSurfaces.{drawn_signal_on, part_tree}
use Rattle.generated_laws.specs.GeneratedTables.{part_levels, declared_levels}
use Rattle.generated_laws.proofs.Parts.{IsPart}
use Rattle.generated_laws.proofs.Rows.{row_passes, each_append}
use Rattle.generated_laws.proofs.PartSketches.{part_sketch, parts_sketch, part_levels_many}

-- AGENTS WITH A HIDDEN CELL

-- the agent of a `when` with the cell d, and that of a `watching` that ends with h
abbrev when_agent : ℕ → ℕ → ℕ → ℕ → Agent
when_agent n i j d = let x : Agent = Then (drawn_signal_on i) (Par (Else (drawn_signal_on d) (Par (Tell (drawn_signal_on j)) (Hence (Tell (drawn_signal_on j))))) (Hence (Tell (drawn_signal_on d)))) in New n (Par x (Hence x))

abbrev watch_agent : ℕ → ℕ → ℕ → ℕ → ℕ → Agent
watch_agent n i j h d =
    let w : Agent = Then (drawn_signal_on h) (Par (Tell (drawn_signal_on d)) (Hence (Tell (drawn_signal_on d)))) in
    let g : Agent = Else (drawn_signal_on i) (Else (drawn_signal_on d) (Tell (drawn_signal_on j))) in
    New n (Par (Par w (Hence w)) (Par g (Hence g)))

-- a hidden cell has its number, and hides no declared one
own_cell : (binder n : ℕ) → bound_cell (binding binder n ∷ []) binder ≡ n
own_cell binder n = ap (λ (b : Bool). if b then n else binder) (eq-eqb binder binder refl)

other_cell : (binder n i : ℕ) → i < binder → bound_cell (binding binder n ∷ []) i ≡ i
other_cell binder n i less = go (nat_eq binder i) refl
  where
    go : (b : Bool) → nat_eq binder i ≡ b → (if b then n else i) ≡ i
    go true e = let same = eqb-true binder i e in absurd (omega arith)
    go false e = refl

when_numbered : (m n i j : ℕ) → i < 32 → j < 32 → bound_agent [] n (part_sketch m (Starts i j)) ≡ when_agent n i j n
when_numbered m n i j fi fj =
    let scope : List Binding = binding (40 + m) n ∷ [] in
    ap (λ (x : ℕ). when_agent n x (bound_cell scope j) (bound_cell scope (40 + m))) (other_cell (40 + m) n i (omega arith))
    ∙ ap (λ (x : ℕ). when_agent n i x (bound_cell scope (40 + m))) (other_cell (40 + m) n j (omega arith))
    ∙ ap (when_agent n i j) (own_cell (40 + m) n)

watch_numbered : (m n i j h : ℕ) → i < 32 → j < 32 → h < 32 → bound_agent [] n (part_sketch m (Ends i j h)) ≡ watch_agent n i j h n
watch_numbered m n i j h fi fj fh =
    let scope : List Binding = binding (40 + m) n ∷ [] in
    ap (λ (x : ℕ). watch_agent n x (bound_cell scope j) (bound_cell scope h) (bound_cell scope (40 + m))) (other_cell (40 + m) n i (omega arith))
    ∙ ap (λ (x : ℕ). watch_agent n i x (bound_cell scope h) (bound_cell scope (40 + m))) (other_cell (40 + m) n j (omega arith))
    ∙ ap (λ (x : ℕ). watch_agent n i j x (bound_cell scope (40 + m))) (other_cell (40 + m) n h (omega arith))
    ∙ ap (watch_agent n i j h) (own_cell (40 + m) n)

-- LEVELS

pub signal_level : (rest : List ℕ) (j : ℕ) → j < 32 → slice_index (declared_levels ++ rest) j ≡ j
unfolding declared_levels
signal_level rest j few = eqb-true (slice_index (declared_levels ++ rest) j) j (row_passes (λ k. nat_eq (slice_index (declared_levels ++ rest) k) k) 0 32 refl j (omega arith) (omega arith))

pub number_level : (rest : List ℕ) (i : ℕ) → i < 8 → slice_index (declared_levels ++ rest) (32 + i) ≡ 32
unfolding declared_levels
number_level rest i few = eqb-true (slice_index (declared_levels ++ rest) (32 + i)) 32 (row_passes (λ k. nat_eq (slice_index (declared_levels ++ rest) (32 + k)) 32) 0 8 refl i (omega arith) (omega arith))

-- PARTS

module _ (table : List ℕ) (signals : (j : ℕ) → j < 32 → slice_index table j ≡ j) (numbers : (i : ℕ) → i < 8 → slice_index table (32 + i) ≡ 32) where
  abbrev level : ℕ → ℕ
  level c = slice_index table c

  -- the table meets the edges of the agent
  abbrev Met : ℕ → Agent → Type 0
  Met k a = Each (Meets table) (agent_edges k a [])

  not_after : (i j : ℕ) → i < j → j < 32 → level i + 0 ≤ level j
  not_after i j less few = let a = signals i (omega arith) in let b = signals j few in omega arith

  earlier : (i j : ℕ) → i < j → j < 32 → level i + 1 ≤ level j
  earlier i j less few = let a = signals i (omega arith) in let b = signals j few in omega arith

  when_met : (k n i j : ℕ) → level n ≡ 0 → i < j → j < 32 → Met k (when_agent n i j n)
  when_met k n i j hidden less few =
      let ask = not_after i j less few in
      let once : level n + 1 ≤ level j = let b = signals j few in omega arith in
      (ask, (once, (ask, (once, tt))))

  watch_met : (k n i j h : ℕ) → level n ≡ h → i < j → h < j → j < 32 → Met k (watch_agent n i j h n)
  watch_met k n i j h hidden less stop few =
      let stopped : level h + 0 ≤ level n = let a = signals h (omega arith) in omega arith in
      let ask = earlier i j less few in
      let alive : level n + 1 ≤ level j = let b = signals j few in omega arith in
      (stopped, (stopped, (ask, (alive, (ask, (alive, tt))))))

  part_met : (u : GeneratedUnit) → IsPart u → (front rest : List ℕ) → table ≡ front ++ (part_levels u ++ rest) → (m n k : ℕ) → n ≡ length front → Met k (bound_agent [] n (part_sketch m u))
  part_met (Follows i j) (few, less) front rest e m n k long = let ask = not_after i j less few in (ask, (ask, tt))
  part_met (Defaults i j) (few, less) front rest e m n k long = let ask = earlier i j less few in (ask, (ask, tt))
  part_met (Delays i j) (few, less) front rest e m n k long = tt
  part_met (Starts i j) (few, less) front rest e m n k long =
      let hidden : level n ≡ 0 = ap (λ (t : List ℕ). slice_index t n) e ∙ ap (slice_index (front ++ 0 ∷ rest)) long ∙ get_or-append_seam front 0 rest 0 in
      subst (Met k) (sym (when_numbered m n i j (omega arith) few)) (when_met k n i j hidden less few)
  part_met (Ends i j h) (few, less, stop) front rest e m n k long =
      let hidden : level n ≡ h = ap (λ (t : List ℕ). slice_index t n) e ∙ ap (slice_index (front ++ h ∷ rest)) long ∙ get_or-append_seam front h rest 0 in
      subst (Met k) (sym (watch_numbered m n i j h (omega arith) few (omega arith))) (watch_met k n i j h hidden less stop few)
  part_met (Bounds i x b) (fi, fx, fb) front rest e m n k long =
      let ask : level i + 0 ≤ level (32 + x) = let a = signals i fi in let c = numbers x fx in omega arith in
      (ask, (ask, tt))

  -- The table meets the edges of the parts, of which the hidden cells are numbered from n drawn_signal_on.
  pub parts_met : (us : List GeneratedUnit) → Each IsPart us → (front : List ℕ) → table ≡ front ++ flat_map part_levels us → (m n k : ℕ) → n ≡ length front → Met k (bound_agent [] n (parts_sketch m us))
  parts_met [] all front e m n k long = tt
  parts_met (u ∷ []) all front e m n k long = part_met u all.0 front [] e m n k long
  parts_met (u ∷ v ∷ vs) all front e m n k long =
      let rest : List ℕ = flat_map part_levels (v ∷ vs) in
      let many = part_levels_many u (suc m) in
      let left : Agent = bound_agent [] n (part_sketch (suc m) u) in
      let next : ℕ = n + length (binders (part_sketch (suc m) u)) in
      let after : ℕ = suc m + tree.form_count (part_tree u) in
      each_append (Meets table) (agent_edges (suc k) left []) (agent_edges (suc k + core.size left) (bound_agent [] next (parts_sketch after (v ∷ vs))) [])
      (part_met u all.0 front rest e (suc m) n (suc k) long)
      (parts_met (v ∷ vs) all.1 (front ++ part_levels u) (e ∙ sym (append_assoc front (part_levels u) rest)) after next (suc k + core.size left) (omega (arith, length-append front (part_levels u))))
