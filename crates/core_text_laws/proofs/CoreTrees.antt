-- The tree of a program's phrase is that of the program's agent.
use Rattle.std.proofs.Common.{◌≡◌, ◌⊎◌, inl, inr, ℕ, suc, ◌+◌, ◌<◌, ◌≤◌, Bool, true, false, List, [], ◌∷◌, ◌++◌, length, take, Option, Some, refl, sym, ap, ◌∙◌, subst, arith, bytes_eq}
use Rattle.std.specs.Prelude.{slice_get, if◌then◌else◌}
use Rattle.std.specs.Option.{option_map_or}
use Rattle.std.proofs.lemmas.Bool.{cases_lt}
use Rattle.std.proofs.lemmas.List.{length-take-le}
use Rattle.std.proofs.lemmas.Slice.Eq.{bytes_eq-Decides}
use Rattle.token_system.specs.declared.cell.Kind.{Kind}
use Rattle.token_system.specs.declared.cell.Kind.TheVariants.{Signal, Number}
use Rattle.token_system.specs.declared.cell.Token.{Token}
use Rattle.token_system.specs.declared.cell.Token.TheVariants as token
use Rattle.program_grammar.specs.Phrases as g
use Rattle.agent_core.specs.declared.node.CellDecl.{CellDecl}
use Rattle.agent_core.specs.Agents.{Agent, Constraint, Skip, Tell, Then, Else, Par, New, Hence, Next, agent_at}
use Rattle.agent_core.specs.Programs.{CoreProgram}
use Rattle.agent_core.specs.WellFormed.{IsWellFormed, AreInScope, IsConstraint}
use Rattle.tdcc_reader.specs.Trees as tree
use Rattle.tdcc_reader.specs.Surfaces.{Placed, placed, cell_in_scope, constraint_of, token_tokens, unit_tree, agent_tree, unit_cells, tree_from, program_tree}
use Rattle.core_reader.specs.Trees.{tree_of}
use Rattle.core_text.specs.CoreTexts.{name_at}
use Rattle.core_text.specs.GoodNames.{IsVisible, HasGoodNames}
use Rattle.core_reader.proofs.LocalCells.{news}
use Rattle.core_text_laws.proofs.Sitting.{Sits, sits_then, sits_else, sits_hence, sits_next, sits_left, sits_right, sits_cell, sits_new, root_sits}
use Rattle.core_text_laws.proofs.CorePhrases.{token_phrase, ask_phrase, as_unit_phrase, local_phrase, local_at, agent_phrase, decl_phrase, decls_phrase, program_phrase}
use Rattle.core_text_laws.proofs.CoreCells.{found_at, taken, cells_many}

-- NAMES

-- the newest name is found, and an older one under it
found_first : (x y : List ℕ) (n : ℕ) (scope : List Placed) → x ≡ y → cell_in_scope (placed x n ∷ scope) y ≡ n
found_first x y n scope e = ap (λ (b : Bool). if b then n else cell_in_scope scope y) ((bytes_eq-Decides x y).1 e)

found_under : (x y : List ℕ) (n : ℕ) (scope : List Placed) → (x ≡ y → ⊥) → cell_in_scope (placed x n ∷ scope) y ≡ cell_in_scope scope y
found_under x y n scope differ = go (bytes_eq x y) (bytes_eq-Decides x y).0
  where
    go : (b : Bool) → (b ≡ true → x ≡ y) → (if b then n else cell_in_scope scope y) ≡ cell_in_scope scope y
    go true h = absurd (differ (h refl))
    go false h = refl

-- each visible cell is found by its name
pub record ScopeFits (p : CoreProgram) (locals : List ℕ) (scope : List Placed) : Type 0 where
  pub each : (c : ℕ) → IsVisible p locals c → cell_in_scope scope (name_at p.cells c) ≡ c

module _ (p : CoreProgram) where
  -- the name of a cell that stands in the program
  pub named : (n : ℕ) (d : CellDecl) → slice_get p.cells n ≡ Some d → name_at p.cells n ≡ d.name
  named n d e = ap (λ (o : Option CellDecl). option_map_or (λ (x : CellDecl). x.name) o []) e

  local_fits : (locals : List ℕ) (scope : List Placed) (cell n : ℕ) (d : CellDecl) → ScopeFits p locals scope → cell ≡ n → slice_get p.cells cell ≡ Some d
      → ((c : ℕ) → IsVisible p locals c → name_at p.cells c ≡ name_at p.cells cell → ⊥) → ScopeFits p (cell ∷ locals) (placed d.name n ∷ scope)
  local_fits locals scope cell n d fits same found fresh = record { each = each }
    where
      old : (c : ℕ) → IsVisible p locals c → cell_in_scope (placed d.name n ∷ scope) (name_at p.cells c) ≡ c
      old c v = found_under d.name (name_at p.cells c) n scope (λ e. fresh c v (sym e ∙ sym (named cell d found))) ∙ fits.each c v

      each : (c : ℕ) → IsVisible p (cell ∷ locals) c → cell_in_scope (placed d.name n ∷ scope) (name_at p.cells c) ≡ c
      each c (inl h) = old c (inl h)
      each c (inr (inr h)) = old c (inr h)
      each c (inr (inl e)) = found_first d.name (name_at p.cells c) n scope (sym (ap (name_at p.cells) e ∙ named cell d found)) ∙ sym (e ∙ same)

  -- CONSTRAINTS

  token_kept : (scope : List Placed) (c : ℕ) (t : Token) → cell_in_scope scope (name_at p.cells c) ≡ c → token_tokens scope (token_phrase (name_at p.cells c) t) ≡ (c, t) ∷ []
  token_kept scope c token.On e = ap (λ (k : ℕ). (k, token.On) ∷ []) e
  token_kept scope c token.Off e = ap (λ (k : ℕ). (k, token.Off) ∷ []) e
  token_kept scope c token.Clash e = ap (λ (k : ℕ). (k, token.Clash) ∷ []) e
  token_kept scope c (token.AtLeast i) e = ap (λ (k : ℕ). (k, token.AtLeast i) ∷ []) e
  token_kept scope c (token.AtMost i) e = ap (λ (k : ℕ). (k, token.AtMost i) ∷ []) e

  ask_kept : (locals : List ℕ) (scope : List Placed) (c : Constraint) → ScopeFits p locals scope → 1 ≤ length c → AreInScope p locals c → constraint_of scope (ask_phrase p.cells c) ≡ c
  ask_kept locals scope [] fits some are = absurd (omega arith)
  ask_kept locals scope (x ∷ []) fits some are = token_kept scope x.0 x.1 (fits.each x.0 are.0.visible)
  ask_kept locals scope (x ∷ y ∷ ys) fits some are =
      ap (λ (q : Constraint). q ++ constraint_of scope (ask_phrase p.cells (y ∷ ys))) (token_kept scope x.0 x.1 (fits.each x.0 are.0.visible))
      ∙ ap (λ (q : Constraint). x ∷ q) (ask_kept locals scope (y ∷ ys) fits (omega arith) are.1)

  constraint_kept : (locals : List ℕ) (scope : List Placed) (c : Constraint) → ScopeFits p locals scope → IsConstraint p locals c → constraint_of scope (ask_phrase p.cells c) ≡ c
  constraint_kept locals scope c fits is = ask_kept locals scope c fits is.some is.tokens

  -- TREES

  unit_tree-as_unit : (a : g.AgentPhrase) (scope : List Placed) (n : ℕ) → unit_tree (as_unit_phrase a) scope n ≡ agent_tree a scope n
  unit_tree-as_unit (g.Only u) scope n = refl
  unit_tree-as_unit (g.Par u a) scope n = refl

  local_tree : (k : Kind) (d : CellDecl) (u : g.UnitPhrase) (scope : List Placed) (n : ℕ) → unit_tree (local_phrase k d u) scope n ≡ tree.New n (unit_tree u (placed d.name n ∷ scope) (n + 1))
  local_tree Signal d u scope n = refl
  local_tree Number d u scope n = refl

  -- The tree of an agent's phrase is the agent's.
  pub tree_kept : (a : Agent) (locals : List ℕ) (n : ℕ) (scope : List Placed) → Sits p locals n a → ScopeFits p locals scope → agent_tree (agent_phrase p.cells a) scope n ≡ tree_of a
  tree_kept Skip locals n scope s fits = refl
  tree_kept (Tell c) locals n scope s fits = ap tree.Tell (constraint_kept locals scope c fits s.scoped)
  tree_kept (Then c a) locals n scope s fits =
      ap (λ q. tree.Then q (unit_tree (as_unit_phrase (agent_phrase p.cells a)) scope n)) (constraint_kept locals scope c fits s.scoped.0)
      ∙ ap (tree.Then c) (unit_tree-as_unit (agent_phrase p.cells a) scope n ∙ tree_kept a locals n scope (sits_then p locals n c a s) fits)
  tree_kept (Else c a) locals n scope s fits =
      ap (λ q. tree.Else q (unit_tree (as_unit_phrase (agent_phrase p.cells a)) scope n)) (constraint_kept locals scope c fits s.scoped.0)
      ∙ ap (tree.Else c) (unit_tree-as_unit (agent_phrase p.cells a) scope n ∙ tree_kept a locals n scope (sits_else p locals n c a s) fits)
  tree_kept (Hence a) locals n scope s fits = ap tree.Hence (unit_tree-as_unit (agent_phrase p.cells a) scope n ∙ tree_kept a locals n scope (sits_hence p locals n a s) fits)
  tree_kept (Next a) locals n scope s fits = ap tree.Next (unit_tree-as_unit (agent_phrase p.cells a) scope n ∙ tree_kept a locals n scope (sits_next p locals n a s) fits)
  tree_kept (Par l r) locals n scope s fits =
      ap (λ q. tree.Par q (agent_tree (agent_phrase p.cells r) scope (n + length (unit_cells (as_unit_phrase (agent_phrase p.cells l)))))) (unit_tree-as_unit (agent_phrase p.cells l) scope n ∙ tree_kept l locals n scope (sits_left p locals n l r s) fits)
      ∙ ap (λ (k : ℕ). tree.Par (tree_of l) (agent_tree (agent_phrase p.cells r) scope (n + k))) (cells_many p l locals n (sits_left p locals n l r s))
      ∙ ap (tree.Par (tree_of l)) (tree_kept r locals (n + length (news l)) scope (sits_right p locals n l r s) fits)
  tree_kept (New cell a) locals n scope s fits =
      let few = s.few in
      let same = sits_cell p locals n cell a s in
      let (d, found) = found_at p.cells cell (omega arith) in
      ap (λ (o : Option CellDecl). unit_tree (local_at o (as_unit_phrase (agent_phrase p.cells a))) scope n) found
      ∙ local_tree d.cell.kind d (as_unit_phrase (agent_phrase p.cells a)) scope n
      ∙ ap (tree.New n) (unit_tree-as_unit (agent_phrase p.cells a) (placed d.name n ∷ scope) (n + 1)
      ∙ tree_kept a (cell ∷ locals) (n + 1) (placed d.name n ∷ scope) (sits_new p locals n cell a s) (local_fits locals scope cell n d fits same found s.fresh.0))
      ∙ ap (λ (k : ℕ). tree.New k (tree_of a)) (sym same)

-- DECLARATIONS

-- the names in scope behind these declarations
abbrev decls_scope : List CellDecl → List Placed → ℕ → List Placed
decls_scope [] scope n = scope
decls_scope (d ∷ ds) scope n = decls_scope ds (placed d.name n ∷ scope) (n + 1)

decl_tree : (k : Kind) (d : CellDecl) (q : g.ProgramPhrase) (scope : List Placed) (n : ℕ) → tree_from (decl_phrase k d q) scope n ≡ tree_from q (placed d.name n ∷ scope) (n + 1)
decl_tree Signal d q scope n = refl
decl_tree Number d q scope n = refl

decls_tree : (ds : List CellDecl) (a : g.AgentPhrase) (scope : List Placed) (n : ℕ) → tree_from (decls_phrase ds (g.Runs a)) scope n ≡ agent_tree a (decls_scope ds scope n) (n + length ds)
decls_tree [] a scope n = ap (agent_tree a scope) (let e : n ≡ n + 0 = omega arith in e)
decls_tree (d ∷ ds) a scope n =
    decl_tree d.cell.kind d (decls_phrase ds (g.Runs a)) scope n ∙ decls_tree ds a (placed d.name n ∷ scope) (n + 1)
    ∙ ap (agent_tree a (decls_scope ds (placed d.name n ∷ scope) (n + 1))) (let e : n + 1 + length ds ≡ n + suc (length ds) = omega arith in e)

module _ (p : CoreProgram) (good : HasGoodNames p) where
  -- the cells below n are found by their names
  abbrev Below : ℕ → List Placed → Type 0
  Below n scope = (c : ℕ) → c < n → cell_in_scope scope (name_at p.cells c) ≡ c

  one_below : (n : ℕ) (d : CellDecl) (scope : List Placed) → slice_get p.cells n ≡ Some d → n < p.declared → Below n scope → Below (n + 1) (placed d.name n ∷ scope)
  one_below n d scope found lt below c h = go (cases_lt c n)
    where
      go : (c < n) ⊎ (n ≤ c) → cell_in_scope (placed d.name n ∷ scope) (name_at p.cells c) ≡ c
      go (inl less) = found_under d.name (name_at p.cells c) n scope (λ e. good.declared c n less lt (sym e ∙ sym (named p n d found))) ∙ below c less
      go (inr most) =
          let same : c ≡ n = omega arith in
          found_first d.name (name_at p.cells c) n scope (sym (ap (name_at p.cells) same ∙ named p n d found)) ∙ sym same

  all_below : (ds : List CellDecl) (n : ℕ) (scope : List Placed) → ((i : ℕ) (d : CellDecl) → slice_get ds i ≡ Some d → slice_get p.cells (n + i) ≡ Some d) → n + length ds ≤ p.declared → Below n scope
      → Below (n + length ds) (decls_scope ds scope n)
  all_below [] n scope are few below c h = below c (omega arith)
  all_below (d ∷ ds) n scope are few below c h =
      let first : slice_get p.cells n ≡ Some d = let e : n + 0 ≡ n = omega arith in subst (λ (k : ℕ). slice_get p.cells k ≡ Some d) e (are 0 d refl) in
      all_below ds (n + 1) (placed d.name n ∷ scope)
      (λ i x e. let f : n + suc i ≡ n + 1 + i = omega arith in subst (λ (k : ℕ). slice_get p.cells k ≡ Some x) f (are (suc i) x e))
      (omega arith) (one_below n d scope first (omega arith) below) c (omega arith)

  -- The tree of a program's phrase.
  pub program_kept : IsWellFormed p → tree_of (agent_at p.nodes 0) ≡ program_tree (program_phrase p)
  program_kept is =
      let ds : List CellDecl = take p.declared p.cells in
      let within = is.limits.within in
      let many : length ds ≡ p.declared = length-take-le p.declared p.cells within in
      let fits : ScopeFits p [] (decls_scope ds [] 0) = record { each = λ c v. visible ds many c v } in
      sym (
      decls_tree ds (agent_phrase p.cells (agent_at p.nodes 0)) [] 0
      ∙ ap (agent_tree (agent_phrase p.cells (agent_at p.nodes 0)) (decls_scope ds [] 0)) (let e : 0 + length ds ≡ p.declared = omega arith in e)
      ∙ tree_kept p (agent_at p.nodes 0) [] p.declared (decls_scope ds [] 0) (root_sits p is good) fits
      )
    where
      visible : (ds : List CellDecl) → length ds ≡ p.declared → (c : ℕ) → IsVisible p [] c → cell_in_scope (decls_scope (take p.declared p.cells) [] 0) (name_at p.cells c) ≡ c
      visible ds many c (inr h) = absurd h
      visible ds many c (inl h) =
          let long : length (take p.declared p.cells) ≡ p.declared = length-take-le p.declared p.cells is.limits.within in
          all_below (take p.declared p.cells) 0 [] (λ i d e. let f : i ≡ 0 + i = omega arith in subst (λ (k : ℕ). slice_get p.cells k ≡ Some d) f (taken p.cells p.declared i d e)) (omega arith) (λ k lt. absurd (omega arith)) c (omega arith)
