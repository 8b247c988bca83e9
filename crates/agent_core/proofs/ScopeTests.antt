-- The test of a node's scope, by the kind of the node.
use Rattle.std.proofs.Common.{◌≡◌, ℕ, ◌+◌, ◌<◌, ◌≤◌, Bool, true, false, List, ◌∷◌, Some, None, length, drop, get_or, refl, sym, ap, ◌∙◌, subst, ◌⊎◌, inl, inr}
use Rattle.std.specs.Prelude.{◌↔◌, IsTrue, slice_get}
use Rattle.std.proofs.lemmas.Bool.{false≢true}
use Rattle.std.proofs.lemmas.List.{drop_more, drop_all}
use Rattle.std.proofs.lemmas.Option.{slice_get-get_or}
use Rattle.token_system.specs.declared.cell.Token.{Token}
use Rattle.token_system.specs.Tokens.{Fits, token_fits}
use Rattle.agent_core.specs.declared.node.CellDecl.{CellDecl}
use Rattle.agent_core.specs.declared.node.Node.{Node}
use Rattle.agent_core.specs.declared.node.Node.TheVariants as nodes
use Rattle.agent_core.specs.Programs.{CoreProgram}
use Rattle.agent_core.specs.Agents.{Agent, Constraint, agent_of, agent_at}
use Rattle.agent_core.specs.Listing.{IsListing}
use Rattle.agent_core.specs.WellFormed.{IsAmong, IsInScope, AreInScope, IsConstraint, Scoped}
use Rattle.agent_core.proofs.Parts.{IsPart}
use Rattle.agent_core.proofs.Places.{IsNodeAt, node_of_listing}

-- a token of a visible cell
pub token_scoped : (p : CoreProgram) (locals : List ℕ) (cell : ℕ) (t : Token) → (cell < p.declared) ⊎ IsAmong locals cell → (decl : CellDecl) → slice_get p.cells cell ≡ Some decl
    → (b : Bool) → b ≡ token_fits decl.cell t → IsTrue b ↔ IsInScope p locals (cell, t)
token_scoped p locals cell t visible decl found b e = (
  λ h. record { visible = visible; decl = decl; found = found; fits = sym e ∙ h },
  λ scope. let f = scope.found in let same : scope.decl ≡ decl = cc in e ∙ subst (λ (x : CellDecl). Fits x.cell t) same scope.fits,
)

-- a token of no cell
pub no_cell : (p : CoreProgram) (locals : List ℕ) (cell : ℕ) (t : Token) → slice_get p.cells cell ≡ None → IsTrue false ↔ IsInScope p locals (cell, t)
no_cell p locals cell t none = (λ h. absurd (false≢true h), λ scope. absurd (let f = scope.found in cc))

-- tokens read one after another, where all are in scope if those that are left are
module _ (p : CoreProgram) (locals : List ℕ) (items : Constraint) (i : ℕ) (all : AreInScope p locals (drop i items) ↔ AreInScope p locals items) where
  left_over : (pair : ℕ × Token) → i < length items → (IsInScope p locals (get_or items i pair) × AreInScope p locals (drop (i + 1) items)) ↔ AreInScope p locals items
  left_over pair lt = subst (λ (xs : Constraint). AreInScope p locals xs ↔ AreInScope p locals items) (drop_more items i pair lt) all

  pub ask_goes_on : (pair : ℕ × Token) → i < length items → IsInScope p locals (get_or items i pair) → AreInScope p locals (drop (i + 1) items) ↔ AreInScope p locals items
  ask_goes_on pair lt here = let t = left_over pair lt in (λ h. t.0 (here, h), λ h. (t.1 h).1)

  pub ask_fails : (pair : ℕ × Token) → i < length items → (IsInScope p locals (get_or items i pair) → ⊥) → (c : Constraint) → items ≡ c → IsTrue false ↔ IsConstraint p locals c
  ask_fails pair lt here c e = (
    λ h. absurd (false≢true h),
    λ h. absurd (here ((left_over pair lt).1 (subst (AreInScope p locals) (sym e) h.tokens)).0),
  )

  pub ask_ends : length items ≤ i → (c : Constraint) → items ≡ c → 1 ≤ length c → length c ≤ 16 → IsTrue true ↔ IsConstraint p locals c
  ask_ends le c e some few = (
    λ h. record { some = some; few = few; tokens = subst (AreInScope p locals) e (all.0 (subst (AreInScope p locals) (sym (drop_all i items le)) tt)) },
    λ h. refl,
  )

-- where the first of two facts was tested and holds, the test of the second tests both
second_tests : {P Q : Type 0} (b : Bool) → P → (IsTrue b ↔ Q) → IsTrue b ↔ (P × Q)
second_tests b p t = (λ h. (p, t.0 h), λ h. t.1 h.1)

-- where the first was tested and does not hold, its test tests both
first_tests : {P Q : Type 0} (b : Bool) → b ≡ false → (IsTrue b ↔ P) → IsTrue b ↔ (P × Q)
first_tests b e t = (λ h. absurd (false≢true (sym e ∙ h)), λ h. t.1 h.0)

-- where a read of the node list finds a node
module _ (p : CoreProgram) (w : IsListing p.nodes) (n : ℕ) (lt : n < length p.nodes) (d : Node) where
  pub node_read : (node : Node) → get_or p.nodes n d ≡ node → slice_get p.nodes n ≡ Some node
  node_read node e = slice_get-get_or p.nodes n d lt ∙ ap Some e

  node_facts : (node : Node) → get_or p.nodes n d ≡ node → IsNodeAt p.nodes n node
  node_facts node e = node_of_listing p.nodes w n node (node_read node e)

  -- a number of a part is within the list, and greater
  abbrev IsBehind : ℕ → Type 0
  IsBehind m = (n < m) × (m < length p.nodes)

  behind : (k m : ℕ) → IsPart p.nodes n k m → IsBehind m
  behind k m h = (h.above, h.inside)

  pub ask_body-behind : (c : Constraint) (body : ℕ) → (get_or p.nodes n d ≡ nodes.Then c body) ⊎ (get_or p.nodes n d ≡ nodes.Else c body) → IsBehind body
  ask_body-behind c body (inl e) = behind _ body (node_facts (nodes.Then c body) e).parts
  ask_body-behind c body (inr e) = behind _ body (node_facts (nodes.Else c body) e).parts

  pub later_body-behind : (body : ℕ) → (get_or p.nodes n d ≡ nodes.Hence body) ⊎ (get_or p.nodes n d ≡ nodes.Next body) → IsBehind body
  later_body-behind body (inl e) = behind _ body (node_facts (nodes.Hence body) e).parts
  later_body-behind body (inr e) = behind _ body (node_facts (nodes.Next body) e).parts

  pub new_body-behind : (cell body : ℕ) → get_or p.nodes n d ≡ nodes.New cell body → IsBehind body
  new_body-behind cell body e = behind _ body (node_facts (nodes.New cell body) e).parts

  pub left-behind : (left right : ℕ) → get_or p.nodes n d ≡ nodes.Par left right → IsBehind left
  left-behind left right e = behind _ left (node_facts (nodes.Par left right) e).parts.0

  pub right-behind : (left right : ℕ) → get_or p.nodes n d ≡ nodes.Par left right → IsBehind right
  right-behind left right e = behind _ right (node_facts (nodes.Par left right) e).parts.1

  -- what tests the tree of a node tests that under its number
  tests_tree : (locals : List ℕ) (b : Bool) (node : Node) → get_or p.nodes n d ≡ node → (IsTrue b ↔ Scoped p locals (agent_of (agent_at p.nodes) node)) → IsTrue b ↔ Scoped p locals (agent_at p.nodes n)
  tests_tree locals b node e t = subst (λ (a : Agent). IsTrue b ↔ Scoped p locals a) (sym (node_facts node e).tree) t

  pub skip_scoped : (locals : List ℕ) → get_or p.nodes n d ≡ nodes.Skip → IsTrue true ↔ Scoped p locals (agent_at p.nodes n)
  skip_scoped locals e = tests_tree locals true nodes.Skip e (λ h. tt, λ h. refl)

  pub tell_scoped : (locals : List ℕ) (b : Bool) (c : Constraint) → get_or p.nodes n d ≡ nodes.Tell c → (IsTrue b ↔ IsConstraint p locals c) → IsTrue b ↔ Scoped p locals (agent_at p.nodes n)
  tell_scoped locals b c e t = tests_tree locals b (nodes.Tell c) e t

  pub ask_scoped : (locals : List ℕ) (b : Bool) (c : Constraint) (body : ℕ) → (get_or p.nodes n d ≡ nodes.Then c body) ⊎ (get_or p.nodes n d ≡ nodes.Else c body)
      → IsConstraint p locals c → (IsTrue b ↔ Scoped p locals (agent_at p.nodes body)) → IsTrue b ↔ Scoped p locals (agent_at p.nodes n)
  ask_scoped locals b c body (inl e) h t = tests_tree locals b (nodes.Then c body) e (second_tests b h t)
  ask_scoped locals b c body (inr e) h t = tests_tree locals b (nodes.Else c body) e (second_tests b h t)

  pub ask_not_scoped : (locals : List ℕ) (b : Bool) (c : Constraint) (body : ℕ) → (get_or p.nodes n d ≡ nodes.Then c body) ⊎ (get_or p.nodes n d ≡ nodes.Else c body)
      → b ≡ false → (IsTrue b ↔ IsConstraint p locals c) → IsTrue b ↔ Scoped p locals (agent_at p.nodes n)
  ask_not_scoped locals b c body (inl e) f t = tests_tree locals b (nodes.Then c body) e (first_tests b f t)
  ask_not_scoped locals b c body (inr e) f t = tests_tree locals b (nodes.Else c body) e (first_tests b f t)

  pub par_scoped : (locals : List ℕ) (b : Bool) (left right : ℕ) → get_or p.nodes n d ≡ nodes.Par left right
      → Scoped p locals (agent_at p.nodes left) → (IsTrue b ↔ Scoped p locals (agent_at p.nodes right)) → IsTrue b ↔ Scoped p locals (agent_at p.nodes n)
  par_scoped locals b left right e h t = tests_tree locals b (nodes.Par left right) e (second_tests b h t)

  pub par_not_scoped : (locals : List ℕ) (b : Bool) (left right : ℕ) → get_or p.nodes n d ≡ nodes.Par left right
      → b ≡ false → (IsTrue b ↔ Scoped p locals (agent_at p.nodes left)) → IsTrue b ↔ Scoped p locals (agent_at p.nodes n)
  par_not_scoped locals b left right e f t = tests_tree locals b (nodes.Par left right) e (first_tests b f t)

  pub new_scoped : (locals : List ℕ) (b : Bool) (cell body : ℕ) → get_or p.nodes n d ≡ nodes.New cell body
      → (IsTrue b ↔ Scoped p (cell ∷ locals) (agent_at p.nodes body)) → IsTrue b ↔ Scoped p locals (agent_at p.nodes n)
  new_scoped locals b cell body e t = tests_tree locals b (nodes.New cell body) e t

  pub later_scoped : (locals : List ℕ) (b : Bool) (body : ℕ) → (get_or p.nodes n d ≡ nodes.Hence body) ⊎ (get_or p.nodes n d ≡ nodes.Next body)
      → (IsTrue b ↔ Scoped p locals (agent_at p.nodes body)) → IsTrue b ↔ Scoped p locals (agent_at p.nodes n)
  later_scoped locals b body (inl e) t = tests_tree locals b (nodes.Hence body) e t
  later_scoped locals b body (inr e) t = tests_tree locals b (nodes.Next body) e t
