-- The phrase that a program is goes past no limit of core texts: a node stands in at most two units, itself and braces around it,
-- and a program has at most 4,096 nodes; and its constraints have at most 16 tokens, none of them an equation.
use Rattle.std.proofs.Common.{◌≡◌, ℕ, suc, ◌+◌, ◌*◌, ◌≤◌, Bool, false, List, [], ◌∷◌, length, take, Option, Some, None, refl, sym, ap, ◌∙◌, arith, le-ltb}
use Rattle.std.specs.Prelude.{slice_get, if◌then◌else◌}
use Rattle.token_system.specs.declared.cell.Kind.{Kind}
use Rattle.token_system.specs.declared.cell.Kind.TheVariants as kinds
use Rattle.token_system.specs.declared.cell.Token.{Token}
use Rattle.token_system.specs.declared.cell.Token.TheVariants as tokens
use Rattle.program_grammar.specs.Phrases as g
use Rattle.agent_core.specs.declared.node.CellDecl.{CellDecl}
use Rattle.agent_core.specs.Agents.{Agent, Constraint, Skip, Tell, Then, Else, Par, New, Hence, Next, agent_at}
use Rattle.agent_core.specs.WellFormed.{IsWellFormed, IsConstraint, Scoped}
use Rattle.agent_core.specs.Listing.{size}
use Rattle.agent_core.specs.Programs.{CoreProgram}
use Rattle.agent_core.proofs.ListingTrees.{length-listing, root_tree}
use Rattle.tdcc_reader.specs.declared.dialect.Dialect.TheVariants.{Core}
use Rattle.tdcc_reader.specs.Dialects.{token_count}
use Rattle.tdcc_reader.specs.LimitFaults.{first, many_limit, constraint_limit, deep_limit, unit_limit, agent_limit, limit_from, program_limit}
use Rattle.tdcc_reader.specs.Widths.{token_width, constraint_width, unit_width}
use Rattle.core_text.specs.CoreTexts.{name_at}
use Rattle.core_text_laws.proofs.CorePhrases.{token_phrase, ask_phrase, as_unit_phrase, local_phrase, local_at, agent_phrase, decl_phrase, decls_phrase, program_phrase}

pub none_both : {A : Type 0} (a b : Option A) → a ≡ None → b ≡ None → first a b ≡ None
none_both a b x y = ap (λ o. first o b) x ∙ y

none_if : {A : Type 0} (b : Bool) (x : A) → b ≡ false → (if b then Some x else None) ≡ None
none_if b x e = ap (λ (c : Bool). if c then Some x else None) e

-- CONSTRAINTS

not_many : (n at : ℕ) → n ≤ 16 → many_limit Core n at ≡ None
not_many n at le = none_if _ _ (le-ltb 16 n le)

counts_once : (x : List ℕ) (t : Token) → token_count Core (token_phrase x t) ≡ 1
counts_once x tokens.On = refl
counts_once x tokens.Off = refl
counts_once x tokens.Clash = refl
counts_once x (tokens.AtLeast k) = refl
counts_once x (tokens.AtMost k) = refl

one_token : (x : List ℕ) (t : Token) (n at : ℕ) → n + 1 ≤ 16 → many_limit Core (n + token_count Core (token_phrase x t)) at ≡ None
one_token x t n at le = ap (λ (k : ℕ). many_limit Core (n + k) at) (counts_once x t) ∙ not_many (n + 1) at le

ask_within : (cells : List CellDecl) (ask : Constraint) (n at : ℕ) → n + length ask ≤ 16 → 1 ≤ length ask → constraint_limit Core (ask_phrase cells ask) n at ≡ None
ask_within cells [] n at le some = absurd (omega arith)
ask_within cells (x ∷ []) n at le some = one_token (name_at cells x.0) x.1 n at le
ask_within cells (x ∷ y ∷ ys) n at le some =
    let t = token_phrase (name_at cells x.0) x.1 in
    let next = at + token_width t + 1 in
    none_both (many_limit Core (n + token_count Core t) at) (constraint_limit Core (ask_phrase cells (y ∷ ys)) (n + token_count Core t) next)
    (one_token (name_at cells x.0) x.1 n at (omega arith))
    (ap (λ (k : ℕ). constraint_limit Core (ask_phrase cells (y ∷ ys)) (n + k) next) (counts_once (name_at cells x.0) x.1)
    ∙ ask_within cells (y ∷ ys) (n + 1) next (omega arith) (omega arith))

constraint_within : (p : CoreProgram) (locals : List ℕ) (ask : Constraint) (at : ℕ) → IsConstraint p locals ask → constraint_limit Core (ask_phrase p.cells ask) 0 at ≡ None
constraint_within p locals ask at is = ask_within p.cells ask 0 at (let few = is.few in omega arith) is.some

-- AGENTS

not_deep : (d at : ℕ) → d + 1 ≤ 8192 → deep_limit Core d at ≡ None
not_deep d at le = none_if _ _ (le-ltb 8192 (d + 1) le)

module _ (p : CoreProgram) where
  -- inside d units, an agent or a unit of so many nodes goes past no limit; as a unit, an agent may have braces around it
  abbrev AgentWithin : Agent → Type 0
  AgentWithin a = (d at : ℕ) → d + 2 * size a ≤ 8193 → agent_limit Core (agent_phrase p.cells a) d at ≡ None

  abbrev UnitWithin : Agent → Type 0
  UnitWithin a = (d at : ℕ) → d + 2 * size a ≤ 8192 → unit_limit Core (as_unit_phrase (agent_phrase p.cells a)) d at ≡ None

  unit_within : (a : Agent) → AgentWithin a → UnitWithin a
  unit_within Skip within d at le = within d at (omega arith)
  unit_within (Tell c) within d at le = within d at (omega arith)
  unit_within (Then c a) within d at le = within d at (omega arith)
  unit_within (Else c a) within d at le = within d at (omega arith)
  unit_within (New cell a) within d at le = within d at (omega arith)
  unit_within (Hence a) within d at le = within d at (omega arith)
  unit_within (Next a) within d at le = within d at (omega arith)
  unit_within (Par l r) within d at le =
      none_both (deep_limit Core d at) (agent_limit Core (agent_phrase p.cells (Par l r)) (d + 1) (at + 1)) (not_deep d at (omega arith)) (within (d + 1) (at + 1) (omega arith))

  -- a unit with one inside it
  below : (a : Agent) (d at next : ℕ) → UnitWithin a → d + 2 * suc (size a) ≤ 8193 → first (deep_limit Core d at) (unit_limit Core (as_unit_phrase (agent_phrase p.cells a)) (d + 1) next) ≡ None
  below a d at next unit le = none_both (deep_limit Core d at) (unit_limit Core (as_unit_phrase (agent_phrase p.cells a)) (d + 1) next) (not_deep d at (omega arith)) (unit (d + 1) next (omega arith))

  -- one that asks
  asks_below : (locals : List ℕ) (c : Constraint) (a : Agent) (d at next : ℕ) → IsConstraint p locals c → UnitWithin a → d + 2 * suc (size a) ≤ 8193
      → first (deep_limit Core d at) (first (constraint_limit Core (ask_phrase p.cells c) 0 (at + 1)) (unit_limit Core (as_unit_phrase (agent_phrase p.cells a)) (d + 1) next)) ≡ None
  asks_below locals c a d at next is unit le =
      none_both (deep_limit Core d at) (first (constraint_limit Core (ask_phrase p.cells c) 0 (at + 1)) (unit_limit Core (as_unit_phrase (agent_phrase p.cells a)) (d + 1) next)) (not_deep d at (omega arith))
      (none_both (constraint_limit Core (ask_phrase p.cells c) 0 (at + 1)) (unit_limit Core (as_unit_phrase (agent_phrase p.cells a)) (d + 1) next) (constraint_within p locals c (at + 1) is) (unit (d + 1) next (omega arith)))

  -- one with a cell of its own
  new_below : (a : Agent) (o : Option CellDecl) (d at : ℕ) → UnitWithin a → d + 2 * suc (size a) ≤ 8193 → unit_limit Core (local_at o (as_unit_phrase (agent_phrase p.cells a))) d at ≡ None
  new_below a None d at unit le = unit d at (omega arith)
  new_below a (Some decl) d at unit le = go decl.cell.kind
    where
      go : (k : Kind) → unit_limit Core (local_phrase k decl (as_unit_phrase (agent_phrase p.cells a))) d at ≡ None
      go kinds.Signal = below a d at (at + 4) unit le
      go kinds.Number = below a d at (at + 8) unit le

  agent_within : (a : Agent) (locals : List ℕ) → Scoped p locals a → AgentWithin a
  agent_within Skip locals h d at le = not_deep d at (omega arith)
  agent_within (Tell c) locals h d at le = none_both (deep_limit Core d at) (constraint_limit Core (ask_phrase p.cells c) 0 at) (not_deep d at (omega arith)) (constraint_within p locals c at h)
  agent_within (Then c a) locals h d at le = asks_below locals c a d at (at + 1 + constraint_width (ask_phrase p.cells c) + 1) h.0 (unit_within a (agent_within a locals h.1)) le
  agent_within (Else c a) locals h d at le = asks_below locals c a d at (at + 1 + constraint_width (ask_phrase p.cells c) + 1) h.0 (unit_within a (agent_within a locals h.1)) le
  agent_within (Par l r) locals h d at le =
      let next = at + unit_width (as_unit_phrase (agent_phrase p.cells l)) + 1 in
      none_both (unit_limit Core (as_unit_phrase (agent_phrase p.cells l)) d at) (agent_limit Core (agent_phrase p.cells r) d next)
      (unit_within l (agent_within l locals h.0) d at (omega arith)) (agent_within r locals h.1 d next (omega arith))
  agent_within (New cell a) locals h d at le = new_below a (slice_get p.cells cell) d at (unit_within a (agent_within a (cell ∷ locals) h)) le
  agent_within (Hence a) locals h d at le = below a d at (at + 1) (unit_within a (agent_within a locals h)) le
  agent_within (Next a) locals h d at le = below a d at (at + 1) (unit_within a (agent_within a locals h)) le

-- PROGRAMS

decl_within : (k : Kind) (d : CellDecl) (q : g.ProgramPhrase) → ((at : ℕ) → limit_from Core q at ≡ None) → (at : ℕ) → limit_from Core (decl_phrase k d q) at ≡ None
decl_within kinds.Signal d q h at = h _
decl_within kinds.Number d q h at = h _

decls_within : (ds : List CellDecl) (q : g.ProgramPhrase) → ((at : ℕ) → limit_from Core q at ≡ None) → (at : ℕ) → limit_from Core (decls_phrase ds q) at ≡ None
decls_within [] q h at = h at
decls_within (d ∷ ds) q h at = decl_within d.cell.kind d (decls_phrase ds q) (decls_within ds q h) at

-- The phrase of a program goes past no limit.
pub program_within : (p : CoreProgram) → IsWellFormed p → program_limit Core (program_phrase p) ≡ None
program_within p is =
    let root = root_tree p.nodes is.tree in
    let nodes = ap length is.tree.1 ∙ length-listing 0 is.tree.0 ∙ ap size (sym root) in
    let few = is.limits.few_nodes in
    decls_within (take p.declared p.cells) (g.Runs (agent_phrase p.cells (agent_at p.nodes 0))) (λ at. agent_within p (agent_at p.nodes 0) [] is.scoped 0 at (omega (arith, nodes))) 0
