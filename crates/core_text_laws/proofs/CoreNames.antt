-- The names of a program's phrase have no fault.
use Rattle.std.proofs.Common.{◌≡◌, ◌⊎◌, inl, inr, ℕ, ℤ, suc, ◌+◌, ◌<◌, ◌≤◌, Bool, true, false, List, [], ◌∷◌, length, take, Option, Some, None, refl, sym, ap, ◌∙◌, subst, arith, bytes_eq}
use Rattle.std.specs.Prelude.{slice_get, if◌then◌else◌, IsTrue, int_lt, int_le, ◌&&◌}
use Rattle.std.proofs.lemmas.Bool.{cases_lt}
use Rattle.std.proofs.lemmas.Int.{ints}
use Rattle.std.proofs.lemmas.List.{length-take-le}
use Rattle.std.proofs.lemmas.Slice.Eq.{bytes_eq-Decides}
use Rattle.token_system.specs.Domain.{is_bound, is_cell}
use Rattle.token_system.specs.Tokens.{fits_kind}
use Rattle.token_system.specs.declared.cell.Kind.{Kind}
use Rattle.token_system.specs.declared.cell.Kind.TheVariants.{Signal, Number}
use Rattle.token_system.specs.declared.cell.Token.{Token}
use Rattle.token_system.specs.declared.cell.Token.TheVariants as token
use Rattle.program_grammar.specs.Phrases as g
use Rattle.agent_core.specs.declared.node.CellDecl.{CellDecl}
use Rattle.agent_core.specs.Agents.{Agent, Constraint, Skip, Tell, Then, Else, Par, New, Hence, Next, agent_at}
use Rattle.agent_core.specs.Programs.{CoreProgram}
use Rattle.agent_core.specs.WellFormed.{IsWellFormed, IsInScope, AreInScope}
use Rattle.tdcc_reader.specs.LimitFaults.{first}
use Rattle.tdcc_reader.specs.Widths.{token_width, constraint_width, unit_width}
use Rattle.tdcc_reader.specs.Scope.{Known, known, kind_in_scope, unknown_fault, signal_fault, number_fault, double_fault, domain_fault, declared_fault, token_fault, constraint_fault, unit_fault, agent_fault, fault_from, program_fault}
use Rattle.core_text.specs.CoreTexts.{name_at}
use Rattle.core_text.specs.GoodNames.{IsVisible, HasGoodNames}
use Rattle.core_reader.proofs.LocalCells.{news}
use Rattle.core_text_laws.proofs.Sitting.{Sits, sits_then, sits_else, sits_hence, sits_next, sits_left, sits_right, sits_cell, sits_new, root_sits}
use Rattle.core_text_laws.proofs.CorePhrases.{token_phrase, ask_phrase, as_unit_phrase, local_phrase, local_at, agent_phrase, decl_phrase, decls_phrase, program_phrase}
use Rattle.core_text_laws.proofs.CoreCells.{found_at, taken, both}
use Rattle.core_text_laws.proofs.CoreTrees.{named}

-- none is found where neither is
neither : {A : Type 0} (f h : Option A) → f ≡ None → h ≡ None → first f h ≡ None
neither f h e k = ap (λ x. first x h) e ∙ k

not_found : {A : Type 0} (b : Bool) (x : A) → b ≡ false → (if b then Some x else None) ≡ None
not_found true x e = cc
not_found false x e = refl

-- a lawful domain is not empty
domain_clean : (l h : ℤ) (at : ℕ) → IsTrue (is_cell Number l h) → domain_fault l h at ≡ None
domain_clean l h at law =
    let order : IsTrue (int_le l h) = (both (is_bound l && is_bound h) (int_le l h) law).1 in
    let not_less : int_lt h l ≡ false = grind (arith, ints) in
    not_found (int_lt h l) _ not_less

-- KNOWN NAMES

kind_first : (x y : List ℕ) (k : Kind) (scope : List Known) → x ≡ y → kind_in_scope (known x k ∷ scope) y ≡ Some k
kind_first x y k scope e = ap (λ (b : Bool). if b then Some k else kind_in_scope scope y) ((bytes_eq-Decides x y).1 e)

kind_under : (x y : List ℕ) (k : Kind) (scope : List Known) → (x ≡ y → ⊥) → kind_in_scope (known x k ∷ scope) y ≡ kind_in_scope scope y
kind_under x y k scope differ = go (bytes_eq x y) (bytes_eq-Decides x y).0
  where
    go : (b : Bool) → (b ≡ true → x ≡ y) → (if b then Some k else kind_in_scope scope y) ≡ kind_in_scope scope y
    go true h = absurd (differ (h refl))
    go false h = refl

-- the names of these cells are known with their kinds, and no others
pub record KnownFits (cells : List CellDecl) (V : ℕ → Type 0) (scope : List Known) : Type 0 where
  pub each : (c : ℕ) (d : CellDecl) → V c → slice_get cells c ≡ Some d → kind_in_scope scope d.name ≡ Some d.cell.kind
  pub others : (x : List ℕ) → ((c : ℕ) → V c → name_at cells c ≡ x → ⊥) → kind_in_scope scope x ≡ None

-- the same cells
known_same : (cells : List CellDecl) (V W : ℕ → Type 0) (scope : List Known) → ((c : ℕ) → W c → V c) → ((c : ℕ) → V c → W c) → KnownFits cells V scope → KnownFits cells W scope
known_same cells V W scope to from fits = record { each = λ c d w e. fits.each c d (to c w) e; others = λ x none. fits.others x (λ c v e. none c (from c v) e) }

module _ (p : CoreProgram) where
  -- a cell more, whose name no other has
  known_more : (V : ℕ → Type 0) (scope : List Known) (cell : ℕ) (d : CellDecl) → slice_get p.cells cell ≡ Some d → ((c : ℕ) → V c → name_at p.cells c ≡ name_at p.cells cell → ⊥) → KnownFits p.cells V scope
      → KnownFits p.cells (λ c. (c ≡ cell) ⊎ V c) (known d.name d.cell.kind ∷ scope)
  known_more V scope cell d found fresh fits = record { each = each; others = others }
    where
      each : (c : ℕ) (e : CellDecl) → (c ≡ cell) ⊎ V c → slice_get p.cells c ≡ Some e → kind_in_scope (known d.name d.cell.kind ∷ scope) e.name ≡ Some e.cell.kind
      each c e (inl same) at =
          let one : d ≡ e = let f : Some d ≡ Some e = sym found ∙ sym (ap (slice_get p.cells) same) ∙ at in cc in
          kind_first d.name e.name d.cell.kind scope (ap (λ (x : CellDecl). x.name) one) ∙ ap (λ (x : CellDecl). Some x.cell.kind) one
      each c e (inr v) at = kind_under d.name e.name d.cell.kind scope (λ same. fresh c v (named p c e at ∙ sym same ∙ sym (named p cell d found))) ∙ fits.each c e v at

      others : (x : List ℕ) → ((c : ℕ) → (c ≡ cell) ⊎ V c → name_at p.cells c ≡ x → ⊥) → kind_in_scope (known d.name d.cell.kind ∷ scope) x ≡ None
      others x none = kind_under d.name x d.cell.kind scope (λ same. none cell (inl refl) (named p cell d found ∙ same)) ∙ fits.others x (λ c v e. none c (inr v) e)

  -- a name that no cell has is declared without fault
  declared_clean : (V : ℕ → Type 0) (scope : List Known) (cell at : ℕ) (d : CellDecl) → slice_get p.cells cell ≡ Some d → ((c : ℕ) → V c → name_at p.cells c ≡ name_at p.cells cell → ⊥) → KnownFits p.cells V scope
      → declared_fault d.name scope at ≡ None
  declared_clean V scope cell at d found fresh fits = ap (λ o. double_fault o at) (fits.others d.name (λ c v e. fresh c v (e ∙ sym (named p cell d found))))

  -- TOKENS

  use_clean : (x : List ℕ) (k : Kind) (t : Token) (scope : List Known) (at : ℕ) → kind_in_scope scope x ≡ Some k → IsTrue (fits_kind k t) → token_fault (token_phrase x t) scope at ≡ None
  use_clean x Signal token.On scope at e fits = ap (λ o. first (unknown_fault o at) (signal_fault o at)) e
  use_clean x Signal token.Off scope at e fits = ap (λ o. first (unknown_fault o (at + 1)) (signal_fault o (at + 1))) e
  use_clean x Number (token.AtLeast n) scope at e fits = ap (λ o. first (unknown_fault o at) (number_fault o at)) e
  use_clean x Number (token.AtMost n) scope at e fits = ap (λ o. first (unknown_fault o at) (number_fault o at)) e
  use_clean x k token.Clash scope at e fits = ap (λ o. unknown_fault o (at + 1)) e
  use_clean x Number token.On scope at e fits = let f : false ≡ true = fits in cc
  use_clean x Number token.Off scope at e fits = let f : false ≡ true = fits in cc
  use_clean x Signal (token.AtLeast n) scope at e fits = let f : false ≡ true = fits in cc
  use_clean x Signal (token.AtMost n) scope at e fits = let f : false ≡ true = fits in cc

  pair_clean : (locals : List ℕ) (x : ℕ × Token) (scope : List Known) (at : ℕ) → KnownFits p.cells (IsVisible p locals) scope → IsInScope p locals x → token_fault (token_phrase (name_at p.cells x.0) x.1) scope at ≡ None
  pair_clean locals x scope at fits is =
      use_clean (name_at p.cells x.0) is.decl.cell.kind x.1 scope at (ap (kind_in_scope scope) (named p x.0 is.decl is.found) ∙ fits.each x.0 is.decl is.visible is.found) is.fits

  ask_clean : (locals : List ℕ) (c : Constraint) (scope : List Known) (at : ℕ) → KnownFits p.cells (IsVisible p locals) scope → 1 ≤ length c → AreInScope p locals c → constraint_fault (ask_phrase p.cells c) scope at ≡ None
  ask_clean locals [] scope at fits some are = absurd (omega arith)
  ask_clean locals (x ∷ []) scope at fits some are = pair_clean locals x scope at fits are.0
  ask_clean locals (x ∷ y ∷ ys) scope at fits some are =
      let next : ℕ = at + token_width (token_phrase (name_at p.cells x.0) x.1) + 1 in
      neither (token_fault (token_phrase (name_at p.cells x.0) x.1) scope at) (constraint_fault (ask_phrase p.cells (y ∷ ys)) scope next) (pair_clean locals x scope at fits are.0) (ask_clean locals (y ∷ ys) scope next fits (omega arith) are.1)

  -- AGENTS

  unit_clean : (a : g.AgentPhrase) (scope : List Known) → ((at : ℕ) → agent_fault a scope at ≡ None) → (at : ℕ) → unit_fault (as_unit_phrase a) scope at ≡ None
  unit_clean (g.Only u) scope clean at = clean at
  unit_clean (g.Par u a) scope clean at = clean (at + 1)

  local_clean : (x : List ℕ) (k : Kind) (l h : ℤ) (law : IsTrue (is_cell k l h)) (u : g.UnitPhrase) (scope : List Known) → ((at : ℕ) → declared_fault x scope at ≡ None) → ((at : ℕ) → unit_fault u (known x k ∷ scope) at ≡ None)
      → (at : ℕ) → unit_fault (local_phrase k (record { name = x; cell = record { kind = k; lo = l; hi = h; lawful = law } }) u) scope at ≡ None
  local_clean x Signal l h law u scope decl clean at = neither (declared_fault x scope (at + 2)) (unit_fault u (known x Signal ∷ scope) (at + 4)) (decl (at + 2)) (clean (at + 4))
  local_clean x Number l h law u scope decl clean at =
      neither (first (declared_fault x scope (at + 2)) (domain_fault l h (at + 2 + 2))) (unit_fault u (known x Number ∷ scope) (at + 8))
      (neither (declared_fault x scope (at + 2)) (domain_fault l h (at + 2 + 2)) (decl (at + 2)) (domain_clean l h (at + 2 + 2) law)) (clean (at + 8))

  in_from : (locals : List ℕ) (cell c : ℕ) → IsVisible p (cell ∷ locals) c → (c ≡ cell) ⊎ IsVisible p locals c
  in_from locals cell c (inl h) = inr (inl h)
  in_from locals cell c (inr (inl e)) = inl e
  in_from locals cell c (inr (inr h)) = inr (inr h)

  in_to : (locals : List ℕ) (cell c : ℕ) → (c ≡ cell) ⊎ IsVisible p locals c → IsVisible p (cell ∷ locals) c
  in_to locals cell c (inl e) = inr (inl e)
  in_to locals cell c (inr (inl h)) = inl h
  in_to locals cell c (inr (inr h)) = inr (inr h)

  agent_clean : (a : Agent) (locals : List ℕ) (n : ℕ) (scope : List Known) → Sits p locals n a → KnownFits p.cells (IsVisible p locals) scope → (at : ℕ) → agent_fault (agent_phrase p.cells a) scope at ≡ None
  agent_clean Skip locals n scope s fits at = refl
  agent_clean (Tell c) locals n scope s fits at = ask_clean locals c scope at fits s.scoped.some s.scoped.tokens
  agent_clean (Then c a) locals n scope s fits at =
      let next : ℕ = at + 1 + constraint_width (ask_phrase p.cells c) + 1 in
      neither (constraint_fault (ask_phrase p.cells c) scope (at + 1)) (unit_fault (as_unit_phrase (agent_phrase p.cells a)) scope next) (ask_clean locals c scope (at + 1) fits s.scoped.0.some s.scoped.0.tokens)
      (unit_clean (agent_phrase p.cells a) scope (agent_clean a locals n scope (sits_then p locals n c a s) fits) next)
  agent_clean (Else c a) locals n scope s fits at =
      let next : ℕ = at + 1 + constraint_width (ask_phrase p.cells c) + 1 in
      neither (constraint_fault (ask_phrase p.cells c) scope (at + 1)) (unit_fault (as_unit_phrase (agent_phrase p.cells a)) scope next) (ask_clean locals c scope (at + 1) fits s.scoped.0.some s.scoped.0.tokens)
      (unit_clean (agent_phrase p.cells a) scope (agent_clean a locals n scope (sits_else p locals n c a s) fits) next)
  agent_clean (Hence a) locals n scope s fits at = unit_clean (agent_phrase p.cells a) scope (agent_clean a locals n scope (sits_hence p locals n a s) fits) (at + 1)
  agent_clean (Next a) locals n scope s fits at = unit_clean (agent_phrase p.cells a) scope (agent_clean a locals n scope (sits_next p locals n a s) fits) (at + 1)
  agent_clean (Par l r) locals n scope s fits at =
      let next : ℕ = at + unit_width (as_unit_phrase (agent_phrase p.cells l)) + 1 in
      neither (unit_fault (as_unit_phrase (agent_phrase p.cells l)) scope at) (agent_fault (agent_phrase p.cells r) scope next)
      (unit_clean (agent_phrase p.cells l) scope (agent_clean l locals n scope (sits_left p locals n l r s) fits) at) (agent_clean r locals (n + length (news l)) scope (sits_right p locals n l r s) fits next)
  agent_clean (New cell a) locals n scope s fits at =
      let few = s.few in
      let same = sits_cell p locals n cell a s in
      let (d, found) = found_at p.cells cell (omega arith) in
      let inside : KnownFits p.cells (IsVisible p (cell ∷ locals)) (known d.name d.cell.kind ∷ scope) =
      known_same p.cells (λ c. (c ≡ cell) ⊎ IsVisible p locals c) (IsVisible p (cell ∷ locals)) (known d.name d.cell.kind ∷ scope) (in_from locals cell) (in_to locals cell) (known_more (IsVisible p locals) scope cell d found s.fresh.0 fits) in
      ap (λ (o : Option CellDecl). unit_fault (local_at o (as_unit_phrase (agent_phrase p.cells a))) scope at) found
      ∙ local_clean d.name d.cell.kind d.cell.lo d.cell.hi d.cell.lawful (as_unit_phrase (agent_phrase p.cells a)) scope (λ k. declared_clean (IsVisible p locals) scope cell k d found s.fresh.0 fits)
      (unit_clean (agent_phrase p.cells a) (known d.name d.cell.kind ∷ scope) (agent_clean a (cell ∷ locals) (n + 1) (known d.name d.cell.kind ∷ scope) (sits_new p locals n cell a s) inside)) at

  -- DECLARATIONS

  decl_clean : (x : List ℕ) (k : Kind) (l h : ℤ) (law : IsTrue (is_cell k l h)) (q : g.ProgramPhrase) (scope : List Known) → ((at : ℕ) → declared_fault x scope at ≡ None) → ((at : ℕ) → fault_from q (known x k ∷ scope) at ≡ None)
      → (at : ℕ) → fault_from (decl_phrase k (record { name = x; cell = record { kind = k; lo = l; hi = h; lawful = law } }) q) scope at ≡ None
  decl_clean x Signal l h law q scope decl clean at =
      neither (declared_fault x scope (at + 1)) (fault_from q (known x Signal ∷ scope) (at + 1 + 2)) (decl (at + 1)) (clean (at + 1 + 2))
  decl_clean x Number l h law q scope decl clean at =
      neither (first (declared_fault x scope (at + 1)) (domain_fault l h (at + 1 + 2))) (fault_from q (known x Number ∷ scope) (at + 1 + 6))
      (neither (declared_fault x scope (at + 1)) (domain_fault l h (at + 1 + 2)) (decl (at + 1)) (domain_clean l h (at + 1 + 2) law)) (clean (at + 1 + 6))

  module _ (good : HasGoodNames p) (is : IsWellFormed p) where
    -- the declared cells below n are known
    abbrev Below : ℕ → List Known → Type 0
    Below n scope = KnownFits p.cells (λ c. c < n) scope

    none_below : Below 0 []
    none_below = record { each = λ c d v e. absurd (omega arith); others = λ x none. refl }

    one_below : (n : ℕ) (d : CellDecl) (scope : List Known) → slice_get p.cells n ≡ Some d → n < p.declared → Below n scope → Below (n + 1) (known d.name d.cell.kind ∷ scope)
    one_below n d scope found lt fits =
        known_same p.cells (λ c. (c ≡ n) ⊎ (c < n)) (λ c. c < n + 1) (known d.name d.cell.kind ∷ scope) (split n) (join n) (known_more (λ c. c < n) scope n d found (λ c less. good.declared c n less lt) fits)
      where
        split : (n c : ℕ) → c < n + 1 → (c ≡ n) ⊎ (c < n)
        split n c h = go (cases_lt c n)
          where
            go : (c < n) ⊎ (n ≤ c) → (c ≡ n) ⊎ (c < n)
            go (inl less) = inr less
            go (inr most) = inl (omega arith)

        join : (n c : ℕ) → (c ≡ n) ⊎ (c < n) → c < n + 1
        join n c (inl e) = omega arith
        join n c (inr less) = omega arith

    -- declarations from cell n on, and then an agent
    decls_clean : (ds : List CellDecl) (n : ℕ) (scope : List Known) → ((i : ℕ) (d : CellDecl) → slice_get ds i ≡ Some d → slice_get p.cells (n + i) ≡ Some d) → n + length ds ≡ p.declared → Below n scope
        → (at : ℕ) → fault_from (decls_phrase ds (g.Runs (agent_phrase p.cells (agent_at p.nodes 0)))) scope at ≡ None
    decls_clean [] n scope are all fits at =
        let last : n ≡ p.declared = omega arith in
        agent_clean (agent_at p.nodes 0) [] p.declared scope (root_sits p is good)
        (known_same p.cells (λ c. c < n) (IsVisible p []) scope (λ c v. out n last c v) (λ c less. inl (omega arith)) fits) at
      where
        out : (n : ℕ) → n ≡ p.declared → (c : ℕ) → IsVisible p [] c → c < n
        out n last c (inl h) = omega arith
        out n last c (inr h) = absurd h
    decls_clean (d ∷ ds) n scope are all fits at =
        let found : slice_get p.cells n ≡ Some d = let e : n + 0 ≡ n = omega arith in subst (λ (k : ℕ). slice_get p.cells k ≡ Some d) e (are 0 d refl) in
        let lt : n < p.declared = omega arith in
        decl_clean d.name d.cell.kind d.cell.lo d.cell.hi d.cell.lawful (decls_phrase ds (g.Runs (agent_phrase p.cells (agent_at p.nodes 0)))) scope
        (λ k. declared_clean (λ c. c < n) scope n k d found (λ c less. good.declared c n less lt) fits)
        (decls_clean ds (n + 1) (known d.name d.cell.kind ∷ scope) (λ i x e. let f : n + suc i ≡ n + 1 + i = omega arith in subst (λ (k : ℕ). slice_get p.cells k ≡ Some x) f (are (suc i) x e)) (omega arith) (one_below n d scope found lt fits)) at

    -- The names of the program's phrase have no fault.
    pub program_clean : program_fault (program_phrase p) ≡ None
    program_clean =
        let within = is.limits.within in
        let long : length (take p.declared p.cells) ≡ p.declared = length-take-le p.declared p.cells within in
        decls_clean (take p.declared p.cells) 0 [] (λ i d e. let f : i ≡ 0 + i = omega arith in subst (λ (k : ℕ). slice_get p.cells k ≡ Some d) f (taken p.cells p.declared i d e)) (omega arith) none_below 0
