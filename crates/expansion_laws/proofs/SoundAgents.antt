-- The agent of a sound symbolic agent is in scope, and its new nodes have fresh names.
use Rattle.std.proofs.Common.{◌≡◌, ◌⊎◌, inl, inr, ℕ, zero, suc, ◌+◌, ◌<◌, ◌≤◌, Bool, true, false, List, [], ◌∷◌, ◌++◌, length, Option, Some, None, refl, sym, ap, ◌∙◌, subst, arith, decimal}
use Rattle.std.specs.Prelude.{slice_get, unwrap_or, map, nat_eq, if◌then◌else◌}
use Rattle.std.proofs.lemmas.Bool.{eqb-true, eq-eqb, false≢true}
use Rattle.std.proofs.lemmas.List.{length-map}
use Rattle.std.proofs.lemmas.Option.{slice_get_within}
use Rattle.token_system.specs.Tokens.{Fits}
use Rattle.token_system.specs.declared.cell.Cell.{Cell}
use Rattle.token_system.specs.declared.cell.Token.{Token}
use Rattle.program_lexemes.specs.declared.bytes.TextForm.TheVariants.{Program}
use Rattle.agent_core.specs.declared.node.CellDecl.{CellDecl}
use Rattle.agent_core.specs.Agents.{Constraint}
use Rattle.agent_core.specs.Programs.{CoreProgram}
use Rattle.agent_core.specs.WellFormed.{IsAmong, IsInScope, AreInScope, IsConstraint, Scoped}
use Rattle.agent_core.specs.Strata.{Each}
use Rattle.agent_core.proofs.Standing.{StandsAt, stands-head, stands-tail, stands-left, stands-right}
use Rattle.agent_laws.proofs.Eachs.{Each-map}
use Rattle.core_text.specs.CoreTexts.{name_at}
use Rattle.core_text.specs.GoodNames.{IsName, IsVisible, AreFresh}
use Rattle.expansion_laws.specs.SymbolicAgents.{SymbolicAgent, Skip, Tell, Then, Else, Par, New, Hence, Next, binders}
use Rattle.expansion_laws.specs.Numbering.{Binding, binding, bound_cell, bound_constraint, bound_agent, hidden, cells_from}
use Rattle.expansion_laws.proofs.Counted.{length-cells_from, cells_from-append}
use Rattle.expansion_laws.proofs.Sound.{like, Means, IsMeant, IsNew, Sound}
use Rattle.expansion_laws.proofs.HiddenNames.{no_dollar, hidden_apart, same_name, found_name}

-- the cell of a binder in the program, where it has this number
abbrev pub copy : List CellDecl → ℕ → ℕ → CellDecl
copy cells binder n = unwrap_or (slice_get cells binder) (hidden n)

-- it has the kind and the domain that its binder stands for
copy_like : (o : Option CellDecl) (n : ℕ) → (unwrap_or o (hidden n)).cell ≡ (unwrap_or o (hidden 0)).cell
copy_like None n = refl
copy_like (Some d) n = refl

-- the binders in scope, and their cells
abbrev pub binders_of : List Binding → List ℕ
binders_of scope = map (λ (q : Binding). q.binder) scope

abbrev pub cells_of : List Binding → List ℕ
cells_of scope = map (λ (q : Binding). q.cell) scope

-- the placed cell is before number n, and a copy of what its binder stands for
pub record IsCopy (cells : List CellDecl) (p : CoreProgram) (n : ℕ) (q : Binding) : Type 0 where
  pub before : q.cell < n
  pub is : slice_get p.cells q.cell ≡ Some (copy cells q.binder q.cell)

-- the program has the declared cells of the surface with these cells, whose names are of a program text
pub record IsOver (cells : List CellDecl) (p : CoreProgram) : Type 0 where
  pub within : p.declared ≤ length cells
  pub front : (c : ℕ) → c < p.declared → slice_get p.cells c ≡ slice_get cells c
  pub named : (n : ℕ) (d : CellDecl) → slice_get cells n ≡ Some d → IsName Program d.name
  pub few : length p.cells ≤ 1024

some_at : (xs : List CellDecl) (n : ℕ) → n < length xs → (d : CellDecl) × (slice_get xs n ≡ Some d)
some_at [] n lt = absurd (omega arith)
some_at (x ∷ xs) zero lt = (x, refl)
some_at (x ∷ xs) (suc n) lt = some_at xs n (omega arith)

-- a cell with the name of one of the surface that is visible, or a hidden one with its own name
abbrev Origin : List CellDecl → CoreProgram → (ℕ → Type 0) → ℕ → Type 0
Origin cells p V c = ((k : ℕ) × (k < length cells) × V k × (name_at p.cells c ≡ name_at cells k)) ⊎ (name_at p.cells c ≡ 36 ∷ decimal c)

module _ (cells : List CellDecl) (p : CoreProgram) (over : IsOver cells p) where
  abbrev Copies : ℕ → List Binding → Type 0
  Copies n scope = Each (IsCopy cells p n) scope

  later : (m n : ℕ) (scope : List Binding) → m ≤ n → Copies m scope → Copies n scope
  later m n scope le h = Each-map (IsCopy cells p m) (IsCopy cells p n) (λ q is. record { before = let lt = is.before in omega arith; is = is.is }) scope h

  -- CONSTRAINTS

  -- a token under one more new: it is that of the new, or is found around it
  placed_scoped : (scope : List Binding) (q : Binding) (binder : ℕ) (t : Token) → slice_get p.cells q.cell ≡ Some (copy cells q.binder q.cell) → Fits (like cells binder) t → (b : Bool) → nat_eq q.binder binder ≡ b
      → ((binder < p.declared) ⊎ IsAmong (binders_of scope) binder → IsInScope p (cells_of scope) (bound_cell scope binder, t))
      → (binder < p.declared) ⊎ IsAmong (q.binder ∷ binders_of scope) binder → IsInScope p (q.cell ∷ cells_of scope) ((if b then q.cell else bound_cell scope binder), t)
  placed_scoped scope q binder t is fits true e rest seen = record {
    visible = inr (inl refl);
    decl = copy cells q.binder q.cell;
    found = is;
    fits = subst (λ (c : Cell). Fits c t) (sym (copy_like (slice_get cells q.binder) q.cell ∙ ap (like cells) (eqb-true q.binder binder e))) fits;
  }
  placed_scoped scope q binder t is fits false e rest seen = more (rest (around seen))
    where
      around : (binder < p.declared) ⊎ IsAmong (q.binder ∷ binders_of scope) binder → (binder < p.declared) ⊎ IsAmong (binders_of scope) binder
      around (inl lt) = inl lt
      around (inr (inl same)) = absurd (false≢true (sym e ∙ eq-eqb q.binder binder (sym same)))
      around (inr (inr among)) = inr among

      visible : (c : ℕ) → (c < p.declared) ⊎ IsAmong (cells_of scope) c → (c < p.declared) ⊎ IsAmong (q.cell ∷ cells_of scope) c
      visible c (inl lt) = inl lt
      visible c (inr among) = inr (inr among)

      more : IsInScope p (cells_of scope) (bound_cell scope binder, t) → IsInScope p (q.cell ∷ cells_of scope) (bound_cell scope binder, t)
      more found = record { visible = visible (bound_cell scope binder) found.visible; decl = found.decl; found = found.found; fits = found.fits }

  token_scoped : (n : ℕ) (scope : List Binding) (binder : ℕ) (t : Token) → Copies n scope → (binder < p.declared) ⊎ IsAmong (binders_of scope) binder → Fits (like cells binder) t
      → IsInScope p (cells_of scope) (bound_cell scope binder, t)
  token_scoped n [] binder t h (inr among) fits = absurd among
  token_scoped n [] binder t h (inl lt) fits =
      let within = over.within in
      let (d, found) = some_at cells binder (omega arith) in
      record {
        visible = inl lt;
        decl = d;
        found = over.front binder lt ∙ found;
        fits = subst (λ (o : Option CellDecl). Fits (unwrap_or o (hidden 0)).cell t) found fits;
      }
  token_scoped n (q ∷ scope) binder t h seen fits = placed_scoped scope q binder t h.0.is fits (nat_eq q.binder binder) refl (λ rest. token_scoped n scope binder t h.1 rest fits) seen

  ask_scoped : (n : ℕ) (scope : List Binding) (c : Constraint) → Copies n scope → Each (Means cells p.declared (binders_of scope)) c → AreInScope p (cells_of scope) (bound_constraint scope c)
  ask_scoped n scope [] h are = tt
  ask_scoped n scope (pair ∷ c) h are = (token_scoped n scope pair.0 pair.1 h are.0.visible are.0.fits, ask_scoped n scope c h are.1)

  constraint_scoped : (n : ℕ) (scope : List Binding) (c : Constraint) → Copies n scope → IsMeant cells p.declared (binders_of scope) c → IsConstraint p (cells_of scope) (bound_constraint scope c)
  constraint_scoped n scope c h is =
      let long : length (bound_constraint scope c) ≡ length c = length-map c (λ (pair : ℕ × Token). (bound_cell scope pair.0, pair.1)) in
      let some = is.some in
      let few = is.few in
      record { some = omega arith; few = omega arith; tokens = ask_scoped n scope c h is.tokens }

  -- NAMES

  name_is : (k : ℕ) → k < length cells → IsName Program (name_at cells k)
  name_is k lt =
      let (d, found) = some_at cells k lt in
      subst (IsName Program) (sym (found_name cells k d found)) (over.named k d found)

  copy_origin : (V : ℕ → Type 0) (binder c : ℕ) → V binder → slice_get p.cells c ≡ Some (copy cells binder c) → Origin cells p V c
  copy_origin V binder c v e = go (slice_get cells binder) refl
    where
      go : (o : Option CellDecl) → slice_get cells binder ≡ o → Origin cells p V c
      go None none = inr (found_name p.cells c (hidden c) (e ∙ ap (λ (o : Option CellDecl). Some (unwrap_or o (hidden c))) none))
      go (Some d) some = inl (binder, slice_get_within cells binder d some, v, same_name p.cells cells c binder (e ∙ ap (λ (o : Option CellDecl). Some (unwrap_or o (hidden c))) some ∙ sym some))

  more_origin : (V W : ℕ → Type 0) (c : ℕ) → ((k : ℕ) → V k → W k) → Origin cells p V c → Origin cells p W c
  more_origin V W c f (inl (k, lt, v, e)) = inl (k, lt, f k v, e)
  more_origin V W c f (inr e) = inr e

  -- a local cell in scope
  local_origin : (n : ℕ) (scope : List Binding) (c : ℕ) → Copies n scope → IsAmong (cells_of scope) c → (c < n) × Origin cells p (IsAmong (binders_of scope)) c
  local_origin n [] c h among = absurd among
  local_origin n (q ∷ scope) c h (inl same) =
      let lt = h.0.before in
      (omega arith, copy_origin (IsAmong (q.binder ∷ binders_of scope)) q.binder c (inl refl) (subst (λ (k : ℕ). slice_get p.cells k ≡ Some (copy cells q.binder k)) (sym same) h.0.is))
  local_origin n (q ∷ scope) c h (inr among) =
      let rest = local_origin n scope c h.1 among in
      (rest.0, more_origin (IsAmong (binders_of scope)) (IsAmong (q.binder ∷ binders_of scope)) c (λ k v. inr v) rest.1)

  visible_origin : (n : ℕ) (scope : List Binding) (c : ℕ) → p.declared ≤ n → Copies n scope → IsVisible p (cells_of scope) c → (c < n) × Origin cells p (λ k. (k < p.declared) ⊎ IsAmong (binders_of scope) k) c
  visible_origin n scope c le h (inl lt) =
      let within = over.within in
      (omega arith, inl (c, (let short : c < length cells = omega arith in short), inl lt, same_name p.cells cells c c (over.front c lt)))
  visible_origin n scope c le h (inr among) =
      let local = local_origin n scope c h among in
      (local.0, more_origin (IsAmong (binders_of scope)) (λ k. (k < p.declared) ⊎ IsAmong (binders_of scope) k) c (λ k v. inr v) local.1)

  -- the next cell has a name that no cell in scope has
  next_fresh : (n : ℕ) (scope : List Binding) (binder : ℕ) → p.declared ≤ n → n < length p.cells → Copies n scope → slice_get p.cells n ≡ Some (copy cells binder n) → IsNew cells p.declared (binders_of scope) binder
      → (c : ℕ) → IsVisible p (cells_of scope) c → name_at p.cells c ≡ name_at p.cells n → ⊥
  next_fresh n scope binder le inside h copied new c visible same = go (copy_origin (λ k. k ≡ binder) binder n refl copied) (visible_origin n scope c le h visible)
    where
      go : Origin cells p (λ k. k ≡ binder) n → (c < n) × Origin cells p (λ k. (k < p.declared) ⊎ IsAmong (binders_of scope) k) c → ⊥
      go (inl (k, lt, is, e)) (before, inl (j, short, v, f)) =
          new (subst (λ (i : ℕ). i < length cells) is lt) j short v (sym f ∙ same ∙ e ∙ ap (name_at cells) is)
      go (inl (k, lt, is, e)) (before, inr f) = no_dollar (name_at cells k) (decimal c) (name_is k lt) (sym e ∙ sym same ∙ f)
      go (inr e) (before, inl (j, short, v, f)) = no_dollar (name_at cells j) (decimal n) (name_is j short) (sym f ∙ same ∙ e)
      go (inr e) (before, inr f) =
          let few = over.few in
          let one : c ≡ n = hidden_apart c n (omega arith) (omega arith) (sym f ∙ same ∙ e) in
          omega arith

  -- AGENTS

  abbrev Stands : ℕ → List ℕ → Type 0
  Stands n ms = StandsAt CellDecl p.cells n (cells_from cells n ms)

  left_stands : (n : ℕ) (xs ys : List ℕ) → Stands n (xs ++ ys) → Stands n xs
  left_stands n xs ys h = stands-left (cells_from cells n xs) (cells_from cells (n + length xs) ys) (subst (StandsAt CellDecl p.cells n) (cells_from-append cells n xs ys) h)

  right_stands : (n : ℕ) (xs ys : List ℕ) → Stands n (xs ++ ys) → Stands (n + length xs) ys
  right_stands n xs ys h =
      stands-right (cells_from cells n xs) (cells_from cells (n + length xs) ys) (subst (StandsAt CellDecl p.cells n) (cells_from-append cells n xs ys) h)
      (n + length xs) (ap (λ (k : ℕ). n + k) (sym (length-cells_from cells n xs)))

  -- The agent of a sound symbolic agent is in scope and its news are fresh, where its own cells stand in the program from n on.
  pub agent_sound : (n : ℕ) (scope : List Binding) (a : SymbolicAgent) → p.declared ≤ n → Copies n scope → Stands n (binders a) → Sound cells p.declared (binders_of scope) a
      → Scoped p (cells_of scope) (bound_agent scope n a) × AreFresh p (cells_of scope) (bound_agent scope n a)
  agent_sound n scope (Skip o) le h stands is = (tt, tt)
  agent_sound n scope (Tell o c) le h stands is = (constraint_scoped n scope c h is, tt)
  agent_sound n scope (Then o c a) le h stands is = let body = agent_sound n scope a le h stands is.1 in ((constraint_scoped n scope c h is.0, body.0), body.1)
  agent_sound n scope (Else o c a) le h stands is = let body = agent_sound n scope a le h stands is.1 in ((constraint_scoped n scope c h is.0, body.0), body.1)
  agent_sound n scope (Par o a b) le h stands is =
      let left = agent_sound n scope a le h (left_stands n (binders a) (binders b) stands) is.0 in
      let right = agent_sound (n + length (binders a)) scope b (omega arith) (later n (n + length (binders a)) scope (omega arith) h) (right_stands n (binders a) (binders b) stands) is.1 in
      ((left.0, right.0), (left.1, right.1))
  agent_sound n scope (New o binder a) le h stands is =
      let copied : slice_get p.cells n ≡ Some (copy cells binder n) = stands-head stands in
      let inside = slice_get_within p.cells n (copy cells binder n) copied in
      let own : IsCopy cells p (suc n) (binding binder n) = record { before = omega arith; is = copied } in
      let body = agent_sound (suc n) (binding binder n ∷ scope) a (omega arith) (own, later n (suc n) scope (omega arith) h) (stands-tail stands) is.1 in
      (body.0, (next_fresh n scope binder le inside h copied is.0, body.1))
  agent_sound n scope (Hence o a) le h stands is = agent_sound n scope a le h stands is
  agent_sound n scope (Next o a) le h stands is = agent_sound n scope a le h stands is
