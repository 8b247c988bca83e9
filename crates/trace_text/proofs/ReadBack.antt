-- The line of a store reads back as the part of the store over the declared cells.
use Rattle.std.proofs.Common.{◌≡◌, ℕ, zero, suc, ◌+◌, ◌*◌, ◌<◌, ◌≤◌, Bool, true, false, cond, ◌&&◌, List, [], ◌∷◌, ◌++◌, length, take, Some, None, refl, sym, ap, ◌∙◌, subst, arith}
use Rattle.std.specs.Prelude.{Option, IsTrue, nat_eq, slice_get, unwrap_or}
use Rattle.std.specs.FinMap.{get}
use Rattle.std.specs.List.{join_with_byte, position_from}
use Rattle.std.specs.Cmp.Lexicographic.{pointwise, bytes_decides}
use Rattle.std.proofs.lemmas.Iterator.Adapters.{position_from-zero}
use Rattle.std.proofs.lemmas.List.{length-append, length-take}
use Rattle.std.proofs.lemmas.List.Folds.{list_all-append}
use Rattle.token_system.specs.declared.cell.Token.{Token}
use Rattle.token_system.specs.declared.cell.Value.{Value}
use Rattle.token_system.specs.declared.name.CellName.{CellName}
use Rattle.token_system.specs.declared.name.CellName.TheVariants.{Declared, Local}
use Rattle.token_system.specs.Values.{bottom_of, value_entails}
use Rattle.token_system.specs.Stores.{StoreMap, value_at, store_entails}
use Rattle.token_system.proofs.Adding.{bottom_covered}
use Rattle.agent_core.specs.declared.node.CellDecl.{CellDecl}
use Rattle.agent_core.specs.Agents.{Constraint}
use Rattle.agent_core.specs.WellFormed.{IsWellFormed}
use Rattle.agent_core.specs.Programs.{CoreProgram}
use Rattle.agent_core.specs.Rests.{holds, holds_at, entails}
use Rattle.agent_core.specs.Stores.{IsStore, IsInput, Below}
use Rattle.agent_core.specs.Strata.{Each}
use Rattle.agent_core.proofs.Bools.{both, first_of_both, second_of_both}
use Rattle.agent_core.proofs.OneStore.{value_at-fits}
use Rattle.trace_text.specs.Limits.{longest_store_line}
use Rattle.trace_text.specs.Inputs.{declared_cell, GivesInput}
use Rattle.trace_text.specs.Laws.{HasOwnNames, IsInputPart}
use Rattle.trace_text.specs.StoreLines.{cell_texts, store_line, value_texts}
use Rattle.trace_text.specs.Writing.{spaced}
use Rattle.trace_text.proofs.DeclaredTokens.{declared_name}
use Rattle.trace_text.proofs.GivenInputs.{one_input}
use Rattle.trace_text.proofs.TextDenotations.{SayTexts, SayTexts-append, line_says, texts_short, cell_ask, value_says, few_texts}
use Rattle.trace_text.proofs.ValueTokens.{Entails, value_tokens, value_held, value_covered}
use Rattle.trace_text.proofs.Written.{spaced-append, spaced-join}

-- a prefix of a list has the elements of the list
front_at : {X : Type 0} (n i : ℕ) (xs : List X) (x : X) → slice_get (take n xs) i ≡ Some x → (i < n) × (slice_get xs i ≡ Some x)
front_at zero i xs x e = absurd (cc)
front_at (suc n) i [] x e = absurd (cc)
front_at (suc n) zero (y ∷ xs) x e = (omega arith, e)
front_at (suc n) (suc i) (y ∷ xs) x e = let h = front_at n i xs x e in let lt = h.0 in (omega arith, h.1)

at_front : {X : Type 0} (n i : ℕ) (xs : List X) (x : X) → i < n → slice_get xs i ≡ Some x → slice_get (take n xs) i ≡ Some x
at_front zero i xs x lt e = absurd (omega arith)
at_front (suc n) i [] x lt e = e
at_front (suc n) zero (y ∷ xs) x lt e = e
at_front (suc n) (suc i) (y ∷ xs) x lt e = at_front n i xs x (let h : i < n = omega arith in h) e

-- the first element that passes a test is the one at this place
first_at : {X : Type 0} (test : X → Bool) (xs : List X) (i n : ℕ) (x : X) → slice_get xs n ≡ Some x → test x ≡ true → ((m : ℕ) (y : X) → m < n → slice_get xs m ≡ Some y → test y ≡ false) → position_from test i xs ≡ Some (i + n)
first_at test [] i n x e h before = absurd (cc)
first_at test (y ∷ xs) i zero x e h before =
    let same : y ≡ x = cc in ap (λ b. cond b (Some i) (position_from test (i + 1) xs)) (ap test same ∙ h) ∙ ap Some (let k : i ≡ i + 0 = omega arith in k)
first_at test (y ∷ xs) i (suc n) x e h before =
    ap (λ b. cond b (Some i) (position_from test (i + 1) xs)) (before 0 y (omega arith) refl)
    ∙ first_at test xs (i + 1) n x e h (λ m z lt at. before (suc m) z (omega arith) at)
    ∙ ap Some (let k : i + 1 + n ≡ i + suc n = omega arith in k)

-- a declared cell with a name of its own is the cell of that name
own_named : (p : CoreProgram) (n : ℕ) (d : CellDecl) → HasOwnNames p → n < p.declared → slice_get p.cells n ≡ Some d → declared_cell p d.name ≡ Some n
own_named p n d names lt found =
    position_from-zero (λ (e : CellDecl). pointwise nat_eq e.name d.name) (take p.declared p.cells)
    ∙ first_at (λ (e : CellDecl). pointwise nat_eq e.name d.name) (take p.declared p.cells) 0 n d (at_front p.declared n p.cells d lt found) ((bytes_decides d.name d.name).1 refl) before
    ∙ ap Some (let k : 0 + n ≡ n = omega arith in k)
  where
    before : (m : ℕ) (c : CellDecl) → m < n → slice_get (take p.declared p.cells) m ≡ Some c → pointwise nat_eq c.name d.name ≡ false
    before m c less at = go (pointwise nat_eq c.name d.name) refl
      where
        go : (b : Bool) → pointwise nat_eq c.name d.name ≡ b → b ≡ false
        go false e = refl
        go true e =
            let own = front_at p.declared m p.cells c at in
            let same : m ≡ n = names.distinct m n c d own.0 lt own.1 found ((bytes_decides c.name d.name).0 e) in
            absurd (omega arith)

-- these are declared cells, of which the first has number n
abbrev pub AreCells : CoreProgram → ℕ → List CellDecl → Type 0
AreCells p n ds = (j : ℕ) (e : CellDecl) → slice_get ds j ≡ Some e → (n + j < p.declared) × (slice_get p.cells (n + j) ≡ Some e)

declared_cells : (p : CoreProgram) → AreCells p 0 (take p.declared p.cells)
declared_cells p j e at =
    let own = front_at p.declared j p.cells e at in
    let same : j ≡ 0 + j = omega arith in
    subst (λ (k : ℕ). (k < p.declared) × (slice_get p.cells k ≡ Some e)) same own

first_cell : (p : CoreProgram) (n : ℕ) (d : CellDecl) (ds : List CellDecl) → AreCells p n (d ∷ ds) → (n < p.declared) × (slice_get p.cells n ≡ Some d)
first_cell p n d ds are =
    let same : n + 0 ≡ n = omega arith in subst (λ (k : ℕ). (k < p.declared) × (slice_get p.cells k ≡ Some d)) same (are 0 d refl)

later_cells : (p : CoreProgram) (n : ℕ) (d : CellDecl) (ds : List CellDecl) → AreCells p n (d ∷ ds) → AreCells p (suc n) ds
later_cells p n d ds are j e at =
    let same : n + suc j ≡ suc n + j = omega arith in subst (λ (k : ℕ). (k < p.declared) × (slice_get p.cells k ≡ Some e)) same (are (suc j) e at)

-- the tokens of a declared cell, and those of some cells
abbrev pub own_tokens : ℕ → CellDecl → StoreMap → List Token
own_tokens n d i = value_tokens d.cell.kind d.cell.lo d.cell.hi (value_at i (Declared n) d.cell)

abbrev pub all_tokens : ℕ → List CellDecl → StoreMap → Constraint
all_tokens n [] i = []
all_tokens n (d ∷ ds) i = cell_ask n (own_tokens n d i) ++ all_tokens (suc n) ds i

-- texts depend on the declared cells alone
cells_same : (p : CoreProgram) (v i : StoreMap) → ((n : ℕ) → n < p.declared → get v (Declared n) ≡ get i (Declared n)) → (n : ℕ) (ds : List CellDecl) → AreCells p n ds → cell_texts n ds v ≡ cell_texts n ds i
cells_same p v i same n [] are = refl
cells_same p v i same n (d ∷ ds) are =
    let here = first_cell p n d ds are in
    ap (λ o. value_texts d.name d.cell (unwrap_or o (bottom_of d.cell)) ++ cell_texts (suc n) ds v) (same n here.0)
    ∙ ap (λ (texts : List (List ℕ)). value_texts d.name d.cell (value_at i (Declared n) d.cell) ++ texts) (cells_same p v i same (suc n) ds (later_cells p n d ds are))

-- tokens of one cell, as its value entails them
module _ (p : CoreProgram) (u : StoreMap) (n : ℕ) (d : CellDecl) (lt : n < p.declared) (found : slice_get p.cells n ≡ Some d) where
  holds_one : (t : Token) → holds p [] u (n, t) ≡ value_entails (value_at u (Declared n) d.cell) t
  holds_one t = ap (λ (o : Option CellDecl). holds_at o p [] u n t) found ∙ ap (λ (name : CellName). store_entails u name d.cell t) (declared_name p n lt)

  ask_holds : (ts : List Token) → Each (Entails (value_at u (Declared n) d.cell)) ts → IsTrue (entails p [] u (cell_ask n ts))
  ask_holds [] h = refl
  ask_holds (t ∷ ts) h = both (holds p [] u (n, t)) (entails p [] u (cell_ask n ts)) (holds_one t ∙ h.0) (ask_holds ts h.1)

  ask_tells : (ts : List Token) → IsTrue (entails p [] u (cell_ask n ts)) → Each (Entails (value_at u (Declared n) d.cell)) ts
  ask_tells [] h = tt
  ask_tells (t ∷ ts) h = (
    sym (holds_one t) ∙ first_of_both (holds p [] u (n, t)) (entails p [] u (cell_ask n ts)) h,
    ask_tells ts (second_of_both (holds p [] u (n, t)) (entails p [] u (cell_ask n ts)) h),
  )

module _ (p : CoreProgram) (names : HasOwnNames p) (i : StoreMap) (is : IsStore p i) where
  -- the texts say the tokens
  cells_say : (n : ℕ) (ds : List CellDecl) → AreCells p n ds → SayTexts p (cell_texts n ds i) (all_tokens n ds i)
  cells_say n [] are = refl
  cells_say n (d ∷ ds) are =
      let here = first_cell p n d ds are in
      let value = value_at-fits p i (Declared n) d is here in
      SayTexts-append p (value_texts d.name d.cell (value_at i (Declared n) d.cell)) (cell_texts (suc n) ds i) (cell_ask n (own_tokens n d i)) (all_tokens (suc n) ds i)
      (value_says p n d here.1 (own_named p n d names here.0 here.1) (names.names n d here.0 here.1) (value_at i (Declared n) d.cell) value.0 value.1)
      (cells_say (suc n) ds (later_cells p n d ds are))

  -- they take 90 bytes for each cell at most, with a space behind each
  cells_short : (n : ℕ) (ds : List CellDecl) → AreCells p n ds → length (spaced (cell_texts n ds i)) ≤ 90 * length ds
  cells_short n [] are = omega arith
  cells_short n (d ∷ ds) are =
      let here = first_cell p n d ds are in
      let value = value_at-fits p i (Declared n) d is here in
      let own : List (List ℕ) = value_texts d.name d.cell (value_at i (Declared n) d.cell) in
      let later : List (List ℕ) = cell_texts (suc n) ds i in
      let short : length (spaced own) ≤ 45 * length own = texts_short p own (cell_ask n (own_tokens n d i)) (value_says p n d here.1 (own_named p n d names here.0 here.1) (names.names n d here.0 here.1) (value_at i (Declared n) d.cell) value.0 value.1) in
      let few : length own ≤ 2 = few_texts d.name d (value_at i (Declared n) d.cell) in
      let more : length (spaced later) ≤ 90 * length ds = cells_short (suc n) ds (later_cells p n d ds are) in
      let parts : length (spaced (own ++ later)) ≡ length (spaced own) + length (spaced later) = ap length (spaced-append own later) ∙ length-append (spaced own) (spaced later) in
      omega (arith, parts)

  -- the store entails the tokens
  cells_hold : (n : ℕ) (ds : List CellDecl) → AreCells p n ds → IsTrue (entails p [] i (all_tokens n ds i))
  cells_hold n [] are = refl
  cells_hold n (d ∷ ds) are =
      let here = first_cell p n d ds are in
      let value = value_at-fits p i (Declared n) d is here in
      list_all-append (holds p [] i) (cell_ask n (own_tokens n d i)) (all_tokens (suc n) ds i)
      ∙ both (entails p [] i (cell_ask n (own_tokens n d i))) (entails p [] i (all_tokens (suc n) ds i))
      (ask_holds p i n d here.0 here.1 (own_tokens n d i) (value_held d.cell.kind d.cell.lo d.cell.hi (value_at i (Declared n) d.cell) d.cell.lawful value.0 value.1))
      (cells_hold (suc n) ds (later_cells p n d ds are))

  -- a store that entails the tokens entails those of each cell
  cells_tell : (u : StoreMap) (n : ℕ) (ds : List CellDecl) → AreCells p n ds → IsTrue (entails p [] u (all_tokens n ds i)) → (j : ℕ) (e : CellDecl) → slice_get ds j ≡ Some e → Each (Entails (value_at u (Declared (n + j)) e.cell)) (own_tokens (n + j) e i)
  cells_tell u n [] are h j e at = absurd (cc)
  cells_tell u n (d ∷ ds) are h zero e at =
      let here = first_cell p n d ds are in
      let split : IsTrue (entails p [] u (cell_ask n (own_tokens n d i)) && entails p [] u (all_tokens (suc n) ds i)) = sym (list_all-append (holds p [] u) (cell_ask n (own_tokens n d i)) (all_tokens (suc n) ds i)) ∙ h in
      let same : d ≡ e = cc in
      let place : n ≡ n + 0 = omega arith in
      subst (λ (c : CellDecl). Each (Entails (value_at u (Declared (n + 0)) c.cell)) (own_tokens (n + 0) c i)) same
      (subst (λ (k : ℕ). Each (Entails (value_at u (Declared k) d.cell)) (own_tokens k d i)) place
      (ask_tells p u n d here.0 here.1 (own_tokens n d i) (first_of_both (entails p [] u (cell_ask n (own_tokens n d i))) (entails p [] u (all_tokens (suc n) ds i)) split)))
  cells_tell u n (d ∷ ds) are h (suc j) e at =
      let split : IsTrue (entails p [] u (cell_ask n (own_tokens n d i)) && entails p [] u (all_tokens (suc n) ds i)) = sym (list_all-append (holds p [] u) (cell_ask n (own_tokens n d i)) (all_tokens (suc n) ds i)) ∙ h in
      let place : suc n + j ≡ n + suc j = omega arith in
      subst (λ (k : ℕ). Each (Entails (value_at u (Declared k) e.cell)) (own_tokens k e i)) place
      (cells_tell u (suc n) ds (later_cells p n d ds are) (second_of_both (entails p [] u (cell_ask n (own_tokens n d i))) (entails p [] u (all_tokens (suc n) ds i)) split) j e at)

-- the line of a store is short
pub line_short : (p : CoreProgram) (i : StoreMap) → IsWellFormed p → HasOwnNames p → IsStore p i → length (store_line p i) ≤ longest_store_line
line_short p i program names is = go (cell_texts 0 (take p.declared p.cells) i) whole
  where
    whole : length (spaced (cell_texts 0 (take p.declared p.cells) i)) ≤ longest_store_line + 1
    whole =
        let most : length (spaced (cell_texts 0 (take p.declared p.cells) i)) ≤ 90 * length (take p.declared p.cells) = cells_short p names i is 0 (take p.declared p.cells) (declared_cells p) in
        let few : p.declared ≤ 256 = program.limits.few_declared in
        omega (arith, length-take p.declared p.cells)

    go : (texts : List (List ℕ)) → length (spaced texts) ≤ longest_store_line + 1 → length (join_with_byte 32 texts) ≤ longest_store_line
    go [] h = omega arith
    go (text ∷ texts) h = omega (arith, ap length (spaced-join text texts), length-append (join_with_byte 32 (text ∷ texts)) (32 ∷ []))

-- a store that entails the tokens of an input is above it
input_below : (p : CoreProgram) (i u : StoreMap) → HasOwnNames p → IsInput p i → IsStore p u → IsTrue (entails p [] u (all_tokens 0 (take p.declared p.cells) i)) → Below p i u
input_below p i u names input iu h (Declared m) d t named fits entailed =
    let place : 0 + m ≡ m = omega arith in
    let told : Each (Entails (value_at u (Declared m) d.cell)) (own_tokens m d i) =
    subst (λ (k : ℕ). Each (Entails (value_at u (Declared k) d.cell)) (own_tokens k d i)) place
    (cells_tell p names i input.store u 0 (take p.declared p.cells) (declared_cells p) h m d (at_front p.declared m p.cells d named.0 named.1)) in
    let value = value_at-fits p i (Declared m) d input.store named in
    let other = value_at-fits p u (Declared m) d iu named in
    value_covered d.cell.kind d.cell.lo d.cell.hi (value_at i (Declared m) d.cell) (value_at u (Declared m) d.cell) value.0 value.1 other.0 told t fits entailed
input_below p i u names input iu h (Local m births) d t named fits entailed = go (get i (Local m births)) refl entailed
  where
    go : (o : Option Value) → get i (Local m births) ≡ o → IsTrue (value_entails (unwrap_or o (bottom_of d.cell)) t) → IsTrue (store_entails u (Local m births) d.cell t)
    go None e at_bottom = bottom_covered d.cell.kind d.cell.lo d.cell.hi (value_at u (Local m births) d.cell) (value_at-fits p u (Local m births) d iu named).0 t fits at_bottom
    go (Some v) e at_value = let own = input.declared (Local m births) v e in let same : Local m births ≡ Declared own.0 = own.1 in absurd (cc)

-- the line of a store gives the part of it over the declared cells
pub line_read : (p : CoreProgram) (v i : StoreMap) → IsWellFormed p → HasOwnNames p → IsInputPart p v i → GivesInput p (store_line p v) i
line_read p v i program names part =
    let cells : List CellDecl = take p.declared p.cells in
    let line : store_line p v ≡ store_line p i = ap (join_with_byte 32) (cells_same p v i part.same 0 (take p.declared p.cells) (declared_cells p)) in
    subst (λ (bytes : List ℕ). GivesInput p bytes i) (sym line) (record {
      short = let h = line_short p i program names part.input.store in omega arith;
      tokens = all_tokens 0 (take p.declared p.cells) i;
      said = line_says p (cell_texts 0 (take p.declared p.cells) i) (all_tokens 0 (take p.declared p.cells) i) (cells_say p names i part.input.store 0 (take p.declared p.cells) (declared_cells p));
      input = part.input;
      tells = cells_hold p names i part.input.store 0 (take p.declared p.cells) (declared_cells p);
      least = λ u iu h. input_below p i u names part.input iu h;
    })

-- two inputs have two lines
pub line_one : (p : CoreProgram) (v w : StoreMap) → IsWellFormed p → HasOwnNames p → IsInput p v → IsInput p w → store_line p v ≡ store_line p w → v ≡ w
line_one p v w program names iv iw e =
    one_input p (store_line p w) v w
    (subst (λ (bytes : List ℕ). GivesInput p bytes v) e (line_read p v v program names (record { input = iv; same = λ n lt. refl })))
    (line_read p w w program names (record { input = iw; same = λ n lt. refl }))
