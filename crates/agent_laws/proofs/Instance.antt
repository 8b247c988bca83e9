-- The leaves of an instant and the stores of a program are a system of the fixpoint's kind.
use Rattle.std.proofs.Common.{◌≡◌, ℕ, suc, ◌<◌, ◌≤◌, Bool, true, false, not, List, [], ◌∷◌, length, refl, sym, ap, ◌∙◌, subst, arith}
use Rattle.std.specs.Prelude.{IsTrue, Option, slice_get, slice_index, nat_lt, cond, min}
use Rattle.std.specs.List.{list_all}
use Rattle.std.proofs.lemmas.Option.{slice_get_within}
use Rattle.std.proofs.Math.Nat.{min-le_left, min-le_right, le-min}
use Rattle.token_system.specs.declared.name.CellName.{CellName}
use Rattle.token_system.specs.declared.name.CellName.TheVariants.{Declared, Local}
use Rattle.token_system.specs.declared.cell.Token.{Token}
use Rattle.token_system.specs.Stores.{StoreMap}
use Rattle.token_system.proofs.Alike.{true_false}
use Rattle.agent_core.specs.declared.node.CellDecl.{CellDecl}
use Rattle.agent_core.specs.Agents.{Constraint}
use Rattle.agent_core.specs.Programs.{CoreProgram}
use Rattle.agent_core.specs.Names.{Names, name_of, local_name, new_of, new_cell, cell_named}
use Rattle.agent_core.specs.Stores.{IsStore, Below}
use Rattle.agent_core.specs.Rests.{holds_at, holds, entails}
use Rattle.agent_core.specs.WellFormed.{IsWellFormed}
use Rattle.agent_core.specs.Leaves.{Guard, Positive, Negative, Leaf, tells}
use Rattle.agent_core.specs.Strata.{Each}
use Rattle.agent_core.specs.Tellings.{tell_at, tell_all}
use Rattle.agent_core.proofs.OneStore.{Below-antisym}
use Rattle.agent_core.proofs.Told.{BelowAt, told-at}
use Rattle.agent_core.proofs.Bools.{both, first_of_both, second_of_both}
use Rattle.agent_core.specs.Scope.{TokenFits, ConstraintFits}
use Rattle.agent_core.proofs.NewNodes.{new_of-found}
use Rattle.agent_core.proofs.Tellings.{tell_all-least, tell_all-entails, tells_one, entails-above}
use Rattle.agent_laws.specs.LeafRests.{asked, free}
use Rattle.agent_laws.specs.LeafLevels.{least_told, leaf_level}
use Rattle.agent_laws.specs.Ways.{BelowUpto, AreBelow}
use Rattle.agent_laws.proofs.Eachs.{Each-map}
use Rattle.agent_laws.proofs.System.{System}
use Rattle.agent_laws.proofs.LeafLevels.{Under, LeafStratified}

-- each token of the guard fits
abbrev pub GuardFits : CoreProgram → Guard → Type 0
GuardFits p (Positive b c) = ConstraintFits p b c
GuardFits p (Negative b c) = ConstraintFits p b c

pub record LeafFits (p : CoreProgram) (table : List ℕ) (l : Leaf) : Type 0 where
  pub told : ConstraintFits p l.births (tells l.agent)
  pub path : Each (GuardFits p) l.path
  pub stratified : LeafStratified table l

pub not_up : (x y : Bool) → (IsTrue y → IsTrue x) → IsTrue (not x) → IsTrue (not y)
not_up x true up h = absurd (true_false (sym h ∙ ap not (up refl)))
not_up x false up h = refl

-- the cell of a name is one of the program's
pub cell_within : (p : CoreProgram) (q : CellName) (d : CellDecl) → Names p q d → cell_named p q < length p.cells
cell_within p (Declared n) d named = slice_get_within p.cells n d named.1
cell_within p (Local m births) d (cell, body, new, found, long) =
    let same : new_cell (slice_get p.nodes m) ≡ cell = ap new_cell new in
    subst (λ (c : ℕ). c < length p.cells) (sym same) (slice_get_within p.cells cell d found)

-- s strata, or more
module _ (p : CoreProgram) (table : List ℕ) (s : ℕ) (low : AreBelow p table s) (is : IsWellFormed p) where
  abbrev pub level_of : CellName → ℕ
  level_of q = slice_index table (cell_named p q)

  abbrev pub Upto : ℕ → StoreMap → StoreMap → Type 0
  Upto = BelowUpto p table

  name-cell : (b : List ℕ) (x : ℕ × Token) → TokenFits p b x → cell_named p (name_of p b x.0) ≡ x.0
  name-cell b x f = go (nat_lt x.0 p.declared) refl
    where
      go : (r : Bool) → nat_lt x.0 p.declared ≡ r → cell_named p (cond r (Declared x.0) (local_name p.nodes b (new_of p.nodes x.0))) ≡ x.0
      go true e = refl
      go false e = ap new_cell (new_of-found p is x.0 f.decl e f.found).1

  name-level : (b : List ℕ) (x : ℕ × Token) → TokenFits p b x → level_of (name_of p b x.0) ≡ slice_index table x.0
  name-level b x f = ap (slice_index table) (name-cell b x f)

  holds-upto : (k : ℕ) (b : List ℕ) (u w : StoreMap) (x : ℕ × Token) → TokenFits p b x → slice_index table x.0 < k → Upto k u w → IsTrue (holds p b u x) → IsTrue (holds p b w x)
  holds-upto k b u w x f lt upto h =
      subst (λ (o : Option CellDecl). IsTrue (holds_at o p b w x.0 x.1)) (sym f.found)
      (upto (name_of p b x.0) (subst (λ (m : ℕ). m < k) (sym (name-level b x f)) lt) f.decl x.1 f.named f.fits (subst (λ (o : Option CellDecl). IsTrue (holds_at o p b u x.0 x.1)) f.found h))

  entails-upto : (k : ℕ) (b : List ℕ) (u w : StoreMap) (c : Constraint) → ConstraintFits p b c → Each (λ x. slice_index table x.0 < k) c → Upto k u w → IsTrue (entails p b u c) → IsTrue (entails p b w c)
  entails-upto k b u w [] f lt upto h = refl
  entails-upto k b u w (x ∷ c) f lt upto h =
      both _ _ (holds-upto k b u w x f.0 lt.0 upto (first_of_both (holds p b u x) (entails p b u c) h)) (entails-upto k b u w c f.1 lt.1 upto (second_of_both (holds p b u x) (entails p b u c) h))

  weaken : (k m : ℕ) (c : Constraint) → m < k → Each (λ x. slice_index table x.0 ≤ m) c → Each (λ x. slice_index table x.0 < k) c
  weaken k m c lt h = Each-map (λ x. slice_index table x.0 ≤ m) (λ x. slice_index table x.0 < k) (λ x le. omega arith) c h

  below_low : (k m : ℕ) (c : Constraint) → m ≤ k → Each (λ x. slice_index table x.0 < m) c → Each (λ x. slice_index table x.0 < k) c
  below_low k m c le h = Each-map (λ x. slice_index table x.0 < m) (λ x. slice_index table x.0 < k) (λ x lt. omega arith) c h

  pub asked-upto : (k m : ℕ) (u w : StoreMap) (path : List Guard) → m < k → Each (GuardFits p) path → Each (Under table m) path → Upto k u w → IsTrue (list_all (asked p u) path) → IsTrue (list_all (asked p w) path)
  asked-upto k m u w [] lt f under upto h = refl
  asked-upto k m u w (Positive b c ∷ path) lt f under upto h =
      both _ _ (entails-upto k b u w c f.0 (weaken k m c lt under.0) upto (first_of_both (entails p b u c) (list_all (asked p u) path) h)) (asked-upto k m u w path lt f.1 under.1 upto (second_of_both (entails p b u c) (list_all (asked p u) path) h))
  asked-upto k m u w (Negative b c ∷ path) lt f under upto h = asked-upto k m u w path lt f.1 under.1 upto h

  pub free-down : (k m : ℕ) (u w : StoreMap) (path : List Guard) → m ≤ k → Each (GuardFits p) path → Each (Under table m) path → Upto k u w → IsTrue (list_all (free p w) path) → IsTrue (list_all (free p u) path)
  free-down k m u w [] le f under upto h = refl
  free-down k m u w (Positive b c ∷ path) le f under upto h = free-down k m u w path le f.1 under.1 upto h
  free-down k m u w (Negative b c ∷ path) le f under upto h =
      both _ _ (not_up (entails p b w c) (entails p b u c) (entails-upto k b u w c f.0 (below_low k m c le under.0) upto) (first_of_both (not (entails p b w c)) (list_all (free p w) path) h))
      (free-down k m u w path le f.1 under.1 upto (second_of_both (not (entails p b w c)) (list_all (free p w) path) h))

  each_low : (b : List ℕ) (c : Constraint) → ConstraintFits p b c → Each (λ x. slice_index table x.0 < s) c
  each_low b [] f = tt
  each_low b (x ∷ c) f = (low x.0 (slice_get_within p.cells x.0 f.0.decl f.0.found), each_low b c f.1)

  -- no guard asks for a cell of a number above all
  under_all : (path : List Guard) → Each (GuardFits p) path → Each (Under table s) path
  under_all [] f = tt
  under_all (Positive b c ∷ path) f = (Each-map (λ x. slice_index table x.0 < s) (λ x. slice_index table x.0 ≤ s) (λ x lt. omega arith) c (each_low b c f.0), under_all path f.1)
  under_all (Negative b c ∷ path) f = (each_low b c f.0, under_all path f.1)

  under-min : (k m : ℕ) (path : List Guard) → Each (Under table k) path → Each (Under table m) path → Each (Under table (min k m)) path
  under-min k m [] h g = tt
  under-min k m (Positive b c ∷ path) h g = (go c h.0 g.0, under-min k m path h.1 g.1)
    where
      go : (c : Constraint) → Each (λ x. slice_index table x.0 ≤ k) c → Each (λ x. slice_index table x.0 ≤ m) c → Each (λ x. slice_index table x.0 ≤ min k m) c
      go [] h g = tt
      go (x ∷ c) h g = (le-min h.0 g.0, go c h.1 g.1)
  under-min k m (Negative b c ∷ path) h g = (go c h.0 g.0, under-min k m path h.1 g.1)
    where
      go : (c : Constraint) → Each (λ x. slice_index table x.0 < k) c → Each (λ x. slice_index table x.0 < m) c → Each (λ x. slice_index table x.0 < min k m) c
      go [] h g = tt
      go (x ∷ c) h g = (omega arith, go c h.1 g.1)

  pub under_level : (told : Constraint) (path : List Guard) → Each (GuardFits p) path → Each (λ x. Each (Under table (slice_index table x.0)) path) told → Each (Under table (least_told table s told)) path
  under_level [] path f h = under_all path f
  under_level (x ∷ told) path f h = under-min (slice_index table x.0) (least_told table s told) path h.0 (under_level told path f h.1)

  pub least-below : (m : ℕ) (told : Constraint) → m ≤ least_told table s told → Each (λ x. m ≤ slice_index table x.0) told
  least-below m [] le = tt
  least-below m (x ∷ told) le =
      let a : m ≤ slice_index table x.0 = omega (arith, min-le_left (slice_index table x.0) (least_told table s told)) in
      let b : m ≤ least_told table s told = omega (arith, min-le_right (slice_index table x.0) (least_told table s told)) in
      (a, least-below m told b)

  -- told tokens change no more than needed, stratum by stratum
  pub tell_all-upto : (k m : ℕ) (b : List ℕ) (told : Constraint) (u w : StoreMap) → ConstraintFits p b told → Each (λ x. m ≤ slice_index table x.0) told → IsStore p u → IsStore p w → Upto k u w
      → (m < k → IsTrue (entails p b w told)) → Upto k (tell_all p b told u) w
  tell_all-upto k m b [] u w f le iu iw upto sat = upto
  tell_all-upto k m b (x ∷ told) u w f le iu iw upto sat =
      let next : StoreMap = tell_at (slice_get p.cells x.0) p b u x.0 x.1 in
      tell_all-upto k m b told next w f.1 le.1 (tells_one p b u x iu f.0).store iw (one_upto) (λ lt. second_of_both (holds p b w x) (entails p b w told) (sat lt))
    where
      one_upto : Upto k (tell_at (slice_get p.cells x.0) p b u x.0 x.1) w
      one_upto q lt =
          subst (λ (o : Option CellDecl). BelowAt p (tell_at o p b u x.0 x.1) w q) (sym f.0.found)
          (told-at p u (name_of p b x.0) f.0.decl x.1 iu f.0.named f.0.fits w iw q (upto q lt) (λ same.
          let here : level_of q ≡ slice_index table x.0 = ap level_of same ∙ name-level b x f.0 in
          let below : m ≤ slice_index table x.0 = le.0 in
          subst (λ (o : Option CellDecl). IsTrue (holds_at o p b w x.0 x.1)) f.0.found (first_of_both (holds p b w x) (entails p b w told) (sat (omega arith)))))

  pub below_of : (u w : StoreMap) → ((k : ℕ) → Upto k u w) → Below p u w
  below_of u w h q d t named fits = h (suc (level_of q)) q (omega arith) d t named fits

  pub of_below : (u w : StoreMap) → Below p u w → (k : ℕ) → Upto k u w
  of_below u w h k q lt d t named fits = h q d t named fits

  abbrev pub system : System
  system = record {
    Store = StoreMap;
    Leaf = Leaf;
    IsStore = IsStore p;
    IsLeaf = LeafFits p table;
    Upto = Upto;
    strata = s;
    level = leaf_level table s;
    on = λ l u. list_all (asked p u) l.path;
    off = λ l u. not (list_all (free p u) l.path);
    told = λ l u. entails p l.births u (tells l.agent);
    tell = λ l u. tell_all p l.births (tells l.agent) u;
    Upto-none = λ u w q lt. absurd (omega arith);
    Upto-refl = λ k u q lt d t named fits h. h;
    Upto-trans = λ k u v w a b q lt d t named fits h. b q lt d t named fits (a q lt d t named fits h);
    Upto-all = λ u w h k q lt d t named. h q (low (cell_named p q) (cell_within p q d named)) d t named;
    one = λ u w iu iw a b. Below-antisym p u w iu iw (below_of u w a) (below_of w u b);
    on-up = λ l k u w f lt upto h. asked-upto k (least_told table s (tells l.agent)) u w l.path lt f.path (under_level (tells l.agent) l.path f.path f.stratified) upto h;
    off-up = λ l k u w f le upto h.
        not_up (list_all (free p u) l.path) (list_all (free p w) l.path) (free-down k (least_told table s (tells l.agent)) u w l.path le f.path (under_level (tells l.agent) l.path f.path f.stratified) upto) h;
    told-up = λ l u w f up h. entails-above p l.births u w (tells l.agent) f.told (below_of u w up) h;
    tell-store = λ l u f iu. (tell_all-least p l.births (tells l.agent) u iu f.told).store;
    tell-above = λ l u f iu k. of_below u (tell_all p l.births (tells l.agent) u) (tell_all-least p l.births (tells l.agent) u iu f.told).above k;
    tell-told = λ l u f iu. tell_all-entails p l.births (tells l.agent) u iu f.told;
    tell-least = λ l k u w f iu iw upto sat.
        tell_all-upto k (least_told table s (tells l.agent)) l.births (tells l.agent) u w f.told (least-below (least_told table s (tells l.agent)) (tells l.agent) (omega arith)) iu iw upto sat;
  }
