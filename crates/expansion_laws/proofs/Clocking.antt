-- The tells of a time's body ask for the clock.
use Rattle.std.proofs.Common.{◌≡◌, ℕ, suc, ◌+◌, List, [], ◌∷◌, ◌++◌, length, None, refl, sym, ap, ◌∙◌, arith, append_assoc, inl, inr}
use Rattle.std.specs.Prelude.{Option, unwrap_or, Contains}
use Rattle.std.proofs.lemmas.List.{append-nil}
use Rattle.std.proofs.lemmas.List.Elements.{Contains-append_left, Contains-push}
use Rattle.token_system.specs.declared.cell.Token.{Token}
use Rattle.agent_core.specs.Agents.{Constraint}
use Rattle.agent_core.specs.Leaves.{Guard, Positive, Negative}
use Rattle.agent_core.specs.WellFormed.{AreInScope}
use Rattle.agent_core.specs.Programs.{CoreProgram}
use Rattle.agent_core.specs.Strata.{Each}
use Rattle.tdcc_reader.specs.Trees.{Tree, Time}
use Rattle.surface_laws.specs.Surfaces.{IsScopedTree}
use Rattle.expansion_laws.specs.SymbolicAgents.{SymbolicAgent, Skip, Tell, Then, Else, Par, New, Hence, Next}
use Rattle.expansion_laws.specs.Numbering.{Binding, binding, bound_cell, bound_constraint}
use Rattle.expansion_laws.specs.Table.{signal_on, when, clocked, timed}
use Rattle.expansion_laws.specs.Expanding.{symbolic_of}
use Rattle.expansion_laws.specs.Origins.{subtree, subtrees, copied}
use Rattle.expansion_laws.proofs.Walks.{Way, way, below, asked, denied, born, cells_of, IsKnown, AreKnown, Reads, Opens, IsEven, even_born, reads_first, opens_same, opens_born, EachTell, Ever, Own, always_kept}
use Rattle.expansion_laws.proofs.Stemming.{Has, has_own}
use Rattle.expansion_laws.proofs.Enclosing.{IsBelow, IsValid, stands}

-- the path asks for a constraint that copies this one, read where the news of its local cells were around
pub record IsClocked (ms : List ℕ) (floor : ℕ) (c : Constraint) (w : Way) : Type 0 where
  pub ask : Constraint
  pub copies : copied ms ask ≡ c
  pub births : List ℕ
  pub more : List ℕ
  pub first : w.births ≡ births ++ more
  pub older : List Binding
  pub newer : List Binding
  pub last : w.scope ≡ newer ++ older
  pub even : length births ≡ length older
  pub known : AreKnown floor (cells_of older) ask
  pub asks : Contains w.path (Positive births ask)

pub clocked_on : (ms : List ℕ) (floor : ℕ) (c : Constraint) (w : Way) (g : Guard) → IsClocked ms floor c w → IsClocked ms floor c (below w g)
clocked_on ms floor c w g h = record {
  ask = h.ask;
  copies = h.copies;
  births = h.births;
  more = h.more;
  first = h.first;
  older = h.older;
  newer = h.newer;
  last = h.last;
  even = h.even;
  known = h.known;
  asks = Contains-append_left w.path (g ∷ []) (Positive h.births h.ask) h.asks;
}

-- each cell of the constraint is read in this scope
abbrev pub ReadsAll : List ℕ → ℕ → List Binding → Constraint → Type 0
ReadsAll ms floor scope c = Each (λ (pair : ℕ × Token). Reads ms floor scope pair.0) c

module _ (ms : List ℕ) (floor : ℕ) where
  -- the constraint is copied
  pub read_back : (scope : List Binding) (c : Constraint) → ReadsAll ms floor scope c → copied ms (bound_constraint scope c) ≡ c
  read_back scope [] h = refl
  read_back scope (pair ∷ c) h =
      ap (λ (cell : ℕ). (cell, pair.1) ∷ copied ms (bound_constraint scope c)) (ap (λ o. unwrap_or o (bound_cell scope pair.0)) h.0.bound)
      ∙ ap (λ (ask : Constraint). pair ∷ ask) (read_back scope c h.1)

  pub all_known : (scope : List Binding) (c : Constraint) → ReadsAll ms floor scope c → AreKnown floor (cells_of scope) (bound_constraint scope c)
  all_known scope [] h = tt
  all_known scope (pair ∷ c) h = (h.0.known, all_known scope c h.1)

  wider : (w v : Way) → Opens ms w v → (c : Constraint) → ReadsAll ms floor w.scope c → ReadsAll ms floor v.scope c
  wider w v o [] h = tt
  wider w v o (pair ∷ c) h = (o.wide floor pair.0 h.0, wider w v o c h.1)

  -- below the ask itself
  pub asked_clocked : (w : Way) (c : Constraint) → IsEven w → ReadsAll ms floor w.scope c → IsClocked ms floor c (asked w c)
  asked_clocked w c even h = record {
    ask = bound_constraint w.scope c;
    copies = read_back w.scope c h;
    births = w.births;
    more = [];
    first = sym (append-nil w.births);
    older = w.scope;
    newer = [];
    last = refl;
    even = even;
    known = all_known w.scope c h;
    asks = Contains-push w.path (Positive w.births (bound_constraint w.scope c));
  }

  born_clocked : (w : Way) (c : Constraint) (binder cell t : ℕ) → IsClocked ms floor c w → IsClocked ms floor c (born w binder cell t)
  born_clocked w c binder cell t h = record {
    ask = h.ask;
    copies = h.copies;
    births = h.births;
    more = h.more ++ t ∷ [];
    first = ap (λ (b : List ℕ). b ++ t ∷ []) h.first ∙ append_assoc h.births h.more (t ∷ []);
    older = h.older;
    newer = binding binder cell ∷ h.newer;
    last = ap (λ (q : List Binding). binding binder cell ∷ q) h.last;
    even = h.even;
    known = h.known;
    asks = h.asks;
  }

  module _ (R : Option ℕ → Way → Constraint → Type 0) (d : ℕ) (c : Constraint) (has : (o : Option ℕ) (w : Way) (b : Constraint) → IsClocked ms floor c w → R o w b) (own : Own ms R d) where
    -- what holds wherever c is asked for holds of when c do A
    whenever : (a : SymbolicAgent) → ((w : Way) → IsEven w → ReadsAll ms floor w.scope c → IsClocked ms floor c w → EachTell ms R w a) → (w : Way) → IsEven w → ReadsAll ms floor w.scope c → EachTell ms R w (when d c a)
    whenever a h w even reads cell t e = always_kept ms R under inner ever under same
      where
        under : Way
        under = born w d cell t

        same : Opens ms under under
        same = opens_same ms under (even_born w d cell t even)

        inner : SymbolicAgent
        inner = Then None c (Par None (Else None (signal_on d) a) (Hence None (Tell None (signal_on d))))

        ever : Ever ms R under inner
        ever v o =
            let still = wider under v o c (wider w under (opens_born ms w w d cell t e (opens_same ms w even)) c reads) in
            let first = o.wide 0 d (reads_first ms 0 w.scope d cell d refl e) in (
              h (denied (asked v c) (signal_on d)) o.even still (clocked_on ms floor c (asked v c) (Negative v.births (bound_constraint v.scope (signal_on d))) (asked_clocked v c o.even still)),
              λ u q. own u (q.wide 0 d first),
            )

    -- below an ask for the clock each tell of the clocked symbolic agent is on it
    clocks_each : (a : SymbolicAgent) (w : Way) → IsEven w → ReadsAll ms floor w.scope c → IsClocked ms floor c w → EachTell ms R w (clocked d c a)
    clocks_each (Skip o) w even reads h = tt
    clocks_each (Tell o b) w even reads h = has o w b h
    clocks_each (Then o b a) w even reads h = clocks_each a (asked w b) even reads (clocked_on ms floor c w (Positive w.births (bound_constraint w.scope b)) h)
    clocks_each (Else o b a) w even reads h = clocks_each a (denied w b) even reads (clocked_on ms floor c w (Negative w.births (bound_constraint w.scope b)) h)
    clocks_each (Par o l r) w even reads h = (clocks_each l w even reads h, clocks_each r w even reads h)
    clocks_each (New o binder a) w even reads h = λ cell t e.
        clocks_each a (born w binder cell t) (even_born w binder cell t even) (wider w (born w binder cell t) (opens_born ms w w binder cell t e (opens_same ms w even)) c reads) (born_clocked w c binder cell t h)
    clocks_each (Hence o a) w even reads h = λ v q. let still = wider w v q c reads in clocks_each a (asked v c) q.even still (asked_clocked v c q.even still)
    clocks_each (Next o a) w even reads h = λ v q. whenever (clocked d c a) (clocks_each a) v q.even (wider w v q c reads)

    pub time_clocks : (a : SymbolicAgent) (w : Way) → IsEven w → ReadsAll ms floor w.scope c → EachTell ms R w (timed d c a)
    time_clocks a w even reads = whenever (clocked d c a) (clocks_each a) w even reads

  -- what is in scope is read
  pub in_scope : (p : CoreProgram) → (locals : List ℕ) (w : Way) → p.declared ≡ floor → IsValid ms floor locals w → (c : Constraint) → AreInScope p locals c → ReadsAll ms floor w.scope c
  in_scope p locals w same v [] h = tt
  in_scope p locals w same v (pair ∷ c) h = (v.reads pair.0 (go h.0.visible), in_scope p locals w same v c h.1)
    where
      go : IsKnown p.declared locals pair.0 → IsKnown floor locals pair.0
      go (inl lt) = inl (omega arith)
      go (inr among) = inr among

-- in the symbolic agent of a tree each tell that stems from a form inside this time is on the clock
pub tree_clocks : (q : CoreProgram) (cells : ℕ) (ms : List ℕ) (tree : Tree) (m : ℕ) (a : Tree) (c : Constraint) → IsScopedTree q [] tree → ((binder : ℕ) → IsKnown q.declared [] binder → Reads ms q.declared [] binder) → Contains (subtrees 0 tree) (subtree m (Time a c))
    → EachTell ms (Has cells ms (IsBelow m (Time a c)) (IsClocked ms q.declared c)) (way [] [] []) (symbolic_of cells 0 tree)
tree_clocks q cells ms tree m a c scoped read k =
    let In = IsBelow m (Time a c) in
    let G = IsClocked ms q.declared c in
    let at = stands cells ms q.declared m (Time a c) G (clocked_on ms q.declared c) [] tree 0 k in
    let clock = (at.scoped q scoped).1.tokens in
    let own = has_own cells ms In G m (λ i. let behind = i.0 in omega arith) in
    let here = time_clocks ms q.declared (Has cells ms In G) (cells + m) c (λ o w b h form stems i. h) own (symbolic_of cells (suc m) a) in
    at.each (λ w v. here w v.even (in_scope ms q.declared q at.around w refl v c clock)) (way [] [] []) (record { even = refl; reads = read })
