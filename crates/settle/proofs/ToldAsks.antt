-- Which asks a leaf's telling can make hold: those that name a cell that it tells. So what is noted of the asks is right again once these were evaluated.
use Rattle.std.proofs.Common.{◌≡◌, ◌≢◌, ◌⊎◌, inl, inr, ℕ, zero, suc, ◌+◌, ◌<◌, ◌≤◌, Bool, true, false, List, [], ◌∷◌, length, get_or, Option, Some, None, refl, sym, ap, ◌∙◌, subst, arith}
use Rattle.std.specs.Prelude.{◌&&◌, ◌==◌, ◌||◌, Contains, IsTrue, nat_lt, slice_get, unwrap_or}
use Rattle.std.specs.FinMap.{get}
use Rattle.std.proofs.lemmas.Bool.Decides.{nat_tests}
use Rattle.std.proofs.lemmas.Option.{slice_get_cases}
use Rattle.token_system.specs.Stores.{StoreMap, store_entails}
use Rattle.token_system.specs.Values.{bottom_of, value_entails}
use Rattle.token_system.specs.declared.name.CellName.{CellName}
use Rattle.token_system.proofs.Alike.{true_false}
use Rattle.token_system.proofs.Telling.{get-told_other}
use Rattle.agent_core.specs.Strata.{Each}
use Rattle.agent_laws.proofs.Eachs.{all_each, each_at}
use Rattle.instant_net.specs.declared.parts.Atom.{Atom}
use Rattle.instant_net.specs.declared.parts.NetCell.{NetCell}
use Rattle.instant_net.specs.declared.parts.NetGuard.{NetGuard}
use Rattle.instant_net.specs.declared.parts.NetLeaf.{NetLeaf}
use Rattle.instant_net.specs.NamedLeaves.{Named, named_entails, tell_named}
use Rattle.instant_net.specs.Nets.{Flat, named_atoms, AtomFits, LeafIsWhole, atoms_of}
use Rattle.instant_net.specs.Opened.{IsNet}
use Rattle.instant_net.specs.Outputs.{IsNetStoreBelow}
use Rattle.instant_net.specs.Readers.{guard_ask_of}
use Rattle.instant_net.specs.Words.{store_in, AreWords}
use Rattle.instant_net.proofs.StoreLookups.{names_apart}
use Rattle.instant_net.proofs.WordStores.{words-store}
use Rattle.parked_asks.specs.Held.{Held, is_noted}
use Rattle.parked_asks.specs.Watches.{asks_for, names_cell, watchers}
use Rattle.parked_asks.proofs.Numbers.{has-number}
use Rattle.settle.specs.Asking.{is_held, AreNoted, NotesMore}
use Rattle.net_laws.proofs.NetTells.{entails-above, named-each, named-fits, tell-all}
use Rattle.net_laws.proofs.NetSystem.{tells}

-- STORES THAT AGREE ON WHAT AN ASK NAMES

same-entails : (u w : StoreMap) (ask : List Named) → Each (λ x. get u x.name ≡ get w x.name) ask → named_entails u ask ≡ named_entails w ask
same-entails u w [] h = refl
same-entails u w (x ∷ ask) h =
    ap (λ o. value_entails (unwrap_or o (bottom_of x.cell)) x.token && named_entails u ask) h.0
    ∙ ap (λ b. store_entails w x.name x.cell x.token && b) (same-entails u w ask h.1)

-- telling changes what is named alone
tell-elsewhere : (xs : List Named) (u : StoreMap) (n : CellName) → Each (λ x. n ≢ x.name) xs → get (tell_named xs u) n ≡ get u n
tell-elsewhere [] u n h = refl
tell-elsewhere (x ∷ xs) u n h = tell-elsewhere xs _ n h.1 ∙ get-told_other u x.name n x.cell x.token h.0

-- no atom of the ask is of the cell
other_cells : (cell : ℕ) (ask : List Atom) → asks_for cell ask ≡ false → Each (λ (a : Atom). a.cell ≢ cell) ask
other_cells cell [] e = tt
other_cells cell (a ∷ ask) e = go (a.cell == cell) refl e (other_cells cell ask)
  where
    go : (b : Bool) → (a.cell == cell) ≡ b → (b || asks_for cell ask) ≡ false → (asks_for cell ask ≡ false → Each (λ (x : Atom). x.cell ≢ cell) ask) → Each (λ (x : Atom). x.cell ≢ cell) (a ∷ ask)
    go true s f rest = absurd (true_false f)
    go false s f rest = (λ same. true_false (sym (let t : (a.cell == cell) ≡ true = grind (arith, nat_tests, same) in t) ∙ s), rest f)

-- either some told cell is one of the ask's, or none is
some_or_none : (told ask : List Atom) → ((b : Atom) × Contains told b × (asks_for b.cell ask ≡ true)) ⊎ Each (λ (b : Atom). asks_for b.cell ask ≡ false) told
some_or_none [] ask = inr tt
some_or_none (b ∷ told) ask = go (asks_for b.cell ask) refl (some_or_none told ask)
  where
    go : (c : Bool) → asks_for b.cell ask ≡ c → ((x : Atom) × Contains told x × (asks_for x.cell ask ≡ true)) ⊎ Each (λ (x : Atom). asks_for x.cell ask ≡ false) told
        → ((x : Atom) × Contains (b ∷ told) x × (asks_for x.cell ask ≡ true)) ⊎ Each (λ (x : Atom). asks_for x.cell ask ≡ false) (b ∷ told)
    go true e rest = inl (b, (0, omega arith, refl), e)
    go false e (inl (x, (k, lt, is), f)) = inl (x, (suc k, omega arith, is), f)
    go false e (inr rest) = inr (e, rest)

-- of each atom that fits, with the cell that it names
with-cells : (cells : List NetCell) (P : Atom → Type 0) (Q : NetCell → Atom → Type 0) → ((a : Atom) (c : NetCell) → slice_get cells a.cell ≡ Some c → P a → Q c a) → (atoms : List Atom) → Each (AtomFits cells) atoms → Each P atoms
    → Each (λ a. (c : NetCell) × (slice_get cells a.cell ≡ Some c) × Q c a) atoms
with-cells cells P Q f [] fits h = tt
with-cells cells P Q f (a ∷ atoms) fits h = ((fits.0.0, fits.0.1, f a fits.0.0 fits.0.1 h.0), with-cells cells P Q f atoms fits.1 h.1)

each_of : {X : Type 0} (P : X → Type 0) → ((x : X) → P x) → (xs : List X) → Each P xs
each_of P f [] = tt
each_of P f (x ∷ xs) = (f x, each_of P f xs)

flip-each : (told ask : List Atom) → Each (λ (b : Atom). Each (λ (a : Atom). a.cell ≢ b.cell) ask) told → Each (λ (a : Atom). Each (λ (b : Atom). a.cell ≢ b.cell) told) ask
flip-each [] ask h = each_of _ (λ a. tt) ask
flip-each (b ∷ told) ask h = both-each ask h.0 (flip-each told ask h.1)
  where
    both-each : (ask : List Atom) → Each (λ (a : Atom). a.cell ≢ b.cell) ask → Each (λ (a : Atom). Each (λ (x : Atom). a.cell ≢ x.cell) told) ask → Each (λ (a : Atom). Each (λ (x : Atom). a.cell ≢ x.cell) (b ∷ told)) ask
    both-each [] f g = tt
    both-each (a ∷ ask) f g = ((f.0, g.0), both-each ask f.1 g.1)

each_same : (told ask : List Atom) → Each (λ (b : Atom). asks_for b.cell ask ≡ false) told → Each (λ (b : Atom). Each (λ (a : Atom). a.cell ≢ b.cell) ask) told
each_same [] ask h = tt
each_same (b ∷ told) ask h = (other_cells b.cell ask h.0, each_same told ask h.1)

bool_same : (a b : Bool) → (IsTrue a → IsTrue b) → (IsTrue b → IsTrue a) → a ≡ b
bool_same true b f g = sym (f refl)
bool_same false true f g = g refl
bool_same false false f g = refl

module _ (net : Flat) (is : IsNet net) where
  apart : (i j : ℕ) (c d : NetCell) → slice_get net.cells i ≡ Some c → slice_get net.cells j ≡ Some d → i ≢ j → c.name ≢ d.name
  apart i j c d at there ne = go (nat_lt i j) refl
    where
      go : (b : Bool) → nat_lt i j ≡ b → c.name ≢ d.name
      go true s = names_apart net.cells i j c d is.of.cells.order at there (grind (arith, nat_tests))
      go false s = λ e. names_apart net.cells j i d c is.of.cells.order there at (grind (arith, nat_tests, ne)) (sym e)

  -- an ask that names none of the told cells is as before
  ask-elsewhere : (told ask : List Atom) (u : StoreMap) → Each (AtomFits net.cells) told → Each (AtomFits net.cells) ask → Each (λ (b : Atom). asks_for b.cell ask ≡ false) told
      → named_entails (tell_named (named_atoms net.cells told) u) (named_atoms net.cells ask) ≡ named_entails u (named_atoms net.cells ask)
  ask-elsewhere told ask u fits asked none =
      same-entails _ u (named_atoms net.cells ask)
      (
      named-each net.cells (λ x. get (tell_named (named_atoms net.cells told) u) x.name ≡ get u x.name) ask
      (with-cells net.cells (λ (a : Atom). Each (λ (b : Atom). a.cell ≢ b.cell) told) (λ c a. get (tell_named (named_atoms net.cells told) u) c.name ≡ get u c.name) one ask asked (flip-each told ask (each_same told ask none)))
      )
    where
      one : (a : Atom) (c : NetCell) → slice_get net.cells a.cell ≡ Some c → Each (λ (b : Atom). a.cell ≢ b.cell) told → get (tell_named (named_atoms net.cells told) u) c.name ≡ get u c.name
      one a c at h =
          tell-elsewhere (named_atoms net.cells told) u c.name
          (named-each net.cells (λ x. c.name ≢ x.name) told (with-cells net.cells (λ (b : Atom). a.cell ≢ b.cell) (λ d b. c.name ≢ d.name) (λ b d there ne. apart a.cell b.cell c d at there ne) told fits h))

  -- THE LEAF THAT TELLS

  module _ (n : ℕ) (l : NetLeaf) (at : slice_get net.leaves n ≡ Some l) (before after : List ℕ) (are : AreWords net.cells before) (store : store_in net.cells after ≡ tell_named (tells net l) (store_in net.cells before)) where
    fits : Each (AtomFits net.cells) (atoms_of l.kind)
    fits = all_each (AtomFits net.cells) (atoms_of l.kind) (each_at (LeafIsWhole net) net.leaves n l (all_each (LeafIsWhole net) net.leaves is.of.whole.leaves) at).0

    pub told-above : IsNetStoreBelow net.cells (store_in net.cells before) (store_in net.cells after)
    told-above = subst (IsNetStoreBelow net.cells (store_in net.cells before)) (sym store) (tell-all net is (tells net l) (store_in net.cells before) (named-fits net.cells (atoms_of l.kind) fits) (words-store net is before are)).above

    pub told-entails : IsTrue (named_entails (store_in net.cells after) (tells net l))
    told-entails = subst (λ (u : StoreMap). IsTrue (named_entails u (tells net l))) (sym store) (tell-all net is (tells net l) (store_in net.cells before) (named-fits net.cells (atoms_of l.kind) fits) (words-store net is before are)).entails

    ask_fits : (g : ℕ) (x : NetGuard) → slice_get net.guards g ≡ Some x → Each (AtomFits net.cells) x.ask
    ask_fits g x e = all_each (AtomFits net.cells) x.ask (is.of.whole.guards g x e).0

    -- an ask that holds goes on to hold
    pub held-up : (g : ℕ) → g < length net.guards → IsTrue (is_held net before g) → IsTrue (is_held net after g)
    held-up g lt h = go (slice_get_cases net.guards g).1
      where
        go : ((x : NetGuard) × (g < length net.guards) × (slice_get net.guards g ≡ Some x) × (get_or net.guards g x ≡ x)) ⊎ ((length net.guards ≤ g) × (slice_get net.guards g ≡ None)) → IsTrue (is_held net after g)
        go (inl (x, within, e, read)) =
            subst (λ (o : Option NetGuard). IsTrue (named_entails (store_in net.cells after) (named_atoms net.cells (guard_ask_of o)))) (sym e)
            (entails-above net.cells (store_in net.cells before) (store_in net.cells after) (named_atoms net.cells x.ask) (named-fits net.cells x.ask (ask_fits g x e)) told-above
            (subst (λ (o : Option NetGuard). IsTrue (named_entails (store_in net.cells before) (named_atoms net.cells (guard_ask_of o)))) e h))
        go (inr (past, none)) = absurd (omega arith)

    -- what is noted is right again, where each ask was evaluated that names a told cell
    pub noted-again : (noted notes : Held) → AreNoted net before noted → NotesMore net after noted notes
        → ((b : Atom) (g : ℕ) → Contains (atoms_of l.kind) b → Contains (watchers net b.cell) g → IsTrue (is_held net after g) → IsTrue (is_noted notes.held g)) → AreNoted net after notes
    noted-again noted notes were more asked = record { long = more.long ∙ were.long; held = held; due = more.guards were.due }
      where
        held : (g : ℕ) → g < length net.guards → is_noted notes.held g ≡ is_held net after g
        held g lt = bool_same (is_noted notes.held g) (is_held net after g) (λ h. forth (more.more g h)) (λ h. go (slice_get_cases net.guards g).1 h)
          where
            forth : IsTrue (is_noted noted.held g) ⊎ (IsTrue (is_held net after g) × Contains notes.due g) → IsTrue (is_held net after g)
            forth (inl h) = held-up g lt (sym (were.held g lt) ∙ h)
            forth (inr h) = h.0

            go : ((x : NetGuard) × (g < length net.guards) × (slice_get net.guards g ≡ Some x) × (get_or net.guards g x ≡ x)) ⊎ ((length net.guards ≤ g) × (slice_get net.guards g ≡ None)) → IsTrue (is_held net after g) → IsTrue (is_noted notes.held g)
            go (inr (past, none)) h = absurd (omega arith)
            go (inl (x, within, e, read)) h = by_cell (some_or_none (atoms_of l.kind) x.ask)
              where
                by_cell : ((b : Atom) × Contains (atoms_of l.kind) b × (asks_for b.cell x.ask ≡ true)) ⊎ Each (λ (b : Atom). asks_for b.cell x.ask ≡ false) (atoms_of l.kind) → IsTrue (is_noted notes.held g)
                by_cell (inl (b, told, names)) = asked b g told (subst (Contains (watchers net b.cell)) (omega arith) (has-number (names_cell b.cell) 0 net.guards g x e names)) h
                by_cell (inr none) =
                    more.kept g
                    (
                    were.held g lt
                    ∙ ap (λ o. named_entails (store_in net.cells before) (named_atoms net.cells (guard_ask_of o))) e
                    ∙ sym (ask-elsewhere (atoms_of l.kind) x.ask (store_in net.cells before) fits (ask_fits g x e) none)
                    ∙ sym (ap (λ u. named_entails u (named_atoms net.cells x.ask)) store)
                    ∙ sym (ap (λ o. named_entails (store_in net.cells after) (named_atoms net.cells (guard_ask_of o))) e)
                    ∙ h
                    )
