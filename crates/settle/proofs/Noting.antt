-- What is noted of asks, as more of them are evaluated.
use Rattle.std.proofs.Common.{◌≡◌, ◌≢◌, ◌⊎◌, inl, inr, ℕ, ◌+◌, ◌*◌, ◌<◌, ◌≤◌, Bool, true, false, List, [], ◌∷◌, ◌++◌, length, get_or, set, take, refl, sym, ap, ◌∙◌, subst, arith, length-append, length-set, get_or-set_same, get_or-set_other}
use Rattle.std.specs.Prelude.{All, Contains, IsTrue, nat_lt}
use Rattle.std.proofs.lemmas.Bool.{cases_eq}
use Rattle.std.proofs.lemmas.Bool.Decides.{nat_tests}
use Rattle.std.proofs.lemmas.List.{get_or_default, take_more}
use Rattle.std.proofs.lemmas.List.Elements.{All-append, All-nil, All-cons, Contains-append_left, Contains-append_right, Contains-push_cases}
use Rattle.instant_net.specs.declared.parts.Atom.{Atom}
use Rattle.instant_net.specs.Nets.{Flat}
use Rattle.parked_asks.specs.Held.{Held, is_noted, unheld}
use Rattle.parked_asks.specs.Watches.{watchers}
use Rattle.parked_asks.proofs.HeldLists.{unheld-woken}
use Rattle.settle.specs.Asking.{is_held, work_left, AreGuards, NotesMore}

module _ (net : Flat) (words : List ℕ) where
  -- nothing more
  pub notes-same : (asks : Held) → NotesMore net words asks asks
  notes-same asks = record { long = refl; kept = λ g h. h; more = λ g h. inl h; due = λ g h. h; guards = λ h. h; work = omega arith }

  -- one after the other
  pub notes-then : (a b c : Held) → NotesMore net words a b → NotesMore net words b c → NotesMore net words a c
  notes-then a b c first second = record {
    long = second.long ∙ first.long;
    kept = λ g h. second.kept g (first.kept g h);
    more = λ g h. earlier g (second.more g h);
    due = λ g h. second.due g (first.due g h);
    guards = λ h. second.guards (first.guards h);
    work = (let x = second.work in let y = first.work in omega arith);
  }
    where
      still : (g : ℕ) → IsTrue (is_noted a.held g) ⊎ (IsTrue (is_held net words g) × Contains b.due g) → IsTrue (is_noted a.held g) ⊎ (IsTrue (is_held net words g) × Contains c.due g)
      still g (inl h) = inl h
      still g (inr h) = inr (h.0, second.due g h.1)

      earlier : (g : ℕ) → IsTrue (is_noted b.held g) ⊎ (IsTrue (is_held net words g) × Contains c.due g) → IsTrue (is_noted a.held g) ⊎ (IsTrue (is_held net words g) × Contains c.due g)
      earlier g (inl h) = still g (first.more g h)
      earlier g (inr h) = inr h

  -- one ask more, which the words entail
  module _ (before after : Held) (g : ℕ) (there : g < length net.guards) (long : length before.held ≡ length net.guards) (parked : is_noted before.held g ≡ false)
      (holds : IsTrue (is_held net words g)) (noted : after.held ≡ set before.held g true) (woken : after.due ≡ before.due ++ g ∷ []) where
    within : g < length before.held
    within = omega arith

    now_due : Contains after.due g
    now_due = subst (λ (gs : List ℕ). Contains gs g) (sym woken) (Contains-append_right before.due (g ∷ []) g (0, omega arith, refl))

    same_key : is_noted after.held g ≡ true
    same_key = ap (λ (hs : List Bool). is_noted hs g) noted ∙ get_or-set_same before.held g true false within

    other_key : (k : ℕ) → k ≢ g → is_noted after.held k ≡ is_noted before.held k
    other_key k ne = ap (λ (hs : List Bool). is_noted hs k) noted ∙ get_or-set_other before.held g k true false ne

    pub notes-woken : NotesMore net words before after
    notes-woken = record {
      long = ap (λ (hs : List Bool). length hs) noted ∙ length-set before.held g true;
      kept = λ k h. kept k h (cases_eq k g);
      more = λ k h. more k h (cases_eq k g);
      due = λ k h. subst (λ (gs : List ℕ). Contains gs k) (sym woken) (Contains-append_left before.due (g ∷ []) k h);
      guards = λ h. subst (AreGuards net) (sym woken) (All-append (λ k. k < length net.guards) before.due (g ∷ []) h (All-cons (λ k. k < length net.guards) g [] there (All-nil (λ k. k < length net.guards))));
      work = work;
    }
      where
        kept : (k : ℕ) → IsTrue (is_noted before.held k) → (k ≡ g) ⊎ (k ≢ g) → IsTrue (is_noted after.held k)
        kept k h (inl same) = subst (λ (n : ℕ). IsTrue (is_noted after.held n)) (sym same) same_key
        kept k h (inr ne) = other_key k ne ∙ h

        more : (k : ℕ) → IsTrue (is_noted after.held k) → (k ≡ g) ⊎ (k ≢ g) → IsTrue (is_noted before.held k) ⊎ (IsTrue (is_held net words k) × Contains after.due k)
        more k h (inl same) = inr (subst (λ (n : ℕ). IsTrue (is_held net words n)) (sym same) holds, subst (λ (n : ℕ). Contains after.due n) (sym same) now_due)
        more k h (inr ne) = inl (sym (other_key k ne) ∙ h)

        work : work_left after ≤ work_left before
        work =
            let fewer = unheld-woken before.held g within parked in
            let now : unheld after.held ≡ unheld (set before.held g true) = ap unheld noted in
            let longer : length after.due ≡ length (before.due ++ g ∷ []) = ap (λ (gs : List ℕ). length gs) woken in
            let counted = length-append before.due (g ∷ []) in
            omega arith

  -- LIST BY LIST

  -- where these hold, they are noted
  abbrev pub AreHeldNoted : List ℕ → ℕ → Held → Type 0
  AreHeldNoted gs i asks = (k : ℕ) → k < i → IsTrue (is_held net words (get_or gs k 0)) → IsTrue (is_noted asks.held (get_or gs k 0))

  -- one more of the list
  pub held-next : (gs : List ℕ) (before after : Held) (i g : ℕ) → NotesMore net words before after → g ≡ get_or gs i 0 → (IsTrue (is_held net words g) → IsTrue (is_noted after.held g)) → AreHeldNoted gs i before → AreHeldNoted gs (i + 1) after
  held-next gs before after i g more is now earlier k lt = go (nat_lt k i) refl
    where
      go : (b : Bool) → nat_lt k i ≡ b → IsTrue (is_held net words (get_or gs k 0)) → IsTrue (is_noted after.held (get_or gs k 0))
      go true e h = more.kept (get_or gs k 0) (earlier k (grind (arith, nat_tests)) h)
      go false e h =
          let same : i ≡ k = grind (arith, nat_tests) in
          subst (λ (n : ℕ). IsTrue (is_held net words n) → IsTrue (is_noted after.held n)) (is ∙ ap (λ n. get_or gs n 0) same) now h

  -- and all of it
  pub held-all : (gs : List ℕ) (asks : Held) (i : ℕ) → length gs ≤ i → AreHeldNoted gs i asks → (g : ℕ) → Contains gs g → IsTrue (is_held net words g) → IsTrue (is_noted asks.held g)
  held-all gs asks i le all g h =
      subst (λ (n : ℕ). IsTrue (is_held net words n) → IsTrue (is_noted asks.held n)) (get_or_default gs h.0 0 g h.1 ∙ h.2) (all h.0 (let lt = h.1 in omega arith))

  -- ATOM BY ATOM

  -- where guards hold that name these atoms' cells, they are noted
  abbrev pub AreWatchersNoted : List Atom → Held → Type 0
  AreWatchersNoted atoms asks = (a : Atom) (k : ℕ) → Contains atoms a → Contains (watchers net a.cell) k → IsTrue (is_held net words k) → IsTrue (is_noted asks.held k)

  pub noted-next : (items : List Atom) (i : ℕ) (d : Atom) → i < length items → (before after : Held) → NotesMore net words before after → AreWatchersNoted (take i items) before
      → ((k : ℕ) → Contains (watchers net (get_or items i d).cell) k → IsTrue (is_held net words k) → IsTrue (is_noted after.held k)) → AreWatchersNoted (take (i + 1) items) after
  noted-next items i d lt before after more earlier now a k listed watches = go (Contains-push_cases (take i items) (get_or items i d) a (subst (λ (atoms : List Atom). Contains atoms a) (take_more items i d lt) listed))
    where
      go : Contains (take i items) a ⊎ (get_or items i d ≡ a) → IsTrue (is_held net words k) → IsTrue (is_noted after.held k)
      go (inl h) holds = more.kept k (earlier a k h watches holds)
      go (inr same) holds = now k (subst (λ (x : Atom). Contains (watchers net x.cell) k) (sym same) watches) holds
