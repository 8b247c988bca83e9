-- Looking at leaves, one after the other: what was told stays told, and what waits goes on to wait or has its turn.
use Rattle.std.proofs.Common.{◌≡◌, ◌⊎◌, inl, inr, ℕ, suc, ◌+◌, ◌<◌, ◌≤◌, Bool, true, false, List, [], ◌∷◌, ◌++◌, length, get_or, Option, Some, None, refl, sym, ap, ◌∙◌, subst, arith}
use Rattle.std.specs.Prelude.{◌==◌, Contains, IsTrue, nat_lt, slice_get}
use Rattle.std.proofs.lemmas.Bool.Decides.{nat_tests}
use Rattle.std.proofs.lemmas.List.Elements.{Contains-push_cases}
use Rattle.std.proofs.lemmas.Option.{slice_get_cases}
use Rattle.token_system.proofs.Alike.{true_false}
use Rattle.agent_laws.proofs.Eachs.{all_each, each_at}
use Rattle.instant_net.specs.declared.parts.Atom.{Atom}
use Rattle.instant_net.specs.declared.parts.NetGuard.{NetGuard}
use Rattle.instant_net.specs.declared.parts.NetLeaf.{NetLeaf}
use Rattle.instant_net.specs.NamedLeaves.{runs_named, tell_named}
use Rattle.instant_net.specs.Nets.{Flat, named_leaf, IsAtOrAbove, IsLinkBelow, LeafIsWhole, atoms_of}
use Rattle.instant_net.specs.Opened.{IsNet}
use Rattle.instant_net.specs.Outputs.{IsNetStoreBelow}
use Rattle.instant_net.specs.Readers.{least_stratum, first_of_guard, past_of_guard}
use Rattle.instant_net.specs.Words.{store_in, AreWords}
use Rattle.parked_asks.specs.Held.{Held, is_noted}
use Rattle.parked_asks.specs.Watches.{has_level, is_that_level, watchers}
use Rattle.settle.specs.Asking.{is_held, AreNoted, NotesMore}
use Rattle.settle.specs.Looking.{WaitsBelow, Looks, IsSeenTo, AreSeenTo}
use Rattle.net_laws.specs.Ways.{IsOnNetWay, has_told}
use Rattle.settle.proofs.LeafPasses.{leaf-fits}
use Rattle.net_laws.proofs.NetTells.{entails-above}
use Rattle.net_laws.proofs.NetSystem.{tells, level_of, level_or}
use Rattle.settle.proofs.RunChanges.{Opened, free-change}
use Rattle.net_laws.proofs.Settling.{tell-on_way}
use Rattle.settle.proofs.ToldAsks.{told-above, told-entails, held-up, noted-again}

-- LOOKING ON

pub looks-none : (net : Flat) (k : ℕ) (words : List ℕ) (notes : Held) → AreWords net.cells words → AreNoted net words notes → Looks net k words words notes notes
looks-none net k words notes are noted = record {
  words = are;
  way = λ input output strat out h. h;
  above = λ c t at fits h. h;
  noted = noted;
  runs = λ n l at h. inl h;
  due = λ g h. h;
  work = omega arith;
}

waits-on : (net : Flat) (l : NetLeaf) (before after : List ℕ) → ((g : ℕ) → Contains before g → Contains after g) → WaitsBelow net before l → WaitsBelow net after l
waits-on net l before after more h = (h.0, h.1, more h.0 h.2)

module _ (net : Flat) (k : ℕ) (a b c : List ℕ) (x y z : Held) where
  pub looks-then : Looks net k a b x y → Looks net k b c y z → Looks net k a c x z
  looks-then first second = record {
    words = second.words;
    way = λ input output strat out h. second.way input output strat out (first.way input output strat out h);
    above = λ cell t at fits h. second.above cell t at fits (first.above cell t at fits h);
    noted = second.noted;
    runs = λ n l at h. earlier n l at (second.runs n l at h);
    due = λ g h. second.due g (first.due g h);
    work = (let p = first.work in let q = second.work in omega arith);
  }
    where
      still : (l : NetLeaf) → IsTrue (runs_named (store_in net.cells a) (named_leaf net l)) ⊎ WaitsBelow net y.due l → IsTrue (runs_named (store_in net.cells a) (named_leaf net l)) ⊎ WaitsBelow net z.due l
      still l (inl h) = inl h
      still l (inr h) = inr (waits-on net l y.due z.due second.due h)

      earlier : (n : ℕ) (l : NetLeaf) → slice_get net.leaves n ≡ Some l → IsTrue (runs_named (store_in net.cells b) (named_leaf net l)) ⊎ WaitsBelow net z.due l → IsTrue (runs_named (store_in net.cells a) (named_leaf net l)) ⊎ WaitsBelow net z.due l
      earlier n l at (inl h) = still l (first.runs n l at h)
      earlier n l at (inr h) = inr h

-- a leaf that was seen to stays so
module _ (net : Flat) (is : IsNet net) (k : ℕ) (a b : List ℕ) (x y : Held) (looks : Looks net k a b x y) where
  told-up : (n : ℕ) (l : NetLeaf) → slice_get net.leaves n ≡ Some l → IsTrue (has_told net (store_in net.cells a) l) → IsTrue (has_told net (store_in net.cells b) l)
  told-up n l at h = entails-above net.cells (store_in net.cells a) (store_in net.cells b) (tells net l) (leaf-fits net is n l at) looks.above h

  seen-on : (n : ℕ) (l : NetLeaf) → slice_get net.leaves n ≡ Some l
      → (IsTrue (runs_named (store_in net.cells a) (named_leaf net l)) → IsTrue (has_told net (store_in net.cells a) l) ⊎ WaitsBelow net x.due l)
      → IsTrue (runs_named (store_in net.cells b) (named_leaf net l)) → IsTrue (has_told net (store_in net.cells b) l) ⊎ WaitsBelow net y.due l
  seen-on n l at seen run = go (looks.runs n l at run)
    where
      after : IsTrue (has_told net (store_in net.cells a) l) ⊎ WaitsBelow net x.due l → IsTrue (has_told net (store_in net.cells b) l) ⊎ WaitsBelow net y.due l
      after (inl h) = inl (told-up n l at h)
      after (inr h) = inr (waits-on net l x.due y.due looks.due h)

      go : IsTrue (runs_named (store_in net.cells a) (named_leaf net l)) ⊎ WaitsBelow net y.due l → IsTrue (has_told net (store_in net.cells b) l) ⊎ WaitsBelow net y.due l
      go (inl h) = after (seen h)
      go (inr h) = inr h

  pub seen-still : (n : ℕ) → IsSeenTo net k a x.due n → IsSeenTo net k b y.due n
  seen-still n seen l level at is_level le = seen-on n l at (seen l level at is_level le)

  pub all-seen_still : (below : ℕ) → AreSeenTo net below a x.due → AreSeenTo net below b y.due
  all-seen_still below seen n l level at is_level lt = seen-on n l at (seen n l level at is_level lt)

  -- one leaf more of those from the first one on
  pub range-next : (first i : ℕ) → IsSeenTo net k b y.due i → ((n : ℕ) → first ≤ n → n < i → IsSeenTo net k a x.due n) → (n : ℕ) → first ≤ n → n < i + 1 → IsSeenTo net k b y.due n
  range-next first i now earlier n ge lt = go (nat_lt n i) refl
    where
      go : (c : Bool) → nat_lt n i ≡ c → IsSeenTo net k b y.due n
      go true e = seen-still n (earlier n ge (grind (arith, nat_tests)))
      go false e = subst (λ (m : ℕ). IsSeenTo net k b y.due m) (let same : i ≡ n = grind (arith, nat_tests) in same) now

  -- and one more of a list
  pub listed-next : (gs : List ℕ) (i m : ℕ) → m ≡ get_or gs i 0 → IsSeenTo net k b y.due m → ((j : ℕ) → j < i → IsSeenTo net k a x.due (get_or gs j 0)) → (j : ℕ) → j < i + 1 → IsSeenTo net k b y.due (get_or gs j 0)
  listed-next gs i m is now earlier j lt = go (nat_lt j i) refl
    where
      go : (c : Bool) → nat_lt j i ≡ c → IsSeenTo net k b y.due (get_or gs j 0)
      go true e = seen-still (get_or gs j 0) (earlier j (grind (arith, nat_tests)))
      go false e = subst (λ (n : ℕ). IsSeenTo net k b y.due n) (is ∙ ap (λ n. get_or gs n 0) (let same : i ≡ j = grind (arith, nat_tests) in same)) now

  -- and all of a level, where those of lower ones were seen to
  pub level-seen : (level : ℕ) → level ≤ k → AreSeenTo net level a x.due → ((n : ℕ) (l : NetLeaf) → slice_get net.leaves n ≡ Some l → IsTrue (has_level net.cells level l) → IsSeenTo net k b y.due n) → AreSeenTo net (level + 1) b y.due
  level-seen level le lower own n l m at is_level lt run = go (nat_lt m level) refl
    where
      go : (c : Bool) → nat_lt m level ≡ c → IsTrue (has_told net (store_in net.cells b) l) ⊎ WaitsBelow net y.due l
      go true e = all-seen_still level lower n l m at is_level (grind (arith, nat_tests)) run
      go false e = own n l at (ap (is_that_level level) is_level ∙ (let same : (m == level) ≡ true = grind (arith, nat_tests) in same)) l m at is_level (omega arith) run

-- once the leaves below a guard were looked at, none waits for it
module _ (net : Flat) (is : IsNet net) (k level : ℕ) (le : level ≤ k) (a b : List ℕ) (due : List ℕ) (g : ℕ) (there : g < length net.guards) (x y : Held) (popped : due ≡ x.due ++ g ∷ []) (looks : Looks net k a b x y)
    (below : (n : ℕ) → first_of_guard (slice_get net.guards g) ≤ n → n < past_of_guard (slice_get net.guards g) → IsSeenTo net k b y.due n) where
  is-below : (n : ℕ) (l : NetLeaf) → slice_get net.leaves n ≡ Some l → IsAtOrAbove net.guards g l.last → IsSeenTo net k b y.due n
  is-below n l at on = go (slice_get_cases net.guards g).1
    where
      go : ((z : NetGuard) × (g < length net.guards) × (slice_get net.guards g ≡ Some z) × (get_or net.guards g z ≡ z)) ⊎ ((length net.guards ≤ g) × (slice_get net.guards g ≡ None)) → IsSeenTo net k b y.due n
      go (inl (z, within, is_guard, read)) =
          let bounds = (is.of.over g z is_guard n l at).0 on in
          below n (subst (λ (o : Option NetGuard). first_of_guard o ≤ n) (sym is_guard) bounds.0) (subst (λ (o : Option NetGuard). n < past_of_guard o) (sym is_guard) bounds.1)
      go (inr (past, none)) = absurd (omega arith)

  pub seen-below : AreSeenTo net (level + 1) a due → AreSeenTo net (level + 1) b y.due
  seen-below seen n l m at is_level lt run = go (looks.runs n l at run)
    where
      waited : (h : ℕ) → IsAtOrAbove net.guards h l.last → Contains x.due h ⊎ (g ≡ h) → IsTrue (has_told net (store_in net.cells b) l) ⊎ WaitsBelow net y.due l
      waited h on (inl within) = inr (h, on, looks.due h within)
      waited h on (inr same) = is-below n l at (subst (λ (j : ℕ). IsAtOrAbove net.guards j l.last) (sym same) on) l m at is_level (omega arith) run

      before : IsTrue (has_told net (store_in net.cells a) l) ⊎ WaitsBelow net due l → IsTrue (has_told net (store_in net.cells b) l) ⊎ WaitsBelow net y.due l
      before (inl h) = inl (told-up net is k a b x y looks n l at h)
      before (inr h) = waited h.0 h.1 (Contains-push_cases x.due g h.0 (subst (λ (gs : List ℕ). Contains gs h.0) popped h.2))

      go : IsTrue (runs_named (store_in net.cells a) (named_leaf net l)) ⊎ WaitsBelow net y.due l → IsTrue (has_told net (store_in net.cells b) l) ⊎ WaitsBelow net y.due l
      go (inl h) = before (seen n l m at is_level lt h)
      go (inr h) = inr h

-- A LEAF THAT TELLS

module _ (net : Flat) (is : IsNet net) (k n : ℕ) (l : NetLeaf) (at : slice_get net.leaves n ≡ Some l) (words : List ℕ) (are : AreWords net.cells words) (noted : Held) (were : AreNoted net words noted) where
  module _ (after : List ℕ) (notes : Held) (afterwards : AreWords net.cells after) (store : store_in net.cells after ≡ tell_named (tells net l) (store_in net.cells words)) (more : NotesMore net after noted notes)
      (asked : (b : Atom) (g : ℕ) → Contains (atoms_of l.kind) b → Contains (watchers net b.cell) g → IsTrue (is_held net after g) → IsTrue (is_noted notes.held g))
      (low : level_of net l ≤ k) (run : IsTrue (runs_named (store_in net.cells words) (named_leaf net l))) where
    again : AreNoted net after notes
    again = noted-again net is n l at words after are store noted notes were more asked

    -- a leaf that runs only now is below a guard that is due
    opened-waits : (x : NetLeaf) → Opened net (store_in net.cells words) (store_in net.cells after) x.last → WaitsBelow net notes.due x
    opened-waits x o = go (more.more o.guard (again.held o.guard o.there ∙ o.now))
      where
        go : IsTrue (is_noted noted.held o.guard) ⊎ (IsTrue (is_held net after o.guard) × Contains notes.due o.guard) → WaitsBelow net notes.due x
        go (inl h) = absurd (true_false (sym h ∙ were.held o.guard o.there ∙ o.before))
        go (inr h) = (o.guard, o.on, h.1)

    link : (m : ℕ) (x : NetLeaf) → slice_get net.leaves m ≡ Some x → IsLinkBelow (length net.guards) x.last
    link m x there = (each_at (LeafIsWhole net) net.leaves m x (all_each (LeafIsWhole net) net.leaves is.of.whole.leaves) there).1

    pub looks-told : Looks net k words after noted notes
    looks-told = record {
      words = afterwards;
      way = λ input output strat out h. subst (IsOnNetWay net input output k) (sym store) (tell-on_way net is strat input output out k (store_in net.cells words) n l h at low run);
      above = told-above net is n l at words after are store;
      noted = again;
      runs = λ m x there h. change x (free-change net is (store_in net.cells words) (store_in net.cells after) (held-up net is n l at words after are store) (length net.guards) x.last (link m x there) (omega arith) h);
      due = more.due;
      work = more.work;
    }
      where
        change : (x : NetLeaf) → IsTrue (runs_named (store_in net.cells words) (named_leaf net x)) ⊎ Opened net (store_in net.cells words) (store_in net.cells after) x.last → IsTrue (runs_named (store_in net.cells words) (named_leaf net x)) ⊎ WaitsBelow net notes.due x
        change x (inl h) = inl h
        change x (inr o) = inr (opened-waits x o)

    pub seen-told : IsSeenTo net k after notes.due n
    seen-told x level there is_level le h = inl (subst (λ (y : NetLeaf). IsTrue (has_told net (store_in net.cells after) y)) (let one : l ≡ x = cc in one) (told-entails net is n l at words after are store))
