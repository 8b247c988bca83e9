-- Looking at one leaf: it tells, or it is not to tell.
use Rattle.std.proofs.Common.{◌≡◌, ◌⊎◌, inl, inr, ℕ, ◌+◌, ◌<◌, ◌≤◌, Bool, true, false, List, length, get_or, Option, Some, None, refl, sym, ap, ◌∙◌, subst, arith}
use Rattle.std.specs.Prelude.{Contains, IsTrue, slice_get}
use Rattle.std.proofs.lemmas.Bool.Decides.{nat_tests}
use Rattle.std.proofs.lemmas.Option.{slice_get_cases}
use Rattle.token_system.proofs.Alike.{true_false}
use Rattle.instant_net.specs.declared.parts.Atom.{Atom}
use Rattle.instant_net.specs.declared.parts.NetLeaf.{NetLeaf}
use Rattle.instant_net.specs.NamedLeaves.{named_entails, runs_named, tell_named}
use Rattle.instant_net.specs.Nets.{Flat, named_atoms, named_leaf, atoms_of}
use Rattle.instant_net.specs.Opened.{IsNet}
use Rattle.instant_net.specs.Readers.{least_stratum, leaf_tells_of}
use Rattle.instant_net.specs.Words.{store_in, AreWords}
use Rattle.parked_asks.specs.Held.{Held, is_noted}
use Rattle.parked_asks.specs.Watches.{watchers}
use Rattle.settle.specs.Asking.{is_held, AreNoted, NotesMore}
use Rattle.settle.specs.Evaluations.{watch_count, Evaluates}
use Rattle.settle.specs.Looking.{Looks, IsSeenTo}
use Rattle.net_laws.specs.Ways.{has_told}
use Rattle.settle.specs.Ways.{is_level_upto}
use Rattle.settle.proofs.Evaluating.{evaluates-told}
use Rattle.settle.proofs.LeafPasses.{upto_level}
use Rattle.settle.proofs.Looks.{looks-told, seen-told}
use Rattle.settle.proofs.ToldAsks.{told-above, told-entails}

-- what a leaf tells, by its number
abbrev pub told_by_leaf : Flat → ℕ → List Atom
told_by_leaf net n = leaf_tells_of (slice_get net.leaves n)

module _ (net : Flat) (k n : ℕ) (words : List ℕ) (due : List ℕ) where
  -- a leaf of a higher level is not looked for
  pub seen-high : is_level_upto k (least_stratum net.cells (told_by_leaf net n)) ≡ false → IsSeenTo net k words due n
  seen-high high l level at is_level le run =
      absurd (true_false (sym (ap (is_level_upto k) (ap (λ o. least_stratum net.cells (leaf_tells_of o)) at ∙ is_level) ∙ low) ∙ high))
    where
      low : is_level_upto k (Some level) ≡ true
      low = grind (arith, nat_tests)

  -- one that is not run has nothing to tell
  pub seen-closed : ((l : NetLeaf) → slice_get net.leaves n ≡ Some l → false ≡ runs_named (store_in net.cells words) (named_leaf net l)) → IsSeenTo net k words due n
  seen-closed closed l level at is_level le run = absurd (true_false (sym run ∙ sym (closed l at)))

  -- nor has one that has told all
  pub seen-before : named_entails (store_in net.cells words) (named_atoms net.cells (told_by_leaf net n)) ≡ true → IsSeenTo net k words due n
  seen-before told l level at is_level le run = inl (sym (ap (λ o. named_entails (store_in net.cells words) (named_atoms net.cells (leaf_tells_of o))) at) ∙ told)

-- leaf n was looked at in stratum k
abbrev pub IsLookedAt : Flat → ℕ → ℕ → List ℕ → List ℕ → Held → Held → ℕ → ℕ → Type 0
IsLookedAt net k n words after noted notes steps more = Looks net k words after noted notes × (IsSeenTo net k after notes.due n × Evaluates net k words after steps more)

module _ (net : Flat) (is : IsNet net) (k n : ℕ) (there : n < length net.leaves) (words : List ℕ) (are : AreWords net.cells words) (noted : Held) (were : AreNoted net words noted) where
  pub look-told : (after : List ℕ) (notes : Held) (steps more : ℕ) → AreWords net.cells after
      → store_in net.cells after ≡ tell_named (named_atoms net.cells (told_by_leaf net n)) (store_in net.cells words) → NotesMore net after noted notes
      → ((b : Atom) (g : ℕ) → Contains (told_by_leaf net n) b → Contains (watchers net b.cell) g → IsTrue (is_held net after g) → IsTrue (is_noted notes.held g))
      → is_level_upto k (least_stratum net.cells (told_by_leaf net n)) ≡ true → ((l : NetLeaf) → slice_get net.leaves n ≡ Some l → true ≡ runs_named (store_in net.cells words) (named_leaf net l))
      → named_entails (store_in net.cells words) (named_atoms net.cells (told_by_leaf net n)) ≡ false → more ≤ steps + watch_count net (told_by_leaf net n) → IsLookedAt net k n words after noted notes steps more
  look-told after notes steps more afterwards store noted_more asked low run fresh cost = go (slice_get_cases net.leaves n).1
    where
      found : (l : NetLeaf) → slice_get net.leaves n ≡ Some l → IsLookedAt net k n words after noted notes steps more
      found l at =
          let by_leaf = store ∙ ap (λ o. tell_named (named_atoms net.cells (leaf_tells_of o)) (store_in net.cells words)) at in
          let again = λ (b : Atom) (g : ℕ) (h : Contains (atoms_of l.kind) b). asked b g (subst (λ (o : Option NetLeaf). Contains (leaf_tells_of o) b) (sym at) h) in
          let up = upto_level net.strata k (least_stratum net.cells (atoms_of l.kind)) (sym (ap (λ o. is_level_upto k (least_stratum net.cells (leaf_tells_of o))) at) ∙ low) in
          let runs = sym (run l at) in
          let untold = sym (ap (λ o. named_entails (store_in net.cells words) (named_atoms net.cells (leaf_tells_of o))) at) ∙ fresh in (
            looks-told net is k n l at words are noted were after notes afterwards by_leaf noted_more again up runs,
            (
              seen-told net is k n l at words are noted were after notes afterwards by_leaf noted_more again up runs,
              evaluates-told net is k n l at up words after steps more (told-above net is n l at words after are by_leaf) runs untold (told-entails net is n l at words after are by_leaf)
                  (subst (λ (o : Option NetLeaf). more ≤ steps + watch_count net (leaf_tells_of o)) at cost),
            ),
          )

      go : ((l : NetLeaf) × (n < length net.leaves) × (slice_get net.leaves n ≡ Some l) × (get_or net.leaves n l ≡ l)) ⊎ ((length net.leaves ≤ n) × (slice_get net.leaves n ≡ None)) → IsLookedAt net k n words after noted notes steps more
      go (inl (l, within, at, read)) = found l at
      go (inr (past, none)) = absurd (omega arith)
