-- Indexes as they grow, one element after the other.
use Rattle.std.proofs.Common.{◌≡◌, ◌⊎◌, inl, inr, ℕ, ◌+◌, ◌<◌, ◌≤◌, Bool, false, List, [], ◌∷◌, ◌++◌, length, get_or, set, take, replicate, Some, None, refl, sym, ap, ◌∙◌, subst, arith}
use Rattle.std.specs.Prelude.{◌==◌, Option, slice_get, slice_index_or, if◌then◌else◌}
use Rattle.std.proofs.lemmas.List.{take_all, get_or-replicate, length-replicate}
use Rattle.std.proofs.lemmas.Option.{slice_get_cases}
use Rattle.instant_net.specs.declared.parts.NetGuard.{NetGuard}
use Rattle.instant_net.specs.declared.parts.NetLeaf.{NetLeaf}
use Rattle.instant_net.specs.Nets.{Flat}
use Rattle.instant_net.specs.Readers.{guard_ask_of, leaf_tells_of, least_stratum}
use Rattle.parked_asks.specs.Numbers.{numbers_of}
use Rattle.parked_asks.specs.Watches.{asks_for, names_cell, has_level, is_that_level, AddsAt, ListsGuards, ListsLeaves}
use Rattle.parked_asks.proofs.Numbers.{numbers-next}
use Rattle.parked_asks.proofs.Adds.{adds-none, adds-pushed}

-- under each of these keys are the numbers of those of the first i elements that pass its test
pub record Lists {X : Type 0} (test : ℕ → X → Bool) (keys : ℕ) (xs : List X) (i : ℕ) (index : List (List ℕ)) : Type 0 where
  pub keys_are : length index ≡ keys
  pub each : (k : ℕ) → k < keys → slice_index_or index k [] ≡ numbers_of (test k) (take i xs)

module _ {X : Type 0} (test : ℕ → X → Bool) (keys : ℕ) (xs : List X) where
  pub lists-none : (index : List (List ℕ)) → index ≡ replicate keys [] → Lists test keys xs 0 index
  lists-none index e = record { keys_are = ap (λ (x : List (List ℕ)). length x) e ∙ length-replicate keys []; each = λ k lt. ap (λ (x : List (List ℕ)). slice_index_or x k []) e ∙ get_or-replicate keys k [] [] lt }

  pub lists-next : (i : ℕ) (x : X) (t : ℕ → Bool) (index after : List (List ℕ)) → slice_get xs i ≡ Some x → ((k : ℕ) → t k ≡ test k x) → AddsAt t i index after → Lists test keys xs i index → Lists test keys xs (i + 1) after
  lists-next i x t index after at same adds so =
      let long = so.keys_are in
      record {
        keys_are = adds.keys ∙ so.keys_are;
        each = λ k lt.
            adds.each k (omega arith)
            ∙ ap (λ (ns : List ℕ). ns ++ (if t k then i ∷ [] else [])) (so.each k lt)
            ∙ ap (λ (b : Bool). numbers_of (test k) (take i xs) ++ (if b then i ∷ [] else [])) (same k)
            ∙ sym (numbers-next (test k) xs i x at);
      }

module _ (net : Flat) where
  abbrev pub GuardsUpto : ℕ → List (List ℕ) → Type 0
  GuardsUpto i index = Lists names_cell (length net.cells) net.guards i index

  abbrev pub LeavesUpto : ℕ → List (List ℕ) → Type 0
  LeavesUpto i index = Lists (has_level net.cells) net.strata net.leaves i index

  pub guards-next : (i : ℕ) (index after : List (List ℕ)) → i < length net.guards → AddsAt (λ cell. asks_for cell (guard_ask_of (slice_get net.guards i))) i index after → GuardsUpto i index → GuardsUpto (i + 1) after
  guards-next i index after lt adds so = go (slice_get_cases net.guards i).1
    where
      go : ((g : NetGuard) × (i < length net.guards) × (slice_get net.guards i ≡ Some g) × (get_or net.guards i g ≡ g)) ⊎ ((length net.guards ≤ i) × (slice_get net.guards i ≡ None)) → GuardsUpto (i + 1) after
      go (inl (g, within, at, read)) = lists-next names_cell (length net.cells) net.guards i g _ index after at (λ k. ap (λ (o : Option NetGuard). asks_for k (guard_ask_of o)) at) adds so
      go (inr (past, none)) = absurd (omega arith)

  pub guards-all : (i : ℕ) (index : List (List ℕ)) → length net.guards ≤ i → GuardsUpto i index → ListsGuards net index
  guards-all i index le so = record { keys = so.keys_are; each = λ cell lt. so.each cell lt ∙ ap (numbers_of (names_cell cell)) (take_all i net.guards le) }

  module _ (i : ℕ) (index : List (List ℕ)) (lt : i < length net.leaves) (level : Option ℕ) (is_level : level ≡ least_stratum net.cells (leaf_tells_of (slice_get net.leaves i))) (so : LeavesUpto i index) where
    by-leaf : (t : ℕ → Bool) (after : List (List ℕ)) → ((k : ℕ) → t k ≡ is_that_level k level) → AddsAt t i index after → LeavesUpto (i + 1) after
    by-leaf t after same adds = go (slice_get_cases net.leaves i).1
      where
        go : ((l : NetLeaf) × (i < length net.leaves) × (slice_get net.leaves i ≡ Some l) × (get_or net.leaves i l ≡ l)) ⊎ ((length net.leaves ≤ i) × (slice_get net.leaves i ≡ None)) → LeavesUpto (i + 1) after
        go (inl (l, within, at, read)) =
            lists-next (has_level net.cells) net.strata net.leaves i l t index after at
            (λ k. same k ∙ ap (is_that_level k) is_level ∙ ap (λ (o : Option NetLeaf). is_that_level k (least_stratum net.cells (leaf_tells_of o))) at) adds so
        go (inr (past, none)) = absurd (omega arith)

    pub leaves-skip : level ≡ None → LeavesUpto (i + 1) index
    leaves-skip e = by-leaf (λ k. false) index (λ k. sym (ap (is_that_level k) e)) (adds-none (λ k. false) i index (λ k. refl))

    pub leaves-next : (m : ℕ) (after : List (List ℕ)) → level ≡ Some m → m < net.strata → after ≡ set index m (slice_index_or index m [] ++ i ∷ []) → LeavesUpto (i + 1) after
    leaves-next m after e low pushed =
        let long = so.keys_are in
        subst (λ (x : List (List ℕ)). LeavesUpto (i + 1) x) (sym pushed)
        (by-leaf (λ k. m == k) _ (λ k. sym (ap (is_that_level k) e)) (adds-pushed (λ k. false) (λ k. m == k) i m index index (omega arith) refl (λ k. refl) (adds-none (λ k. false) i index (λ k. refl))))

  pub leaves-all : (i : ℕ) (index : List (List ℕ)) → length net.leaves ≤ i → LeavesUpto i index → ListsLeaves net index
  leaves-all i index le so = record { keys = so.keys_are; each = λ s lt. so.each s lt ∙ ap (numbers_of (has_level net.cells s)) (take_all i net.leaves le) }
