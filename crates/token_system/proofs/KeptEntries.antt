-- The entries that make a store: what is known of one of them, and what an edit keeps.
use Rattle.std.proofs.Common.{◌≡◌, ℕ, ◌<◌, List, length, get_or, set, sym, subst, refl, ap, ◌∙◌, [], ◌∷◌}
use Rattle.std.specs.List.{insert, AllZip}
use Rattle.std.specs.FinMap as map
use Rattle.token_system.specs.declared.name.CellName.{CellName}
use Rattle.token_system.specs.declared.cell.Value.{Value}
use Rattle.token_system.specs.Names.{name_cmp, name_total}
use Rattle.token_system.specs.Values.{IsProper}
use Rattle.token_system.specs.Stores.{StoreMap, AreStoreEntries, KeepsProper}
use Rattle.token_system.specs.Places.{IsAt, IsGapFor}
use Rattle.token_system.proofs.Places.{sorted-set, map-set, sorted-insert, map-insert}
use Rattle.token_system.proofs.Telling.{keeps-insert}
use Rattle.token_system.proofs.EntryWalks.{IsEntry, get-entry, get-entry_read}

-- a store that its entries make keeps proper values
pub store_proper : (es : List (CellName × Value)) (m : StoreMap) → AreStoreEntries es → map.from_sorted {R = name_cmp} es ≡ m → KeepsProper m
store_proper es m h made = subst KeepsProper made h.proper

-- the value of an entry is proper
pub entry_proper : (es : List (CellName × Value)) (i : ℕ) (d : CellName × Value) → AreStoreEntries es → i < length es → IsProper (get_or es i d).1
entry_proper es i d h lt =
    let same = map.entries-from_sorted name_cmp es h.sorted in
    subst (λ (xs : List (CellName × Value)). IsProper (get_or xs i d).1) same
    (h.proper _ _ (get-entry (map.from_sorted es) i d (subst (λ (xs : List (CellName × Value)). i < length xs) (sym same) lt)))

-- so is that of an entry which a loop reads
pub read_proper : (m : StoreMap) (i : ℕ) (e : CellName × Value) → KeepsProper m → IsEntry m i e → IsProper e.1
read_proper m i e h entry = h e.0 e.1 (get-entry_read m i e entry)

module _ (es : List (CellName × Value)) (h : AreStoreEntries es) (n : CellName) (v : Value) (p : IsProper v) (i : ℕ) where
  -- an entry written over at its place, and one inserted in the gap
  pub entries-set : IsAt es n i → AreStoreEntries (set es i (n, v))
  entries-set at = record {
    sorted = sorted-set name_cmp es h.sorted name_total n v i at;
    proper = subst KeepsProper (sym (map-set name_cmp es h.sorted name_total n v i at)) (keeps-insert (map.from_sorted es) n v h.proper p);
  }

  pub entries-insert : IsGapFor name_cmp es n i → AreStoreEntries (insert es i (n, v))
  entries-insert gap = record {
    sorted = sorted-insert name_cmp es h.sorted name_total n v i gap;
    proper = subst KeepsProper (sym (map-insert name_cmp es h.sorted name_total n v i gap)) (keeps-insert (map.from_sorted es) n v h.proper p);
  }

-- entries that are copied one by one make a store too
pub entries-copied : (R : CellName × Value → CellName × Value → Type 0) (es fs : List (CellName × Value)) → AllZip R es fs → ((d e : CellName × Value) → R d e → (e.0 ≡ d.0) × (e.1 ≡ d.1)) → AreStoreEntries es → AreStoreEntries fs
entries-copied R es fs copied same h = subst AreStoreEntries (sym (go es fs copied)) h
  where
    go : (es fs : List (CellName × Value)) → AllZip R es fs → fs ≡ es
    go [] [] a = refl
    go [] (e ∷ fs) a = absurd a
    go (d ∷ es) [] a = absurd a
    go (d ∷ es) (e ∷ fs) a =
        ap (λ (n : CellName). (n, e.1) ∷ fs) (same d e a.0).0 ∙ ap (λ (v : Value). (d.0, v) ∷ fs) (same d e a.0).1 ∙ ap (λ (xs : List (CellName × Value)). d ∷ xs) (go es fs a.1)
