-- Where a name stands among the cells of a net, whose names are in order: a search finds it there.
use Rattle.std.proofs.Common.{◌≡◌, ◌⊎◌, inl, inr, ℕ, zero, suc, ◌<◌, ◌≤◌, List, [], ◌∷◌, length, get_or, Some, None, Err, refl, sym, ap, ◌∙◌, subst, arith}
use Rattle.std.specs.Prelude.{slice_get, Contains}
use Rattle.std.specs.List.Sorted.{IsNonDecreasingBy, IsBinarySearchResult}
use Rattle.std.specs.Ordering.{ordering_index, ordering_reverse}
use Rattle.std.specs.declared.cmp.Ordering.TheVariants.{Less, Equal}
use Rattle.std.proofs.lemmas.Bool.{cases_lt}
use Rattle.std.proofs.lemmas.Cmp.{tied_itself}
use Rattle.std.proofs.lemmas.Option.{slice_get_cases, slice_get-get_or, get_or_from_slice_get, slice_get_within}
use Rattle.token_system.specs.declared.name.CellName.{CellName}
use Rattle.token_system.specs.Names.{name_cmp, name_total, name_cmp-IsAntisymmetric}
use Rattle.instant_net.specs.declared.parts.NetCell.{NetCell}
use Rattle.instant_net.specs.Opened.{AreInOrder}
use Rattle.instant_net.specs.Walks.{IsPlaceOfName}
use Rattle.instant_net.specs.Collecting.{cell_names}
use Rattle.instant_net.proofs.StoreLookups.{names_rise}

-- a name of the cells has a place among them
pub has-place : (cells : List NetCell) (n : CellName) → Contains (cell_names cells) n → (k : ℕ) × IsPlaceOfName cells n k
has-place [] n (k, lt, e) = absurd (omega arith)
has-place (c ∷ cells) n (zero, lt, e) = (0, record { found = c; stands = refl; named = e })
has-place (c ∷ cells) n (suc k, lt, e) = let h = has-place cells n (k, omega arith, e) in (suc h.0, record { found = h.1.found; stands = h.1.stands; named = h.1.named })

-- a place at which a search found the name
pub place-found : (cells : List NetCell) (n : CellName) (i : ℕ) → i < length cells → ((d : NetCell) → name_cmp (get_or cells i d).name n ≡ Equal) → IsPlaceOfName cells n i
place-found cells n i lt equal = go (slice_get_cases cells i).1
  where
    go : ((x : NetCell) × (i < length cells) × (slice_get cells i ≡ Some x) × (get_or cells i x ≡ x)) ⊎ ((length cells ≤ i) × (slice_get cells i ≡ None)) → IsPlaceOfName cells n i
    go (inl h) = record { found = h.0; stands = h.2; named = name_cmp-IsAntisymmetric h.0.name n (subst (λ (c : NetCell). name_cmp c.name n ≡ Equal) h.3 (equal h.0)) }
    go (inr h) = absurd (let le = h.0 in omega arith)

module _ (cells : List NetCell) (order : AreInOrder cells) (n : CellName) (k : ℕ) (at : IsPlaceOfName cells n k) where
  abbrev index : NetCell → ℕ
  index c = ordering_index (name_cmp c.name n)

  -- how the cell of each place compares with the name at place k
  record IsCompared (i m : ℕ) : Type 0 where
    before : i < k → m ≡ 0
    there : i ≡ k → m ≡ 1
    behind : k < i → m ≡ 2

  compared : (i : ℕ) (d : NetCell) → i < length cells → IsCompared i (index (get_or cells i d))
  compared i d lt =
      let stands = slice_get-get_or cells i d lt in
      let name : CellName = (get_or cells i d).name in
      record {
        before = λ less. ap ordering_index (subst (λ (q : CellName). name_cmp name q ≡ Less) at.named (names_rise cells i k (get_or cells i d) at.found order stands at.stands less));
        there = λ same. ap ordering_index (subst (λ (q : CellName). name_cmp q n ≡ Equal) (sym at.named ∙ ap (λ (c : NetCell). c.name) (sym (get_or_from_slice_get cells k at.found d at.stands) ∙ ap (λ (j : ℕ). get_or cells j d) (sym same))) (tied_itself name_total n));
        behind = λ less. ap ordering_index (name_total.antisymm name n ∙ ap ordering_reverse (subst (λ (q : CellName). name_cmp q name ≡ Less) at.named (names_rise cells k i at.found (get_or cells i d) order at.stands stands less)));
      }

  rise : IsNonDecreasingBy index cells
  rise i j d ahead lt =
      let x = compared i d (omega arith) in
      let y = compared j d lt in
      elim (cases_lt i k) [
        | inl less ↦ let low = x.before less in omega arith
        | inr le ↦
            elim (cases_lt k i) [
              | inl less ↦ let high = x.behind less in let higher = y.behind (omega arith) in omega arith
              | inr le' ↦
                  let middle = x.there (omega arith) in
                  elim (cases_lt k j) [
                    | inl less ↦ let higher = y.behind less in omega arith
                    | inr le'' ↦ let same = y.there (omega arith) in omega arith
                  ]
            ]
      ]

  -- so a search for the name cannot end without it
  pub cannot_miss : (i : ℕ) → IsBinarySearchResult (λ c. name_cmp c.name n) cells (Err i) → ⊥
  cannot_miss i parted =
      let within = slice_get_within cells k at.found at.stands in
      let found : index (get_or cells k at.found) ≡ 1 = (compared k at.found within).there refl in
      let sides = parted rise in
      elim (cases_lt k i) [
        | inl less ↦ absurd (let low : index (get_or cells k at.found) ≡ 0 = ap ordering_index (sides.0 k at.found (omega arith) less) in omega arith)
        | inr le ↦ absurd (let high : index (get_or cells k at.found) ≡ 2 = ap ordering_index (sides.1 k at.found le within) in omega arith)
      ]
