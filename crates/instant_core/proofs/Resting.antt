-- A mark that covers p shows that the strata below p are final.
use Rattle.std.proofs.Common.{◌≡◌, ◌⊎◌, ℕ, zero, suc, ◌+◌, ◌<◌, ◌≤◌, Bool, true, false, List, [], ◌∷◌, length, get_or, cond, eqb, eqb-true, eq-eqb, refl, sym, ap, ◌∙◌, subst, inl, inr, ⊎_elim, arith, Some, length-take, get_or-take, take}
use Rattle.std.specs.Prelude.{slice_get, slice_index, IsTrue}
use Rattle.token_system.specs.declared.cell.Value.{Value}
use Rattle.token_system.specs.Values.{value_entails}
use Rattle.agent_laws.proofs.Eachs.{each_at}
use Rattle.instant_net.specs.declared.parts.NetLeaf.{NetLeaf}
use Rattle.instant_net.specs.Nets.{Flat, named_leaf, atoms_of}
use Rattle.instant_net.specs.Opened.{IsNet}
use Rattle.instant_net.specs.PartLists.{part_how}
use Rattle.instant_net.specs.Readers.{least_stratum}
use Rattle.instant_net.specs.WordParts.{word_of, part_of, part_at}
use Rattle.instant_net.specs.Words.{Lies, hows, signals, store_in, value_in, empty_words, AreWords}
use Rattle.instant_net.proofs.StoreLookups.{value_at-cell}
use Rattle.instant_net.proofs.WordOrders.{Lies-refl, Lies-trans, Lies-antisymm}
use Rattle.instant_net.proofs.WordPlaces.{as_many, same_at, value_by_parts}
use Rattle.std.proofs.lemmas.Option.{slice_get_read}
use Rattle.net_laws.specs.Ways.{IsNetStoreBelowUpto}
use Rattle.net_laws.proofs.NetSystem.{level_of, LeafStands, leaves-stand, asked-up, free-down}
use Rattle.net_laws.proofs.Settling.{runs-parts, parts-run}
use Rattle.net_laws.specs.WordsBelow.{how_at, is_under}
use Rattle.net_laws.specs.FinalWords.{RunsLeaf}
use Rattle.net_laws.specs.Laws.{IsFinalUpto, IsRest, IsDone}
use Rattle.net_laws.proofs.RestingWords.{rest-done, under-level}
use Rattle.net_laws.proofs.PartPlaces.{word_there, part_there, stratum_of_part}
use Rattle.net_laws.proofs.RisingWords.{parts_below}
use Rattle.instant_net.specs.Outputs.{IsStratified}
use Rattle.net_laws.specs.FinalWords.{AreFinal}
use Rattle.instant_core.specs.Net.{word_and_bits, Entails, IsWordsBelow, Runs, tells_count, IsLow}
use Rattle.instant_core.specs.Layout.{claim_bit}
use Rattle.instant_core.specs.Notes.{Notes, HasNote, noted, content_or, overlaid, noted_words}
use Rattle.instant_core.proofs.Noting.{length-overlaid, overlaid-at, noted-cases, noted-same}
use Rattle.instant_core.specs.Lists.{StandsIn}
use Rattle.instant_core.specs.Invariant.{MarkFits}
use Rattle.instant_core.specs.Licences.{Covers}
use Rattle.instant_core.specs.Net as nets
use Rattle.instant_core.proofs.Facts.{whole, all-within, low-under}
use Rattle.instant_core.proofs.Levels.{under-low}

module _ (net : Flat) (is : IsNet net) where
  -- words that agree below p have stores that do
  upto-same : (u w : List ℕ) (p : ℕ) → IsFinalUpto net w p u → IsNetStoreBelowUpto net.cells p (store_in net.cells u) (store_in net.cells w)
  upto-same u w p same c t (i, lt, e) small fits h =
      let at : slice_get net.cells i ≡ Some c = slice_get_read net.cells (length net.cells) i c refl lt (sym e) in
      let laid = is.of.cells.laid_out in
      let vu = value_at-cell net.cells u is.of.cells.order i c at in
      let vw = value_at-cell net.cells w is.of.cells.order i c at in
      let value : value_in u c ≡ value_in w c =
      value_by_parts net.cells laid u i c at
      ∙ same_at c.cell.kind (part_at (signals net.cells) u) (part_at (signals net.cells) w) c.first c.first (λ j l. same (c.first + j) (part_there net.cells laid i c at j l) (let n = stratum_of_part net.cells laid i c at j l in omega arith))
      ∙ sym (value_by_parts net.cells laid w i c at) in
      subst (λ (v : Value). IsTrue (value_entails v t)) (vu ∙ value ∙ sym vw) h

  module _ (strat : IsStratified net) where
    -- so a leaf of level below p is run by both or by none
    pub low-runs : (u w : List ℕ) (p : ℕ) → IsFinalUpto net w p u
        → (n : ℕ) (l : NetLeaf) → IsTrue (is_under p (least_stratum net.cells (atoms_of l.kind))) → RunsLeaf net (store_in net.cells u) n l → RunsLeaf net (store_in net.cells w) n l
    low-runs u w p same n l under run =
        let f : LeafStands net l = each_at (LeafStands net) net.leaves n l (leaves-stand net is strat) run.there in
        let level = under-level net.strata p (least_stratum net.cells (atoms_of l.kind)) under in
        let parts = runs-parts (store_in net.cells u) (named_leaf net l).path run.run in
        record {
          there = run.there;
          run = parts-run (store_in net.cells w) (named_leaf net l).path
              (free-down net.cells p (level_of net l) (store_in net.cells w) (store_in net.cells u) (upto-same w u p (λ q lt small. sym (same q lt small))) (named_leaf net l).path (omega arith) f.path parts.0)
              (asked-up net.cells p (level_of net l) (store_in net.cells u) (store_in net.cells w) (upto-same u w p same) (named_leaf net l).path (omega arith) f.path parts.1);
        }

-- the strata below p are final
pub record Rested (net : Flat) (p : ℕ) (out words : List ℕ) : Type 0 where
  pub final : IsFinalUpto net out p words
  pub done : (leaf j : ℕ) → Runs net out leaf → IsLow net p leaf → j < tells_count net leaf → (claim_bit net words leaf ≡ 1) × Entails net words (word_and_bits net leaf j)

module _ (net : Flat) (is : IsNet net) (strat : IsStratified net) (p : ℕ) (few : p ≤ net.strata) (input words out : List ℕ) (ii : AreWords net.cells input) (long : nets.width net ≤ length words) (m : Notes)
    (fit : MarkFits net input words m) (above_input : IsWordsBelow net input words) (below : IsWordsBelow net words out) (fin : AreFinal net input out) (covers : Covers net p m) where
  abbrev store_words : List ℕ
  store_words = take (nets.width net) words

  abbrev rested : List ℕ
  rested = overlaid m.words store_words

  wide : length store_words ≡ nets.width net
  wide = length-take (nets.width net) words ∙ omega arith

  at : (k : ℕ) → k < nets.width net → get_or rested k 0 ≡ content_or (get_or words k 0) (noted m.words k)
  at k lt = overlaid-at m.words store_words k (let w = wide in omega arith) ∙ ap (λ (x : ℕ). content_or x (noted m.words k)) (get_or-take (nets.width net) words k 0 lt)

  over : (k : ℕ) → k < nets.width net → Lies (how_at net.cells k) (get_or input k 0) (get_or rested k 0)
  over k lt = subst (λ (x : ℕ). Lies (how_at net.cells k) (get_or input k 0) x) (sym (at k lt)) (⊎_elim
      (λ h. fit.above k (content_or (get_or words k 0) (noted m.words k)) h)
      (λ e. subst (λ (x : ℕ). Lies (how_at net.cells k) (get_or input k 0) x) (sym e) (above_input k lt))
      (noted-cases m.words k (get_or words k 0)))

  under_words : (k : ℕ) → k < nets.width net → Lies (how_at net.cells k) (get_or rested k 0) (get_or words k 0)
  under_words k lt = subst (λ (x : ℕ). Lies (how_at net.cells k) x (get_or words k 0)) (sym (at k lt)) (⊎_elim
      (λ h. fit.word_below k (content_or (get_or words k 0) (noted m.words k)) (inr h))
      (λ e. subst (λ (x : ℕ). Lies (how_at net.cells k) x (get_or words k 0)) (sym e) (Lies-refl (how_at net.cells k) (get_or words k 0)))
      (noted-cases m.words k (get_or words k 0)))

  are : AreWords net.cells rested
  are = record {
    long = length-overlaid m.words store_words ∙ wide ∙ sym (as_many net.cells);
    above = λ k lt. let inside : k < nets.width net = let a = length-overlaid m.words store_words in let b = wide in omega arith in
        Lies-trans (how_at net.cells k) (get_or (empty_words net.cells) k 0) (get_or input k 0) (get_or rested k 0) (ii.above k (let a = ii.long in let b = as_many net.cells in omega arith)) (over k inside);
  }

  -- of the lower strata the notes are what is there
  abbrev plain : List ℕ
  plain = noted_words net m

  agree : IsFinalUpto net plain p rested
  agree q lt small =
      let k : ℕ = word_of (signals net.cells) q in
      let inside : k < nets.width net = word_there net.cells q lt in
      ap (part_of (signals net.cells) q)
      (at k inside ∙ noted-same m.words k (get_or words k 0) (get_or (empty_words net.cells) k 0) (covers.words q lt small)
      ∙ sym (overlaid-at m.words (empty_words net.cells) k (let b = as_many net.cells in omega arith)))

  claimed : (leaf : ℕ) (l : NetLeaf) → RunsLeaf net (store_in net.cells rested) leaf l → IsTrue (is_under p (least_stratum net.cells (atoms_of l.kind))) → IsLow net p leaf → HasNote m.leaves leaf 1
  claimed leaf l run under low = covers.leaves leaf low (record { leaf_is = l; is = low-runs net is strat rested plain p agree leaf l under run })

  is-rest : IsRest net input out p rested
  is-rest = record {
    words = are;
    above = over;
    below = λ k lt. Lies-trans (how_at net.cells k) (get_or rested k 0) (get_or words k 0) (get_or out k 0) (under_words k lt) (below k lt);
    told = λ n l run under. all-within net is rested n l run.there (λ j lt.
        let low : IsLow net p n = is-low n l run.there under in
        let has = claimed n l run under low in
        let i : ℕ = (word_and_bits net n j).0 in
        let inside : i < nets.width net = (whole net is).tells n j lt in
        subst (λ (x : ℕ). Lies (how_at net.cells i) (word_and_bits net n j).1 x) (sym (at i inside)) (⊎_elim
        (λ h. fit.told n j (content_or (get_or words i 0) (noted m.words i)) has lt h)
        (λ e. subst (λ (x : ℕ). Lies (how_at net.cells i) (word_and_bits net n j).1 x) (sym e) (fit.posted n j has lt))
        (noted-cases m.words i (get_or words i 0))));
  }
    where
      is-low : (n : ℕ) (l : NetLeaf) → slice_get net.leaves n ≡ Some l → IsTrue (is_under p (least_stratum net.cells (atoms_of l.kind))) → IsLow net p n
      is-low n l there under = under-low net is p n l there under

  pub rests : Rested net p out words
  rests =
      let d : IsDone net out p rested = rest-done net is input out ii fin strat p few rested is-rest in
      record {
        final = λ q lt small. Lies-antisymm (part_how net.cells q) (nets.part_in net words q) (nets.part_in net out q) (parts_below net.cells words out below q lt)
            (subst (λ (x : ℕ). Lies (part_how net.cells q) x (nets.part_in net words q)) (d.same q lt small) (parts_below net.cells rested words under_words q lt));
        done = λ leaf j run low lt.
            let l : NetLeaf = run.leaf_is in
            let under = low-under net is p leaf l run.is.there low in
            let has = claimed leaf l (record { there = run.is.there; run = d.runs leaf l run.is under }) under low in
            (fit.leaf_set leaf (inr has), fit.posted leaf j has lt);
      }
