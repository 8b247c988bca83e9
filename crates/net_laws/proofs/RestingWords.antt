-- Words in which the leaves of the lower strata have told are final there; and words between the input and the final ones are on the way of settling.
use Rattle.std.proofs.Common.{◌≡◌, ℕ, zero, suc, ◌+◌, ◌<◌, ◌≤◌, List, [], ◌∷◌, length, Some, None, refl, sym, ap, ◌∙◌, subst, arith, nat_lt}
use Rattle.std.specs.Prelude.{slice_get, IsTrue, Option, Contains}
use Rattle.std.proofs.lemmas.Bool.Decides.{nat_tests}
use Rattle.std.proofs.lemmas.Option.{slice_get_read}
use Rattle.std.proofs.lemmas.List.Elements.{All-contains}
use mathlib.Core.Logic.{dite}
use native.Mathlib.Decide.{ℕ_discrete}
use Rattle.token_system.specs.declared.cell.Value.{Value}
use Rattle.token_system.specs.Values.{value_entails}
use Rattle.token_system.specs.Stores.{StoreMap}
use Rattle.token_system.proofs.Alike.{true_false}
use Rattle.agent_core.specs.Strata.{Each}
use Rattle.agent_laws.proofs.Eachs.{each_all, each_at}
use Rattle.instant_net.specs.declared.parts.Atom.{Atom}
use Rattle.instant_net.specs.declared.parts.NetCell.{NetCell}
use Rattle.instant_net.specs.declared.parts.NetLeaf.{NetLeaf}
use Rattle.instant_net.specs.NamedLeaves.{runs_named}
use Rattle.instant_net.specs.Nets.{Flat, named_leaf, AtomFits, atoms_of}
use Rattle.instant_net.specs.Opened.{IsNet}
use Rattle.instant_net.specs.Outputs.{IsStratified}
use Rattle.instant_net.specs.PartLists.{part_how, part_stratum}
use Rattle.instant_net.specs.Readers.{lesser, least_stratum, stratum_of}
use Rattle.instant_net.specs.WordParts.{part_of, part_at}
use Rattle.instant_net.specs.Words.{Lies, told_of, signals, store_in, value_in, AreWords}
use Rattle.instant_net.proofs.StoreLookups.{value_at-cell}
use Rattle.instant_net.proofs.TokenTells.{nth_within}
use Rattle.instant_net.proofs.WordOrders.{Lies-antisymm}
use Rattle.instant_net.proofs.WordPlaces.{same_at, value_by_parts}
use Rattle.instant_net.proofs.WordStores.{words-store}
use Rattle.instant_net.proofs.WordValues.{told_nth}
use Rattle.net_laws.specs.Ways.{IsNetStoreBelowUpto, IsOnNetWay}
use Rattle.net_laws.specs.WordsBelow.{WordsBelow, AtomWithin, is_under}
use Rattle.net_laws.specs.FinalWords.{RunsLeaf, PartTold, AreFinal}
use Rattle.net_laws.specs.Laws.{IsFinalUpto, IsRest, IsDone}
use Rattle.net_laws.proofs.NetSystem.{level_of, level_or, LeafStands, leaves-stand, each-contained, asked-up, free-down}
use Rattle.net_laws.proofs.Settling.{runs-parts, parts-run, stratum-on_way}
use Rattle.net_laws.proofs.PartPlaces.{part_there, stratum_of_part}
use Rattle.net_laws.proofs.RisingWords.{parts_below, words_rise}
use Rattle.net_laws.proofs.ToldWords.{within-entailed, within-part, beside-part}
use Rattle.net_laws.proofs.FinalWords.{leaves-fit}

-- LEVELS

-- one cell below p puts the level below p
pub under-least : (cells : List NetCell) (p : ℕ) (atoms : List Atom) (k : ℕ) (a : Atom) → slice_get atoms k ≡ Some a → stratum_of (slice_get cells a.cell) < p → IsTrue (is_under p (least_stratum cells atoms))
under-least cells p [] k a e lt = absurd (cc)
under-least cells p (b ∷ atoms) zero a e lt =
    let same : b ≡ a = cc in go (least_stratum cells atoms) (subst (λ (x : Atom). stratum_of (slice_get cells x.cell) < p) (sym same) lt)
  where
    go : (o : Option ℕ) → stratum_of (slice_get cells b.cell) < p → IsTrue (nat_lt (lesser (stratum_of (slice_get cells b.cell)) o) p)
    go None h = grind (arith, nat_tests)
    go (Some m) h = grind (arith, nat_tests)
under-least cells p (b ∷ atoms) (suc k) a e lt = go (least_stratum cells atoms) (under-least cells p atoms k a e lt)
  where
    go : (o : Option ℕ) → IsTrue (is_under p o) → IsTrue (nat_lt (lesser (stratum_of (slice_get cells b.cell)) o) p)
    go None h = absurd (true_false (sym h))
    go (Some m) h = grind (arith, nat_tests)

-- a level of at most k, where k is below p and p at most the number of strata
level-under : (strata p k : ℕ) (o : Option ℕ) → p ≤ strata → k < p → level_or strata o ≤ k → IsTrue (is_under p o)
level-under strata p k None a b h = absurd (omega arith)
level-under strata p k (Some m) a b h = grind (arith, nat_tests)

pub under-level : (strata p : ℕ) (o : Option ℕ) → IsTrue (is_under p o) → level_or strata o < p
under-level strata p None h = absurd (true_false (sym h))
under-level strata p (Some m) h = grind (arith, nat_tests)

module _ (net : Flat) (is : IsNet net) where
  abbrev cells : List NetCell
  cells = net.cells

  abbrev s : ℕ
  s = signals cells

  module _ (input out : List ℕ) (ii : AreWords cells input) (fin : AreFinal net input out) where
    -- ON THE WAY

    pub on-way : (k : ℕ) (words : List ℕ) → AreWords cells words → WordsBelow cells input words → WordsBelow cells words out → IsFinalUpto net out k words
        → IsOnNetWay net (store_in cells input) (store_in cells out) k (store_in cells words)
    on-way k words are above low same = record { store = words-store net is words are; above = words_rise net is input words above; below = words_rise net is words out low; stands = stands }
      where
        stands : IsNetStoreBelowUpto cells k (store_in cells out) (store_in cells words)
        stands c t (i, lt, e) small fits h =
            let at : slice_get cells i ≡ Some c = slice_get_read cells (length cells) i c refl lt (sym e) in
            let laid = is.of.cells.laid_out in
            let vo = value_at-cell cells out is.of.cells.order i c at in
            let vw = value_at-cell cells words is.of.cells.order i c at in
            let value : value_in words c ≡ value_in out c =
            value_by_parts cells laid words i c at
            ∙ same_at c.cell.kind (part_at s words) (part_at s out) c.first c.first (λ j l. same (c.first + j) (part_there cells laid i c at j l) (let n = stratum_of_part cells laid i c at j l in omega arith))
            ∙ sym (value_by_parts cells laid out i c at) in
            subst (λ (v : Value). IsTrue (value_entails v t)) (vo ∙ sym value ∙ sym vw) h

    -- AT REST

    module _ (strat : IsStratified net) (p : ℕ) (few : p ≤ net.strata) (noted : List ℕ) (r : IsRest net input out p noted) where
      abbrev w : StoreMap
      w = store_in cells noted

      abbrev v : StoreMap
      v = store_in cells out

      abbrev level : NetLeaf → Option ℕ
      level l = least_stratum cells (atoms_of l.kind)

      rest-way : (k : ℕ) → k ≤ p → IsOnNetWay net (store_in cells input) v k w
      rest-way zero le = on-way 0 noted r.words r.above r.below (λ q lt small. absurd (omega arith))
      rest-way (suc k) le =
          stratum-on_way net is strat (store_in cells input) v fin.output k w (rest-way k (omega arith)) (λ n l at low run.
          let fits = each_at (λ (x : NetLeaf). Each (AtomFits cells) (atoms_of x.kind)) net.leaves n l (leaves-fit net is) at in
          within-entailed net is noted r.words (atoms_of l.kind) fits
          (r.told n l (record { there = at; run = run }) (level-under net.strata p k (level l) few (omega arith) low)))

      rest-runs : (n : ℕ) (l : NetLeaf) → RunsLeaf net v n l → IsTrue (is_under p (level l)) → IsTrue (runs_named w (named_leaf net l))
      rest-runs n l run under =
          let way = rest-way p (omega arith) in
          let f : LeafStands net l = each_at (LeafStands net) net.leaves n l (leaves-stand net is strat) run.there in
          let low = under-level net.strata p (level l) under in
          let ran = runs-parts v (named_leaf net l).path run.run in
          parts-run w (named_leaf net l).path
          (free-down cells p (level_of net l) w v (λ c t at lt. way.below c t at) (named_leaf net l).path (omega arith) f.path ran.0)
          (asked-up cells p (level_of net l) v w way.stands (named_leaf net l).path (omega arith) f.path ran.1)

      -- what a leaf that the output runs tells to a part below p lies in the noted words
      rest-told : (q : ℕ) → part_stratum cells q < p → (n : ℕ) (l : NetLeaf) → RunsLeaf net v n l → Each (PartTold cells q (part_at s noted q)) (atoms_of l.kind)
      rest-told q small n l run = each-contained (PartTold cells q (part_at s noted q)) (atoms_of l.kind) one
        where
          fits : Each (AtomFits cells) (atoms_of l.kind)
          fits = each_at (λ (x : NetLeaf). Each (AtomFits cells) (atoms_of x.kind)) net.leaves n l (leaves-fit net is) run.there

          one : (a : Atom) → Contains (atoms_of l.kind) a → PartTold cells q (part_at s noted q) a
          one a there e = dite (ℕ_discrete q (f.0.first + told_nth f.0.cell.kind a.token)) here (beside-part net is noted r.words a f q e)
            where
              f : AtomFits cells a
              f = All-contains (AtomFits cells) (atoms_of l.kind) a (each_all (AtomFits cells) (atoms_of l.kind) fits) there

              here : q ≡ f.0.first + told_nth f.0.cell.kind a.token → Lies (told_of cells a).how (part_of s q (told_of cells a).bits) (part_at s noted q)
              here same =
                  let of_cell : part_stratum cells q ≡ f.0.stratum = ap (part_stratum cells) same ∙ stratum_of_part cells is.of.cells.laid_out a.cell f.0 f.1 (told_nth f.0.cell.kind a.token) (nth_within cells is.of.cells.laid_out noted r.words a.cell f.0 f.1 a.token f.2) in
                  let of_atom : stratum_of (slice_get cells a.cell) ≡ f.0.stratum = ap stratum_of f.1 in
                  let under = under-least cells p (atoms_of l.kind) there.0 a (slice_get_read (atoms_of l.kind) (length (atoms_of l.kind)) there.0 a refl there.1 (sym there.2)) (omega arith) in
                  let told = r.told n l (record { there = run.there; run = rest-runs n l run under }) under in
                  within-part net is noted r.words a f q e (All-contains (AtomWithin cells noted) (atoms_of l.kind) a (each_all (AtomWithin cells noted) (atoms_of l.kind) told) there)

      rest-same : IsFinalUpto net out p noted
      rest-same q lt small =
          Lies-antisymm (part_how cells q) (part_at s noted q) (part_at s out q) (parts_below cells noted out r.below q lt)
          (fin.least q (part_at s noted q) lt (parts_below cells input noted r.above q lt) (rest-told q small))

      pub rest-done : IsDone net out p noted
      rest-done = record { same = rest-same; runs = rest-runs }
