-- A leaf that is decided for a view is run by the final words.
use Rattle.std.proofs.Common.{◌≡◌, ℕ, zero, suc, ◌+◌, ◌-◌, ◌<◌, ◌≤◌, Bool, true, false, ◌&&◌, not, List, [], ◌∷◌, length, Some, None, refl, sym, ap, ◌∙◌, subst, arith, nat_lt, take, drop, length-drop}
use Rattle.std.specs.Prelude.{Option, slice_get, slice_range, slice_index_or, IsTrue, Contains, ◌||◌}
use Rattle.std.specs.List.{list_all}
use Rattle.std.proofs.lemmas.Option.{slice_get_within}
use Rattle.std.proofs.lemmas.List.Elements.{All-contains}
use Rattle.token_system.specs.declared.cell.Value.{Value}
use Rattle.token_system.specs.Values.{value_entails}
use Rattle.token_system.specs.Stores.{StoreMap}
use Rattle.token_system.proofs.Alike.{true_false}
use Rattle.agent_core.specs.Strata.{Each}
use Rattle.agent_core.proofs.Bools.{both, first_of_both, second_of_both}
use Rattle.agent_laws.proofs.Eachs.{all_each, each_at}
use Rattle.instant_net.specs.declared.parts.Atom.{Atom}
use Rattle.instant_net.specs.declared.parts.NetCell.{NetCell}
use Rattle.instant_net.specs.declared.parts.NetGuard.{NetGuard}
use Rattle.instant_net.specs.declared.parts.NetLeaf.{NetLeaf}
use Rattle.instant_net.specs.Deciding.{is_decided, is_open, is_passed, is_sure}
use Rattle.instant_net.specs.NamedLeaves.{NamedGuard, named_entails, named_holds, allowed, allows_named}
use Rattle.instant_net.specs.Nets.{Flat, IsAtOrAbove, here, above, named_atoms, named_guard, named_leaf, AtomFits, LeafIsWhole}
use Rattle.instant_net.specs.Opened.{IsNet}
use Rattle.instant_net.specs.PartLists.{parts}
use Rattle.instant_net.specs.Readers.{above_of, greatest_stratum, is_tell_of, last_of}
use Rattle.instant_net.specs.Seen.{SeenView, IsSeenOf, is_set, is_settled, is_settled_there, is_settled_cell}
use Rattle.instant_net.specs.Words.{store_in, value_in, signals}
use Rattle.instant_net.specs.WordParts.{part_at}
use Rattle.instant_net.proofs.OpenPaths.{open_stops, open_above}
use Rattle.instant_net.proofs.StoreLookups.{value_at-cell}
use Rattle.instant_net.proofs.WordPlaces.{width, same_at, value_by_parts}
use Rattle.net_laws.proofs.NetTells.{BelowCell, entails-above, entails-up, named-each, named-fits}
use Rattle.net_laws.proofs.NetSystem.{path-each, each-contained}
use Rattle.net_laws.proofs.PartPlaces.{part_there}
use Rattle.net_laws.proofs.RisingWords.{words_rise}
use Rattle.instant_core.specs.Net as nets
use Rattle.instant_core.specs.Net.{Runs, part_in}
use Rattle.instant_core.specs.Invariant.{AreSettled}

-- each flag of a range is set
taken_set : (flags : List Bool) (n : ℕ) → IsTrue (list_all (λ flag. flag) (take n flags)) → (j : ℕ) → j < n → j < length flags → IsTrue (is_set flags j)
taken_set [] n h j a b = absurd (omega arith)
taken_set (f ∷ flags) zero h j a b = absurd (omega arith)
taken_set (f ∷ flags) (suc n) h zero a b = first_of_both f (list_all (λ flag. flag) (take n flags)) h
taken_set (f ∷ flags) (suc n) h (suc j) a b = taken_set flags n (second_of_both f (list_all (λ flag. flag) (take n flags)) h) j (omega arith) (omega arith)

dropped_set : (flags : List Bool) (k j : ℕ) → is_set (drop k flags) j ≡ is_set flags (k + j)
dropped_set flags zero j = ap (is_set flags) (omega arith)
dropped_set [] (suc k) j = refl
dropped_set (f ∷ flags) (suc k) j = dropped_set flags k j ∙ ap (is_set (f ∷ flags)) (let e : suc (k + j) ≡ suc k + j = omega arith in e)

range_set : (flags : List Bool) (first n : ℕ) → first + n ≤ length flags → IsTrue (list_all (λ flag. flag) (slice_range flags first (first + n))) → (j : ℕ) → j < n → IsTrue (is_set flags (first + j))
range_set flags first n le h j lt =
    let many : first + n - first ≡ n = omega arith in
    let all : IsTrue (list_all (λ flag. flag) (take n (drop first flags))) = subst (λ (m : ℕ). IsTrue (list_all (λ flag. flag) (take m (drop first flags)))) many h in
    subst (λ (b : Bool). IsTrue b) (dropped_set flags first j) (taken_set (drop first flags) n all j lt (let long = length-drop first flags in omega arith))

all_at : {X : Type 0} (test : X → Bool) (xs : List X) (x : X) → Contains xs x → IsTrue (list_all test xs) → IsTrue (test x)
all_at test [] x c h = absurd (let lt = c.1 in omega arith)
all_at test (y ∷ xs) x (zero, lt, e) h = subst (λ z. IsTrue (test z)) e (first_of_both (test y) (list_all test xs) h)
all_at test (y ∷ xs) x (suc n, lt, e) h = all_at test xs x (n, omega (arith, lt), e) (second_of_both (test y) (list_all test xs) h)

module _ (net : Flat) (is : IsNet net) (s : SeenView) where
  -- each guard at or above the last of an open path is passed
  open_each : (o : Option ℕ) → IsTrue (is_open net s o) → (k : ℕ) (g : NetGuard) → slice_get net.guards k ≡ Some g → IsAtOrAbove net.guards k o → IsTrue (is_passed net s (Some g))
  open_each o h k g at up = go o up h
    where
      passed : (j : ℕ) (f : NetGuard) → slice_get net.guards j ≡ Some f → IsTrue (is_open net s (Some j)) → (b : Bool) → b ≡ is_passed net s (slice_get net.guards j) → IsTrue (is_passed net s (Some f)) × IsTrue (is_open net s f.above)
      passed j f there open_j true e = (sym (ap (is_passed net s) there) ∙ sym e, ap (λ (x : Option NetGuard). is_open net s (above_of x)) (sym there) ∙ sym (open_above net is s j (slice_get_within net.guards j f there) true e refl) ∙ open_j)
      passed j f there open_j false e = absurd (true_false (sym open_j ∙ open_stops net is s j (slice_get_within net.guards j f there) false e refl))

      go : (o : Option ℕ) → IsAtOrAbove net.guards k o → IsTrue (is_open net s o) → IsTrue (is_passed net s (Some g))
      go _ here open_j = (passed k g at open_j (is_passed net s (slice_get net.guards k)) refl).0
      go _ (above j f there more) open_j = go f.above more (passed j f there open_j (is_passed net s (slice_get net.guards j)) refl).1

  module _ (out : List ℕ) (of_net : IsSeenOf net s) (below : nets.IsWordsBelow net s.words out) (settled : AreSettled net out s) where
    abbrev seen : StoreMap
    seen = store_in net.cells s.words

    abbrev final : StoreMap
    final = store_in net.cells out

    -- a settled cell has its final value
    settled-cell : (i : ℕ) (c : NetCell) → slice_get net.cells i ≡ Some c → IsTrue (is_settled_cell s c) → BelowCell final seen c
    settled-cell i c at all t fits h =
        let laid = is.of.cells.laid_out in
        let vs = value_at-cell net.cells s.words is.of.cells.order i c at in
        let vo = value_at-cell net.cells out is.of.cells.order i c at in
        let value : value_in out c ≡ value_in s.words c =
        value_by_parts net.cells laid out i c at
        ∙ same_at c.cell.kind (part_at (signals net.cells) out) (part_at (signals net.cells) s.words) c.first c.first (λ j l. sym (settled (c.first + j) (one j l)).2)
        ∙ sym (value_by_parts net.cells laid s.words i c at) in
        subst (λ (x : Value). IsTrue (value_entails x t)) (vo ∙ value ∙ sym vs) h
      where
        one : (j : ℕ) → j < width c → IsTrue (is_set s.settled (c.first + j))
        one j l =
            let last = part_there net.cells is.of.cells.laid_out i c at (width c - 1) (omega arith) in
            let long = of_net.settled in
            range_set s.settled c.first (width c) (omega arith) all j l

    fit : (k : ℕ) (g : NetGuard) → slice_get net.guards k ≡ Some g → Each (AtomFits net.cells) g.ask
    fit k g at = all_each (AtomFits net.cells) g.ask (is.of.whole.guards k g at).0

    -- so what a guard asks for is entailed only where it is seen
    back : (k : ℕ) (g : NetGuard) → slice_get net.guards k ≡ Some g → IsTrue (list_all (is_settled net.cells s) g.ask) → IsTrue (named_entails final (named_atoms net.cells g.ask)) → IsTrue (named_entails seen (named_atoms net.cells g.ask))
    back k g at all = entails-up final seen (named_atoms net.cells g.ask) (named-each net.cells (λ x. IsTrue (named_holds final x) → IsTrue (named_holds seen x)) g.ask (each-contained _ g.ask one))
      where
        one : (a : Atom) → Contains g.ask a
            → (c : NetCell) × (slice_get net.cells a.cell ≡ Some c) × (IsTrue (named_holds final (record { name = c.name; cell = c.cell; token = a.token })) → IsTrue (named_holds seen (record { name = c.name; cell = c.cell; token = a.token })))
        one a there =
            let f : AtomFits net.cells a = All-contains (AtomFits net.cells) g.ask a (is.of.whole.guards k g at).0 there in
            let cell : IsTrue (is_settled_cell s f.0) = ap (is_settled_there s) (sym f.1) ∙ all_at (is_settled net.cells s) g.ask a there all in
            (f.0, f.1, λ h. settled-cell a.cell f.0 f.1 cell a.token f.2 h)

    -- a guard that is passed is allowed by the final words
    guard-runs : (k : ℕ) (g : NetGuard) → slice_get net.guards k ≡ Some g → IsTrue (is_passed net s (Some g)) → IsTrue (allows_named final (named_guard net.cells g))
    guard-runs k g at h = go g.negative (first_of_both (allows_named seen (named_guard net.cells g)) (is_sure net s g) h) (second_of_both (allows_named seen (named_guard net.cells g)) (is_sure net s g) h)
      where
        no : (a b : Bool) → (IsTrue b → IsTrue a) → IsTrue (not a) → IsTrue (not b)
        no a true f h = absurd (let x : IsTrue a = f refl in let y : not a ≡ false = ap not x in true_false (sym h ∙ y))
        no a false f h = refl

        go : (b : Bool) → IsTrue (allowed b (named_entails seen (named_atoms net.cells g.ask))) → IsTrue (not b || (nat_lt (greatest_stratum net.cells g.ask) s.known && list_all (is_settled net.cells s) g.ask))
            → IsTrue (allowed b (named_entails final (named_atoms net.cells g.ask)))
        go true h sure = no (named_entails seen (named_atoms net.cells g.ask)) (named_entails final (named_atoms net.cells g.ask))
            (back k g at (second_of_both (nat_lt (greatest_stratum net.cells g.ask) s.known) (list_all (is_settled net.cells s) g.ask) sure)) h
        go false h sure = entails-above net.cells seen final (named_atoms net.cells g.ask) (named-fits net.cells g.ask (fit k g at)) (words_rise net is s.words out below) h

    all-runs : (path : List NamedGuard) → Each (λ (g : NamedGuard). IsTrue (allows_named final g)) path → IsTrue (list_all (allows_named final) path)
    all-runs [] e = refl
    all-runs (g ∷ path) e = both _ _ e.0 (all-runs path e.1)

    pub decided_runs : (leaf : ℕ) → IsTrue (is_decided net s leaf) → Runs net out leaf
    decided_runs leaf d = go (slice_get net.leaves leaf) refl
      where
        go : (o : Option NetLeaf) → slice_get net.leaves leaf ≡ o → Runs net out leaf
        go None at = absurd (true_false (sym d ∙ ap (λ (x : Option NetLeaf). is_tell_of x && is_open net s (last_of x)) at))
        go (Some l) at =
            let last = (each_at (LeafIsWhole net) net.leaves leaf l (all_each (LeafIsWhole net) net.leaves is.of.whole.leaves) at).1 in
            let path : IsTrue (is_open net s l.last) = second_of_both (is_tell_of (Some l)) (is_open net s l.last) (ap (λ (x : Option NetLeaf). is_tell_of x && is_open net s (last_of x)) (sym at) ∙ d) in
            record {
              leaf_is = l;
              is = record {
                there = at;
                run = all-runs (named_leaf net l).path
                    (path-each net.cells net.guards (λ k g at. (is.of.whole.guards k g at).1) (λ g. IsTrue (allows_named final g)) (length net.guards) l.last last (omega arith) (λ k g at up. guard-runs k g at (open_each l.last path k g at up)));
              };
            }

pub exists : (net : Flat) (s : SeenView) (leaf : ℕ) → IsTrue (is_decided net s leaf) → leaf < length net.leaves
exists net s leaf d = go (slice_get net.leaves leaf) refl
  where
    go : (o : Option NetLeaf) → slice_get net.leaves leaf ≡ o → leaf < length net.leaves
    go None at = absurd (true_false (sym d ∙ ap (λ (x : Option NetLeaf). is_tell_of x && is_open net s (last_of x)) at))
    go (Some l) at = slice_get_within net.leaves leaf l at

pub tells : (net : Flat) (s : SeenView) (leaf : ℕ) → IsTrue (is_decided net s leaf) → IsTrue (is_tell_of (slice_get net.leaves leaf))
tells net s leaf d = first_of_both (is_tell_of (slice_get net.leaves leaf)) (is_open net s (last_of (slice_get net.leaves leaf))) d
