-- The final words are those of the output.
use Rattle.std.proofs.Common.{◌≡◌, ℕ, Bool, true, false, ◌&&◌, not, cond, List, [], ◌∷◌, Some, refl, sym, ap, ◌∙◌, subst}
use Rattle.std.specs.Prelude.{slice_get, slice_index, IsTrue, if◌then◌else◌}
use Rattle.std.specs.List.{list_all}
use Rattle.token_system.specs.Stores.{StoreMap}
use Rattle.token_system.proofs.Alike.{true_false}
use Rattle.agent_core.specs.Strata.{Each}
use Rattle.agent_core.proofs.Bools.{both, first_of_both, second_of_both}
use Rattle.agent_laws.proofs.Eachs.{Each-map, all_each, each_all, each_at}
use Rattle.agent_laws.proofs.System.{System}
use Rattle.agent_laws.proofs.Settling as settling
use Rattle.instant_net.specs.declared.parts.NetCell.{NetCell}
use Rattle.instant_net.specs.declared.parts.NetLeaf.{NetLeaf}
use Rattle.instant_net.specs.NamedLeaves.{NamedGuard, runs_named, allows_named, named_free, named_asked}
use Rattle.instant_net.specs.Nets.{Flat, named_leaf, AtomFits, LeafIsWhole, atoms_of}
use Rattle.instant_net.specs.Opened.{IsNet}
use Rattle.instant_net.specs.Outputs.{IsNetOutput, IsStratified}
use Rattle.instant_net.specs.PartLists.{part_how}
use Rattle.instant_net.specs.WordParts.{part_at}
use Rattle.instant_net.specs.Words.{Lies, signals, store_in, tell_atoms, AreWords}
use Rattle.instant_net.proofs.WordOrders.{Lies-refl, Lies-trans}
use Rattle.instant_net.proofs.TokenTells.{all_told}
use Rattle.net_laws.specs.WordsBelow.{how_at, WordsBelow, AllWithin}
use Rattle.net_laws.specs.FinalWords.{tell_run, final_words, RunsLeaf, PartTold, AreFinal}
use Rattle.net_laws.proofs.NetSystem.{leaves-stand, each-by_get}
use Rattle.net_laws.proofs.Settling.{runs-parts, parts-run, sys, of_leaves}
use Rattle.net_laws.proofs.ToldWords.{atoms-told, within-up}

-- TO RUN IS TO BE FREE AND ANSWERED, AS TESTS

bool_same : (a b : Bool) → (IsTrue a → IsTrue b) → (IsTrue b → IsTrue a) → a ≡ b
bool_same true true f g = refl
bool_same false false f g = refl
bool_same true false f g = absurd (true_false (sym (f refl)))
bool_same false true f g = absurd (true_false (sym (g refl)))

not_not : (a : Bool) → not (not a) ≡ a
not_not true = refl
not_not false = refl

runs-split : (v : StoreMap) (path : List NamedGuard) → list_all (allows_named v) path ≡ (not (not (list_all (named_free v) path)) && list_all (named_asked v) path)
runs-split v path =
    bool_same (list_all (allows_named v) path) (list_all (named_free v) path && list_all (named_asked v) path)
    (λ h. let r = runs-parts v path h in both (list_all (named_free v) path) (list_all (named_asked v) path) r.0 r.1)
    (λ h. parts-run v path (first_of_both (list_all (named_free v) path) (list_all (named_asked v) path) h) (second_of_both (list_all (named_free v) path) (list_all (named_asked v) path) h))
    ∙ ap (λ b. b && list_all (named_asked v) path) (sym (not_not (list_all (named_free v) path)))

module _ (net : Flat) (is : IsNet net) where
  abbrev cells : List NetCell
  cells = net.cells

  abbrev s : ℕ
  s = signals cells

  abbrev Fit : NetLeaf → Type 0
  Fit l = Each (AtomFits cells) (atoms_of l.kind)

  pub leaves-fit : Each Fit net.leaves
  leaves-fit = Each-map (LeafIsWhole net) Fit (λ l h. all_each (AtomFits cells) (atoms_of l.kind) h.0) net.leaves (all_each (LeafIsWhole net) net.leaves is.of.whole.leaves)

  -- WHAT THE LEAVES TELL

  module _ (v : StoreMap) where
    abbrev run : NetLeaf → Bool
    run l = runs_named v (named_leaf net l)

    -- what words become where each of the leaves that the store runs tells
    record HaveRun (ls : List NetLeaf) (words after : List ℕ) : Type 0 where
      are : AreWords cells after
      above : WordsBelow cells words after
      told : Each (λ (l : NetLeaf). IsTrue (run l) → AllWithin cells after (atoms_of l.kind)) ls
      least : (q x : ℕ) → Lies (part_how cells q) (part_at s words q) x → Each (λ (l : NetLeaf). IsTrue (run l) → Each (PartTold cells q x) (atoms_of l.kind)) ls → Lies (part_how cells q) (part_at s after q) x

    leaves-run : (ls : List NetLeaf) (words : List ℕ) → AreWords cells words → Each Fit ls → HaveRun ls words (tell_run net v ls words)
    leaves-run [] words are fits = record { are = are; above = λ k lt. Lies-refl (how_at cells k) (slice_index words k); told = tt; least = λ q x low h. low }
    leaves-run (l ∷ ls) words are fits = go (λ ws iws. leaves-run ls ws iws fits.1) (run l) refl
      where
        go : ((ws : List ℕ) → AreWords cells ws → HaveRun ls ws (tell_run net v ls ws)) → (b : Bool) → run l ≡ b → HaveRun (l ∷ ls) words (tell_run net v ls (if b then tell_atoms cells (atoms_of l.kind) words else words))
        go more true e =
            let t = atoms-told net is (atoms_of l.kind) words are fits.0 in
            let next : List ℕ = tell_atoms cells (atoms_of l.kind) words in
            let rest = more next t.are in
            record {
              are = rest.are;
              above = λ k lt. Lies-trans (how_at cells k) (slice_index words k) (slice_index next k) (slice_index (tell_run net v ls next) k) (t.above k lt) (rest.above k lt);
              told = (λ h. within-up net is next (tell_run net v ls next) t.are rest.above (atoms_of l.kind) fits.0 t.within, rest.told);
              least = λ q x low h. rest.least q x (t.least q x low (h.0 e)) h.1;
            }
        go more false e =
            let rest = more words are in
            record {
              are = rest.are;
              above = rest.above;
              told = (λ h. absurd (true_false (sym h ∙ e)), rest.told);
              least = λ q x low h. rest.least q x low h.1;
            }

  -- THE OUTPUT

  module _ (strat : IsStratified net) (input : List ℕ) (ii : AreWords cells input) (v : StoreMap) (out : IsNetOutput net (store_in cells input) v) where
    abbrev system : System
    system = sys net is strat

    abbrev stored_run : List NetLeaf → StoreMap → StoreMap
    stored_run ls w = settling.tell_run system net.leaves (store_in cells input) (leaves-stand net is strat) out.given v (of_leaves net is strat (store_in cells input) v out) ls w

    same-run : (l : NetLeaf) → run v l ≡ (not (system.off l v) && system.on l v)
    same-run l = runs-split v (named_leaf net l).path

    same-store : (ls : List NetLeaf) (words : List ℕ) → AreWords cells words → Each Fit ls → store_in cells (tell_run net v ls words) ≡ stored_run ls (store_in cells words)
    same-store [] words are fits = refl
    same-store (l ∷ ls) words are fits =
        go (λ ws iws. same-store ls ws iws fits.1) (run v l) refl ∙ ap (λ (b : Bool). stored_run ls (cond b (system.tell l (store_in cells words)) (store_in cells words))) (same-run l)
      where
        go : ((ws : List ℕ) → AreWords cells ws → store_in cells (tell_run net v ls ws) ≡ stored_run ls (store_in cells ws)) → (b : Bool) → run v l ≡ b
            → store_in cells (tell_run net v ls (if b then tell_atoms cells (atoms_of l.kind) words else words)) ≡ stored_run ls (cond b (system.tell l (store_in cells words)) (store_in cells words))
        go more true e =
            let one = all_told cells is.of.cells.laid_out is.of.cells.order (atoms_of l.kind) (each_all (AtomFits cells) (atoms_of l.kind) fits.0) words are in
            more (tell_atoms cells (atoms_of l.kind) words) one.0 ∙ ap (stored_run ls) one.1
        go more false e = more words are

    abbrev finals : List ℕ
    finals = final_words net input v

    pub final-store : store_in cells finals ≡ v
    final-store =
        same-store net.leaves input ii leaves-fit
        ∙ settling.output-told system net.leaves (store_in cells input) (leaves-stand net is strat) out.given v (of_leaves net is strat (store_in cells input) v out)

    by_output : (n : ℕ) (l : NetLeaf) → RunsLeaf net (store_in cells finals) n l → IsTrue (run v l)
    by_output n l h = subst (λ (x : StoreMap). IsTrue (runs_named x (named_leaf net l))) final-store h.run

    by_finals : (n : ℕ) (l : NetLeaf) → slice_get net.leaves n ≡ Some l → IsTrue (run v l) → RunsLeaf net (store_in cells finals) n l
    by_finals n l at h = record { there = at; run = subst (λ (x : StoreMap). IsTrue (runs_named x (named_leaf net l))) (sym final-store) h }

    pub finals-are : AreFinal net input finals
    finals-are =
        let r = leaves-run v net.leaves input ii leaves-fit in
        record {
          words = r.are;
          output = subst (IsNetOutput net (store_in cells input)) (sym final-store) out;
          above = r.above;
          told = λ n l h. each_at (λ (x : NetLeaf). IsTrue (run v x) → AllWithin cells finals (atoms_of x.kind)) net.leaves n l r.told h.there (by_output n l h);
          least = λ q x lt low h. r.least q x low (each-by_get (λ (l : NetLeaf). IsTrue (run v l) → Each (PartTold cells q x) (atoms_of l.kind)) net.leaves (λ n l at t. h n l (by_finals n l at t)));
        }
