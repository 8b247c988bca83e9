-- What telling atoms does to words: they become the least words above that have the bits, part by part. And what lies in words is entailed.
use Rattle.std.proofs.Common.{◌≡◌, ◌≢◌, ℕ, ◌+◌, ◌<◌, List, [], ◌∷◌, length, set, Option, refl, sym, ap, ◌∙◌, subst, arith, get_or-set_same, get_or-set_other}
use Rattle.std.specs.Prelude.{slice_index, IsTrue}
use Rattle.std.proofs.lemmas.List.{set-get_or}
use mathlib.Core.Logic.{dite}
use native.Mathlib.Decide.{ℕ_discrete}
use Rattle.token_system.specs.Stores.{StoreMap}
use Rattle.agent_core.specs.Strata.{Each}
use Rattle.agent_laws.proofs.Eachs.{each_all}
use Rattle.instant_net.specs.declared.parts.Atom.{Atom}
use Rattle.instant_net.specs.declared.parts.NetCell.{NetCell}
use Rattle.instant_net.specs.declared.words.How.{How}
use Rattle.instant_net.specs.declared.words.Told.{Told}
use Rattle.instant_net.specs.NamedLeaves.{named_entails, tell_named}
use Rattle.instant_net.specs.Nets.{Flat, named_atoms, AtomFits}
use Rattle.instant_net.specs.Opened.{IsNet}
use Rattle.instant_net.specs.PartLists.{part_how}
use Rattle.instant_net.specs.WordParts.{word_of, part_of, part_at}
use Rattle.instant_net.specs.Words.{lub, Lies, hows, signals, atom_told, told_of, tell_word, tell_atoms, store_in, AreWords, JoinsParts}
use Rattle.instant_net.proofs.PartTells.{part_lub}
use Rattle.instant_net.proofs.TokenTells.{how_there, told_in_range, atom-AreWords, other_part, all_told}
use Rattle.instant_net.proofs.WordOrders.{Lies-refl, Lies-trans, lub_comm, lub-above_first, lub-above_second, lub-least}
use Rattle.instant_net.proofs.WordPlaces.{as_many}
use Rattle.instant_net.proofs.WordStores.{words-store}
use Rattle.instant_net.proofs.WordValues.{told_nth}
use Rattle.net_laws.specs.WordsBelow.{how_at, WordsBelow, AtomWithin, AllWithin}
use Rattle.net_laws.specs.FinalWords.{PartTold}
use Rattle.net_laws.proofs.NetTells.{named-fits, tell-all}
use Rattle.net_laws.proofs.PartPlaces.{part_joins}

module _ (net : Flat) (is : IsNet net) where
  abbrev cells : List NetCell
  cells = net.cells

  abbrev s : ℕ
  s = signals cells

  long : (words : List ℕ) → AreWords cells words → length words ≡ length (hows cells)
  long words are = are.long ∙ as_many cells

  pub in-range : (a : Atom) → AtomFits cells a → (words : List ℕ) → AreWords cells words → (told_of cells a).word < length words
  in-range a f words are = told_in_range cells is.of.cells.laid_out is.of.cells.order words are a f

  -- ENTAILED

  unmoved : (words : List ℕ) (atoms : List Atom) → AllWithin cells words atoms → tell_atoms cells atoms words ≡ words
  unmoved words [] h = refl
  unmoved words (a ∷ atoms) h =
      let t : Told = told_of cells a in
      let same : tell_word words t ≡ words = ap (set words t.word) (lub_comm t.how (slice_index words t.word) t.bits ∙ h.0) ∙ set-get_or words t.word 0 in
      ap (tell_atoms cells atoms) same ∙ unmoved words atoms h.1

  pub within-entailed : (words : List ℕ) → AreWords cells words → (atoms : List Atom) → Each (AtomFits cells) atoms → AllWithin cells words atoms → IsTrue (named_entails (store_in cells words) (named_atoms cells atoms))
  within-entailed words are atoms fits h =
      let store = (all_told cells is.of.cells.laid_out is.of.cells.order atoms (each_all (AtomFits cells) atoms fits) words are).1 in
      let same : tell_named (named_atoms cells atoms) (store_in cells words) ≡ store_in cells words = sym store ∙ ap (store_in cells) (unmoved words atoms h) in
      subst (λ (x : StoreMap). IsTrue (named_entails x (named_atoms cells atoms))) same
      (tell-all net is (named_atoms cells atoms) (store_in cells words) (named-fits cells atoms fits) (words-store net is words are)).entails

  -- ONE ATOM

  module _ (words : List ℕ) (are : AreWords cells words) (a : Atom) (f : AtomFits cells a) where
    abbrev t : Told
    t = told_of cells a

    abbrev after : List ℕ
    after = tell_word words t

    -- it is told as its word is
    pub told-how : how_at cells t.word ≡ t.how
    told-how = subst (λ (o : Option NetCell). how_at cells (atom_told o a.token).word ≡ (atom_told o a.token).how) (sym f.1) (how_there cells is.of.cells.laid_out words are a.cell f.0 f.1 a.token f.2)

    -- and as each part of that
    part-how : (q : ℕ) → t.word ≡ word_of s q → part_how cells q ≡ t.how
    part-how q e = ap (how_at cells) (sym e) ∙ told-how

    joins : (q : ℕ) → t.word ≡ word_of s q → JoinsParts s q t.how
    joins q e l = sym (part-how q e) ∙ part_joins cells q l

    there : slice_index after t.word ≡ lub t.how (slice_index words t.word) t.bits
    there = get_or-set_same words t.word (lub t.how (slice_index words t.word) t.bits) 0 (in-range a f words are)

    else_where : (k : ℕ) → k ≢ t.word → slice_index after k ≡ slice_index words k
    else_where k n = get_or-set_other words t.word k (lub t.how (slice_index words t.word) t.bits) 0 n

    part-there : (q : ℕ) → t.word ≡ word_of s q → part_at s after q ≡ lub t.how (part_at s words q) (part_of s q t.bits)
    part-there q e =
        ap (λ k. part_of s q (slice_index after k)) (sym e) ∙ ap (part_of s q) there ∙ part_lub s q t.how (slice_index words t.word) t.bits (joins q e)
        ∙ ap (λ k. lub t.how (part_of s q (slice_index words k)) (part_of s q t.bits)) e

    one-above : WordsBelow cells words after
    one-above k lt = dite (ℕ_discrete k t.word)
        (λ e. subst (λ (j : ℕ). Lies (how_at cells j) (slice_index words j) (slice_index after j)) (sym e)
        (subst (λ (h : How). Lies h (slice_index words t.word) (slice_index after t.word)) (sym told-how)
        (subst (λ (y : ℕ). Lies t.how (slice_index words t.word) y) (sym there) (lub-above_first t.how (slice_index words t.word) t.bits))))
        (λ n. subst (λ (y : ℕ). Lies (how_at cells k) (slice_index words k) y) (sym (else_where k n)) (Lies-refl (how_at cells k) (slice_index words k)))

    one-within : AtomWithin cells after a
    one-within = subst (λ (y : ℕ). Lies t.how t.bits y) (sym there) (lub-above_second t.how (slice_index words t.word) t.bits)

    one-least : (q x : ℕ) → Lies (part_how cells q) (part_at s words q) x → PartTold cells q x a → Lies (part_how cells q) (part_at s after q) x
    one-least q x low bits = dite (ℕ_discrete t.word (word_of s q))
        (λ e. subst (λ (h : How). Lies h (part_at s after q) x) (sym (part-how q e))
        (subst (λ (y : ℕ). Lies t.how y x) (sym (part-there q e))
        (lub-least t.how (part_at s words q) (part_of s q t.bits) x (subst (λ (h : How). Lies h (part_at s words q) x) (part-how q e) low) (bits e))))
        (λ n. subst (λ (y : ℕ). Lies (part_how cells q) y x) (sym (ap (part_of s q) (else_where (word_of s q) (λ e. n (sym e))))) low)

    -- what lies in a word lies in its parts
    pub within-part : (q : ℕ) → t.word ≡ word_of s q → AtomWithin cells words a → Lies t.how (part_of s q t.bits) (part_at s words q)
    within-part q e h =
        subst (λ (k : ℕ). Lies t.how (part_of s q t.bits) (part_of s q (slice_index words k))) e
        (sym (part_lub s q t.how t.bits (slice_index words t.word) (joins q e)) ∙ ap (part_of s q) h)

    -- of a part that is not the told one the bits have nothing
    pub beside-part : (q : ℕ) → t.word ≡ word_of s q → q ≢ f.0.first + told_nth f.0.cell.kind a.token → Lies t.how (part_of s q t.bits) (part_at s words q)
    beside-part q e n =
        lub_comm t.how (part_of s q t.bits) (part_at s words q) ∙ sym (part-there q e)
        ∙ subst (λ (o : Option NetCell). part_at s (tell_word words (atom_told o a.token)) q ≡ part_at s words q) (sym f.1) (other_part cells is.of.cells.laid_out words are a.cell f.0 f.1 a.token f.2 q n)

  -- ATOMS

  -- what lies in words lies in words above them
  pub within-up : (u w : List ℕ) → AreWords cells u → WordsBelow cells u w → (atoms : List Atom) → Each (AtomFits cells) atoms → AllWithin cells u atoms → AllWithin cells w atoms
  within-up u w iu low [] fits h = tt
  within-up u w iu low (a ∷ atoms) fits h =
      let x = told_of cells a in
      let range = in-range a fits.0 u iu in
      let l = long u iu in (
        Lies-trans x.how x.bits (slice_index u x.word) (slice_index w x.word) h.0 (subst (λ (g : How). Lies g (slice_index u x.word) (slice_index w x.word)) (told-how u iu a fits.0) (low x.word (omega arith))),
        within-up u w iu low atoms fits.1 h.1,
      )

  -- what these words become where the atoms are told
  pub record IsTold (atoms : List Atom) (words after : List ℕ) : Type 0 where
    pub are : AreWords cells after
    pub above : WordsBelow cells words after
    pub within : AllWithin cells after atoms
    pub least : (q x : ℕ) → Lies (part_how cells q) (part_at s words q) x → Each (PartTold cells q x) atoms → Lies (part_how cells q) (part_at s after q) x

  pub atoms-told : (atoms : List Atom) (words : List ℕ) → AreWords cells words → Each (AtomFits cells) atoms → IsTold atoms words (tell_atoms cells atoms words)
  atoms-told [] words are fits = record { are = are; above = λ k lt. Lies-refl (how_at cells k) (slice_index words k); within = tt; least = λ q x low h. low }
  atoms-told (a ∷ atoms) words are fits =
      let next : List ℕ = tell_word words (told_of cells a) in
      let inext : AreWords cells next = atom-AreWords cells is.of.cells.laid_out is.of.cells.order words are a fits.0 in
      let rest = atoms-told atoms next inext fits.1 in
      record {
        are = rest.are;
        above = λ k lt. Lies-trans (how_at cells k) (slice_index words k) (slice_index next k) (slice_index (tell_atoms cells atoms next) k) (one-above words are a fits.0 k lt) (rest.above k lt);
        within = ((within-up next (tell_atoms cells atoms next) inext rest.above (a ∷ []) (fits.0, tt) (one-within words are a fits.0, tt)).0, rest.within);
        least = λ q x low h. rest.least q x (one-least words are a fits.0 q x low h.0) h.1;
      }
