-- The tokens of leaves by their numbers.
use Rattle.std.proofs.Common.{◌≡◌, ◌⊎◌, inl, inr, ℕ, zero, suc, ◌<◌, ◌≤◌, List, [], ◌∷◌, length, get_or, Some, None, refl, sym, ap, ◌∙◌, subst, arith}
use Rattle.std.specs.Prelude.{Option, slice_get, slice_index, slice_index_or, IsTrue}
use Rattle.std.proofs.lemmas.Option.{slice_get_cases, slice_get_read, get_or_from_slice_get, slice_get_within}
use Rattle.token_system.specs.declared.cell.Token.TheVariants.{Clash}
use Rattle.agent_core.specs.Strata.{Each}
use Rattle.agent_laws.proofs.Eachs.{each_at}
use Rattle.instant_net.specs.declared.parts.Atom.{Atom}
use Rattle.instant_net.specs.declared.parts.NetCell.{NetCell}
use Rattle.instant_net.specs.declared.parts.NetLeaf.{NetLeaf}
use Rattle.instant_net.specs.declared.words.How.{How}
use Rattle.instant_net.specs.Nets.{Flat, AtomFits, atoms_of}
use Rattle.instant_net.specs.Opened.{IsNet}
use Rattle.instant_net.specs.Readers.{least_stratum, stratum_of}
use Rattle.instant_net.specs.Readers as readers
use Rattle.instant_net.specs.Words.{Lies, AreWords, empty_words, told_of}
use Rattle.instant_net.proofs.WordOrders.{Lies-refl}
use Rattle.instant_net.proofs.WordPlaces.{as_many}
use Rattle.net_laws.specs.WordsBelow.{AtomWithin, AllWithin, how_at, is_under}
use Rattle.net_laws.proofs.ToldWords.{in-range, told-how}
use Rattle.net_laws.proofs.FinalWords.{leaves-fit}
use Rattle.net_laws.proofs.RestingWords.{under-least}
use Rattle.instant_core.specs.Net as nets
use Rattle.net_laws.specs.FinalWords.{AreFinal}
use Rattle.instant_core.specs.Net.{told_stratum, tells_at, word_and_bits, Entails, Runs, TellsWords, tells_count, IsLow}

abbrev pub none_there : Atom
none_there = record { cell = 0; token = Clash }

-- leaf n is there, and token k is one of its atoms
pub record TokenAt (net : Flat) (leaf k : ℕ) : Type 0 where
  pub leaf_is : NetLeaf
  pub there : slice_get net.leaves leaf ≡ Some leaf_is
  pub atom : Atom
  pub at : slice_get (atoms_of leaf_is.kind) k ≡ Some atom
  pub told : word_and_bits net leaf k ≡ ((told_of net.cells atom).word, (told_of net.cells atom).bits)
  pub stratum : told_stratum net leaf k ≡ stratum_of (slice_get net.cells atom.cell)
  pub fits : AtomFits net.cells atom

module _ (net : Flat) (is : IsNet net) where
  no_words : AreWords net.cells (empty_words net.cells)
  no_words = record { long = refl; above = λ k lt. Lies-refl (how_at net.cells k) (slice_index (empty_words net.cells) k) }

  fits-at : (leaf : ℕ) (l : NetLeaf) → slice_get net.leaves leaf ≡ Some l → Each (AtomFits net.cells) (atoms_of l.kind)
  fits-at leaf l at = each_at (λ (x : NetLeaf). Each (AtomFits net.cells) (atoms_of x.kind)) net.leaves leaf l (leaves-fit net is) at

  atom-at : (leaf : ℕ) (l : NetLeaf) → slice_get net.leaves leaf ≡ Some l → (k : ℕ) (a : Atom) → slice_get (atoms_of l.kind) k ≡ Some a → TokenAt net leaf k
  atom-at leaf l at k a e =
      let read : slice_index_or (tells_at net leaf) k none_there ≡ a = ap (λ (o : Option NetLeaf). slice_index_or (readers.leaf_tells_of o) k none_there) at ∙ get_or_from_slice_get (atoms_of l.kind) k a none_there e in
      record {
        leaf_is = l;
        there = at;
        atom = a;
        at = e;
        stratum = ap (λ (x : Atom). stratum_of (slice_get net.cells x.cell)) read;
        told = ap (λ (x : Atom). ((told_of net.cells x).word, (told_of net.cells x).bits)) read;
        fits = each_at (AtomFits net.cells) (atoms_of l.kind) k a (fits-at leaf l at) e;
      }

  pub token-at : (leaf k : ℕ) → k < tells_count net leaf → TokenAt net leaf k
  token-at leaf k lt = go (slice_get_cases net.leaves leaf).1
    where
      some : (l : NetLeaf) → slice_get net.leaves leaf ≡ Some l → k < length (atoms_of l.kind) → TokenAt net leaf k
      some l at small = atom-at leaf l at k (get_or (atoms_of l.kind) k none_there) (slice_get_read (atoms_of l.kind) (length (atoms_of l.kind)) k (get_or (atoms_of l.kind) k none_there) refl small (read (atoms_of l.kind) k small))
        where
          read : (xs : List Atom) (n : ℕ) → n < length xs → get_or xs n none_there ≡ get_or xs n (get_or xs n none_there)
          read [] n h = absurd (omega arith)
          read (x ∷ xs) zero h = refl
          read (x ∷ xs) (suc n) h = read xs n (omega arith)

      go : ((l : NetLeaf) × (leaf < length net.leaves) × (slice_get net.leaves leaf ≡ Some l) × (get_or net.leaves leaf l ≡ l)) ⊎ ((length net.leaves ≤ leaf) × (slice_get net.leaves leaf ≡ None)) → TokenAt net leaf k
      go (inl found) = some found.0 found.2 (subst (λ (o : Option NetLeaf). k < length (readers.leaf_tells_of o)) found.2 lt)
      go (inr past) = absurd (let e = ap (λ (o : Option NetLeaf). length (readers.leaf_tells_of o)) past.1 in omega arith)

  pub whole : TellsWords net
  whole = record { net_is = is; tells = λ leaf k lt. there (token-at leaf k lt) }
    where
      there : {leaf k : ℕ} → TokenAt net leaf k → (word_and_bits net leaf k).0 < nets.width net
      there {leaf} {k} t =
          let word : (word_and_bits net leaf k).0 ≡ (told_of net.cells t.atom).word = ap (λ (p : ℕ × ℕ). p.0) t.told in
          let room = in-range net is t.atom t.fits (empty_words net.cells) no_words in
          let long = as_many net.cells in
          omega arith

  -- the bits of a token, told to its word as that is told
  pub within-entails : (words : List ℕ) (leaf k : ℕ) (t : TokenAt net leaf k) → AtomWithin net.cells words t.atom → Entails net words (word_and_bits net leaf k)
  within-entails words leaf k t h =
      subst (λ (p : ℕ × ℕ). Lies (how_at net.cells p.0) p.1 (slice_index words p.0)) (sym t.told)
      (subst (λ (g : How). Lies g (told_of net.cells t.atom).bits (slice_index words (told_of net.cells t.atom).word)) (sym (told-how net is (empty_words net.cells) no_words t.atom t.fits)) h)

  pub entails-within : (words : List ℕ) (leaf k : ℕ) (t : TokenAt net leaf k) → Entails net words (word_and_bits net leaf k) → AtomWithin net.cells words t.atom
  entails-within words leaf k t h =
      subst (λ (g : How). Lies g (told_of net.cells t.atom).bits (slice_index words (told_of net.cells t.atom).word)) (told-how net is (empty_words net.cells) no_words t.atom t.fits)
      (subst (λ (p : ℕ × ℕ). Lies (how_at net.cells p.0) p.1 (slice_index words p.0)) t.told h)

  -- each leaf that the final words run has told
  pub final-told : (input out : List ℕ) → AreFinal net input out → (leaf k : ℕ) → Runs net out leaf → k < tells_count net leaf → Entails net out (word_and_bits net leaf k)
  final-told input out fin leaf k run lt =
      let t = token-at leaf k lt in
      let all = fin.told leaf run.leaf_is run.is in
      let same : t.leaf_is ≡ run.leaf_is = let e : Some t.leaf_is ≡ Some run.leaf_is = sym t.there ∙ run.is.there in cc in
      within-entails out leaf k t (each_at (AtomWithin net.cells out) (atoms_of run.leaf_is.kind) k t.atom all (subst (λ (x : NetLeaf). slice_get (atoms_of x.kind) k ≡ Some t.atom) same t.at))

  -- where each token of the leaf lies in the words, all of its atoms do
  pub all-within : (words : List ℕ) (leaf : ℕ) (l : NetLeaf) → slice_get net.leaves leaf ≡ Some l → ((k : ℕ) → k < tells_count net leaf → Entails net words (word_and_bits net leaf k)) → AllWithin net.cells words (atoms_of l.kind)
  unfolding atom-at
  all-within words leaf l at h = by_get (atoms_of l.kind) (λ k a e.
      let t = atom-at leaf l at k a e in
      entails-within words leaf k t (h k (let lt = slice_get_within (atoms_of l.kind) k a e in let long = ap (λ (o : Option NetLeaf). length (readers.leaf_tells_of o)) at in omega arith)))
    where
      by_get : (xs : List Atom) → ((k : ℕ) (a : Atom) → slice_get xs k ≡ Some a → AtomWithin net.cells words a) → Each (AtomWithin net.cells words) xs
      by_get [] g = tt
      by_get (x ∷ xs) g = (g 0 x refl, by_get xs (λ k. g (suc k)))

  -- the level of a leaf is below p exactly where some told word is
  pub low-under : (p leaf : ℕ) (l : NetLeaf) → slice_get net.leaves leaf ≡ Some l → IsLow net p leaf → IsTrue (is_under p (least_stratum net.cells (atoms_of l.kind)))
  low-under p leaf l at low =
      let t = token-at leaf low.0 low.1 in
      let same : t.leaf_is ≡ l = let e : Some t.leaf_is ≡ Some l = sym t.there ∙ at in cc in
      let w = t.stratum in
      let small = low.2 in
      under-least net.cells p (atoms_of l.kind) low.0 t.atom (subst (λ (x : NetLeaf). slice_get (atoms_of x.kind) low.0 ≡ Some t.atom) same t.at) (omega arith)
