-- What is proved of the words of a net.
use Rattle.std.specs.Prelude.{◌≡◌, ℕ, ◌<◌, ◌≤◌, List, IsTrue}
use Rattle.token_system.specs.Stores.{StoreMap}
use Rattle.agent_core.specs.Strata.{Each}
use Rattle.instant_net.specs.declared.parts.Atom.{Atom}
use Rattle.instant_net.specs.declared.parts.NetLeaf.{NetLeaf}
use Rattle.instant_net.specs.NamedLeaves.{named_entails, runs_named}
use Rattle.instant_net.specs.Nets.{Flat, named_atoms, named_leaf, AtomFits, atoms_of}
use Rattle.instant_net.specs.Opened.{IsNet}
use Rattle.instant_net.specs.Outputs.{IsNetStoreBelow, IsNetOutput, IsStratified}
use Rattle.instant_net.specs.PartLists.{parts, part_stratum}
use Rattle.instant_net.specs.Readers.{least_stratum}
use Rattle.instant_net.specs.WordParts.{part_at}
use Rattle.instant_net.specs.Words.{AreWords, signals, store_in}
use Rattle.net_laws.specs.Ways.{IsOnNetWay}
use Rattle.net_laws.specs.WordsBelow.{WordsBelow, AllWithin, is_under}
use Rattle.net_laws.specs.FinalWords.{AreFinal, RunsLeaf, final_words}

-- where words rise, so does their store
abbrev pub WordsRise : Type 0
WordsRise =
    (net : Flat) → IsNet net → (u w : List ℕ) → AreWords net.cells u → AreWords net.cells w → WordsBelow net.cells u w
    → IsNetStoreBelow net.cells (store_in net.cells u) (store_in net.cells w)

-- atoms that lie in words are entailed by their store
abbrev pub EntailedWithin : Type 0
EntailedWithin =
    (net : Flat) → IsNet net → (words : List ℕ) → AreWords net.cells words → (atoms : List Atom) → Each (AtomFits net.cells) atoms
    → AllWithin net.cells words atoms → IsTrue (named_entails (store_in net.cells words) (named_atoms net.cells atoms))

-- the output is the store of the final words
abbrev pub FinalWordsAreOutputs : Type 0
FinalWordsAreOutputs =
    (net : Flat) → IsNet net → IsStratified net → (input : List ℕ) → AreWords net.cells input → (v : StoreMap) → IsNetOutput net (store_in net.cells input) v
    → AreFinal net input (final_words net input v) × (store_in net.cells (final_words net input v) ≡ v)

-- the words have, in each part of the strata below p, what the final ones have
abbrev pub IsFinalUpto : Flat → List ℕ → ℕ → List ℕ → Type 0
IsFinalUpto net out p words =
    (q : ℕ) → q < parts net.cells → part_stratum net.cells q < p → part_at (signals net.cells) words q ≡ part_at (signals net.cells) out q

-- words between the input and the final ones, in which each leaf of level below p that they run has told
pub record IsRest (net : Flat) (input out : List ℕ) (p : ℕ) (noted : List ℕ) : Type 0 where
  pub words : AreWords net.cells noted
  pub above : WordsBelow net.cells input noted
  pub below : WordsBelow net.cells noted out
  pub told : (n : ℕ) (l : NetLeaf) → RunsLeaf net (store_in net.cells noted) n l → IsTrue (is_under p (least_stratum net.cells (atoms_of l.kind)))
      → AllWithin net.cells noted (atoms_of l.kind)

-- these words are the final ones in the strata below p, and run each leaf of level below p that the output runs
pub record IsDone (net : Flat) (out : List ℕ) (p : ℕ) (noted : List ℕ) : Type 0 where
  pub same : IsFinalUpto net out p noted
  pub runs : (n : ℕ) (l : NetLeaf) → RunsLeaf net (store_in net.cells out) n l → IsTrue (is_under p (least_stratum net.cells (atoms_of l.kind)))
      → IsTrue (runs_named (store_in net.cells noted) (named_leaf net l))

-- words at rest below p are done below p
abbrev pub StrataAtRest : Type 0
StrataAtRest =
    (net : Flat) → IsNet net → IsStratified net → (input out : List ℕ) → AreWords net.cells input → AreFinal net input out
    → (p : ℕ) → p ≤ net.strata → (noted : List ℕ) → IsRest net input out p noted → IsDone net out p noted

-- words between the input and the final ones that are final in the strata below k are on the way of settling
abbrev pub WordsOnWay : Type 0
WordsOnWay =
    (net : Flat) → IsNet net → (input out : List ℕ) → AreWords net.cells input → AreFinal net input out
    → (k : ℕ) (words : List ℕ) → AreWords net.cells words → WordsBelow net.cells input words → WordsBelow net.cells words out
    → IsFinalUpto net out k words → IsOnNetWay net (store_in net.cells input) (store_in net.cells out) k (store_in net.cells words)
