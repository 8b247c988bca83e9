-- The final words of a net on an input: the input's words, and in them the tokens of each leaf that the output runs. This project's own.
use Rattle.std.specs.Prelude.{◌≡◌, ℕ, ◌<◌, List, [], ◌∷◌, IsTrue, Some, slice_get, if◌then◌else◌}
use Rattle.token_system.specs.Stores.{StoreMap}
use Rattle.agent_core.specs.Strata.{Each}
use Rattle.instant_net.specs.declared.parts.Atom.{Atom}
use Rattle.instant_net.specs.declared.parts.NetCell.{NetCell}
use Rattle.instant_net.specs.declared.parts.NetLeaf.{NetLeaf}
use Rattle.instant_net.specs.NamedLeaves.{runs_named}
use Rattle.instant_net.specs.Nets.{Flat, named_leaf, atoms_of}
use Rattle.instant_net.specs.Outputs.{IsOutputWords}
use Rattle.instant_net.specs.PartLists.{parts, part_how}
use Rattle.instant_net.specs.WordParts.{word_of, part_of, part_at}
use Rattle.instant_net.specs.Words.{AreWords, Lies, signals, store_in, tell_atoms, told_of}
use Rattle.net_laws.specs.WordsBelow.{WordsBelow, AllWithin}

-- the words after each of these leaves that the store runs has told
abbrev pub tell_run : Flat → StoreMap → List NetLeaf → List ℕ → List ℕ
tell_run net v [] words = words
tell_run net v (l ∷ ls) words = tell_run net v ls (if runs_named v (named_leaf net l) then tell_atoms net.cells (atoms_of l.kind) words else words)

-- the final words on these words of the input, where v is the output
abbrev pub final_words : Flat → List ℕ → StoreMap → List ℕ
final_words net input v = tell_run net v net.leaves input

-- leaf n is this one, and the store runs it
pub record RunsLeaf (net : Flat) (v : StoreMap) (n : ℕ) (l : NetLeaf) : Type 0 where
  pub there : slice_get net.leaves n ≡ Some l
  pub run : IsTrue (runs_named v (named_leaf net l))

-- where the atom is told to the word of part q, what its bits have of the part lies in this content
abbrev pub PartTold : List NetCell → ℕ → ℕ → Atom → Type 0
PartTold cells q x a =
    (told_of cells a).word ≡ word_of (signals cells) q → Lies (told_of cells a).how (part_of (signals cells) q (told_of cells a).bits) x

-- these are the final words on the input: the words of its output, in which each leaf that it runs has told, and no part of them has more than that
pub record AreFinal (net : Flat) (input out : List ℕ) : Type 0 where
  pub words : AreWords net.cells out
  pub output : IsOutputWords net input out
  pub above : WordsBelow net.cells input out
  pub told : (n : ℕ) (l : NetLeaf) → RunsLeaf net (store_in net.cells out) n l → AllWithin net.cells out (atoms_of l.kind)
  pub least : (q x : ℕ) → q < parts net.cells → Lies (part_how net.cells q) (part_at (signals net.cells) input q) x
      → ((n : ℕ) (l : NetLeaf) → RunsLeaf net (store_in net.cells out) n l → Each (PartTold net.cells q x) (atoms_of l.kind))
      → Lies (part_how net.cells q) (part_at (signals net.cells) out q) x
