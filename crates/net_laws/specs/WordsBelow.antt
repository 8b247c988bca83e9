-- Words below words, word by word, and what lies in them. This project's own.
use Rattle.std.specs.Prelude.{ℕ, ◌<◌, Bool, false, List, length, slice_index, slice_index_or, Option, None, Some, nat_lt}
use Rattle.agent_core.specs.Strata.{Each}
use Rattle.instant_net.specs.declared.parts.Atom.{Atom}
use Rattle.instant_net.specs.declared.parts.NetCell.{NetCell}
use Rattle.instant_net.specs.declared.words.How.{How}
use Rattle.instant_net.specs.declared.words.How.TheVariants.{Or}
use Rattle.instant_net.specs.Words.{Lies, hows, told_of}

-- how word k is told
abbrev pub how_at : List NetCell → ℕ → How
how_at cells k = slice_index_or (hows cells) k Or

-- word by word, u lies at or below w
abbrev pub WordsBelow : List NetCell → List ℕ → List ℕ → Type 0
WordsBelow cells u w = (k : ℕ) → k < length (hows cells) → Lies (how_at cells k) (slice_index u k) (slice_index w k)

-- the bits of the atom lie in its word
abbrev pub AtomWithin : List NetCell → List ℕ → Atom → Type 0
AtomWithin cells words a = Lies (told_of cells a).how (told_of cells a).bits (slice_index words (told_of cells a).word)

-- and so for each of the atoms
abbrev pub AllWithin : List NetCell → List ℕ → List Atom → Type 0
AllWithin cells words atoms = Each (AtomWithin cells words) atoms

-- there is a level, and it is below p
abbrev pub is_under : ℕ → Option ℕ → Bool
is_under p None = false
is_under p (Some level) = nat_lt level p
