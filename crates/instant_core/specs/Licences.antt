-- What licenses a step, beside what its worker has in hand. This project's own.
use Rattle.std.specs.Prelude.{◌≡◌, ℕ, ◌<◌, true, List, IsTrue, is_some}
use mathlib.Core.Option.{some}
use lib.ListN.{get_elem?}
use Rattle.instant_net.specs.Deciding.{is_decided}
use Rattle.instant_net.specs.Nets.{Flat}
use Rattle.instant_net.specs.PartLists.{parts, part_stratum}
use Rattle.instant_net.specs.WordParts.{word_of}
use Rattle.instant_net.specs.Words.{signals}
use Rattle.instant_core.specs.Net.{Runs, IsLow}
use Rattle.instant_core.specs.declared.hand.Hand.TheVariants.{Empty}
use Rattle.instant_core.specs.Lists.{StandsIn}
use Rattle.instant_core.specs.Notes.{Notes, HasNote, noted, noted_words}
use Rattle.instant_core.specs.Views.{Knows}
use Rattle.instant_core.specs.Invariant.{said}

-- the word of part q is noted
abbrev pub IsNoted : Flat → Notes → ℕ → Type 0
IsNoted net m q = IsTrue (is_some (noted m.words (word_of (signals net.cells) q)))

-- a mark covers p: the words of all parts of strata below p are confirmed, and each leaf of a level below p that they run was claimed
pub record Covers (net : Flat) (p : ℕ) (m : Notes) : Type 0 where
  pub words : (q : ℕ) → q < parts net.cells → part_stratum net.cells q < p → IsNoted net m q
  pub leaves : (leaf : ℕ) → IsLow net p leaf → Runs net (noted_words net m) leaf → HasNote m.leaves leaf 1

-- what licenses an announcement
pub record MayAnnounce (net : Flat) (v : Knows) (leaf : ℕ) : Type 0 where
  pub live : v.live ≡ true
  pub empty : v.hand ≡ Empty
  pub decided : IsTrue (is_decided net v.seen leaf)
  pub new : said (v.number, leaf) v ≡ 0

-- a number that a new worker may have: no live view has it, no pair has it, and no view has it to hand on
pub record IsFreeNumber (views : List Knows) (n : ℕ) : Type 0 where
  pub small : n < 64
  pub no_number : (j : ℕ) (u : Knows) → get_elem? views j ≡ some u → u.live ≡ true → ¬ (u.number ≡ n)
  pub no_pair : (j : ℕ) (u : Knows) → get_elem? views j ≡ some u → (leaf : ℕ) → said (n, leaf) u ≡ 0
  pub no_spare : (j : ℕ) (u : Knows) → get_elem? views j ≡ some u → StandsIn n u.spare → ⊥
