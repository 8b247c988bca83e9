-- Cells of which no word is named, one after the other.
use Rattle.std.proofs.Common.{◌≡◌, ℕ, ◌+◌, ◌<◌, ◌≤◌, List, [], ◌∷◌, length, Some, None, refl, arith, below_more}
use Rattle.std.specs.Prelude.{zero, suc, slice_get, Option, MatchOption}
use Rattle.std.proofs.lemmas.Option.{slice_get_within, MatchOption-at_some, MatchOption-at_none}
use Rattle.agent_core.specs.Programs.{CoreProgram}
use Rattle.instant_net.specs.declared.parts.NetCell.{NetCell}
use Rattle.step_lines.specs.WordNames.{NamesWordOf, NamesWord}

-- the text names no word of the cell at this place
abbrev pub NamesNone : CoreProgram → List NetCell → List ℕ → ℕ → Type 0
NamesNone p cells text k = (c : NetCell) → slice_get cells k ≡ Some c → (word : ℕ) → NamesWordOf p c text word → ⊥

-- nor of a cell before it
abbrev pub NamesNoneBefore : CoreProgram → List NetCell → List ℕ → ℕ → Type 0
NamesNoneBefore p cells text n = (k : ℕ) → k < n → NamesNone p cells text k

module _ (p : CoreProgram) (cells : List NetCell) (text : List ℕ) where
  pub none_named_more : (n : ℕ) → NamesNoneBefore p cells text n → NamesNone p cells text n → NamesNoneBefore p cells text (n + 1)
  none_named_more n before here = below_more (NamesNone p cells text) n before here

  pub none_named : (n : ℕ) → length cells ≤ n → NamesNoneBefore p cells text n → (word : ℕ) → NamesWord p cells text word → ⊥
  none_named n all before word (k, c, at, names) = before k (let h = slice_get_within cells k c at in omega arith) c at word names

-- there is a cell at each place below the number of cells
there : (cells : List NetCell) (k : ℕ) → k < length cells → (c : NetCell) × (slice_get cells k ≡ Some c)
there [] k h = absurd (omega arith)
there (c ∷ cells) zero h = (c, refl)
there (c ∷ cells) (suc k) h = there cells k (omega arith)

module _ (p : CoreProgram) (cells : List NetCell) (text : List ℕ) (k : ℕ) (found : Option ℕ)
    (says : (c : NetCell) → slice_get cells k ≡ Some c → MatchOption found ((word : ℕ) → NamesWordOf p c text word → ⊥) (NamesWordOf p c text)) where
  -- a word of the cell at this place is named
  pub named_here : (word : ℕ) → k < length cells → found ≡ Some word → NamesWord p cells text word
  named_here word within is = let (c, at) = there cells k within in (k, c, at, MatchOption-at_some ((w : ℕ) → NamesWordOf p c text w → ⊥) (NamesWordOf p c text) word is (says c at))

  -- and none is
  pub not_named_here : found ≡ None → NamesNone p cells text k
  not_named_here is = λ c at. MatchOption-at_none ((w : ℕ) → NamesWordOf p c text w → ⊥) (NamesWordOf p c text) is (says c at)
