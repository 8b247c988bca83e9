-- What is read off a cell of a net: its kind, its name, and the words to which tokens are told.
use Rattle.std.proofs.Common.{◌≡◌, ℕ, ◌+◌, List, [], ◌++◌, sym, ap, ◌∙◌, subst, refl}
use Rattle.std.specs.Prelude.{ℤ, Option, Some, None, IsTrue, slice_get, option_map, MatchOption}
use Rattle.std.proofs.lemmas.List.{append_cancel_left}
use Rattle.std.proofs.lemmas.Option.{MatchOption-at_some, MatchOption-at_none}
use Rattle.token_system.specs.declared.cell.Cell.{Cell}
use Rattle.token_system.specs.declared.cell.Kind.{Kind}
use Rattle.token_system.specs.declared.cell.Kind.TheVariants.{Signal, Number}
use Rattle.token_system.specs.declared.cell.Token.{Token}
use Rattle.token_system.specs.declared.cell.Token.TheVariants.{On, AtLeast, AtMost}
use Rattle.token_system.specs.declared.name.CellName.{CellName}
use Rattle.token_system.specs.Tokens.{Fits, fits_kind}
use Rattle.agent_core.specs.Programs.{CoreProgram}
use Rattle.instant_net.specs.declared.parts.NetCell.{NetCell}
use Rattle.instant_net.specs.Words.{told_as, told_by_kind}
use Rattle.step_lines.specs.WordNames.{name_text, HasEnding, NamesWordOf}

module _ (cells : List NetCell) (k : ℕ) (cell : Cell) (read : option_map (λ (c : NetCell). c.cell) (slice_get cells k) ≡ Some cell) where
  -- the kind of the cell at this place
  pub kind_there : (c : NetCell) → slice_get cells k ≡ Some c → c.cell.kind ≡ cell.kind
  kind_there c at =
      let e : Some c.cell ≡ Some cell = ap (option_map (λ (x : NetCell). x.cell)) (sym at) ∙ read in
      let same : c.cell ≡ cell = cc in ap (λ (x : Cell). x.kind) same

  fits_at : (t : Token) → ((c : NetCell) → c.cell.kind ≡ cell.kind → Fits c.cell t) → (o : Option NetCell) → slice_get cells k ≡ o → (c : NetCell) × (slice_get cells k ≡ Some c) × Fits c.cell t
  fits_at t fits (Some c) at = (c, at, fits c (kind_there c at))
  fits_at t fits None at = absurd (let e : None ≡ Some cell = ap (option_map (λ (x : NetCell). x.cell)) (sym at) ∙ read in cc)

  -- and a token fits it that fits the cells of its kind
  pub fits_there : (t : Token) → ((c : NetCell) → c.cell.kind ≡ cell.kind → Fits c.cell t) → (c : NetCell) × (slice_get cells k ≡ Some c) × Fits c.cell t
  fits_there t fits = fits_at t fits (slice_get cells k) refl

-- a token fits the cells of its kind
pub kind_fits : (c : NetCell) (kind : Kind) (t : Token) → c.cell.kind ≡ kind → IsTrue (fits_kind kind t) → Fits c.cell t
kind_fits c kind t is fits = subst (λ (x : Kind). IsTrue (fits_kind x t)) (sym is) fits

-- the words of a signal and of a number
module _ (c : NetCell) where
  pub signal_word : c.cell.kind ≡ Signal → (told_as c On).word ≡ c.word
  signal_word e = ap (λ (k : Kind). (told_by_kind k c.first c.word On).word) e

  pub lower_word : (n : ℤ) → c.cell.kind ≡ Number → (told_as c (AtLeast n)).word ≡ c.word
  lower_word n e = ap (λ (k : Kind). (told_by_kind k c.first c.word (AtLeast n)).word) e

  pub upper_word : (n : ℤ) → c.cell.kind ≡ Number → (told_as c (AtMost n)).word ≡ c.word + 1
  upper_word n e = ap (λ (k : Kind). (told_by_kind k c.first c.word (AtMost n)).word) e

-- the name of a cell as it was written behind nothing
pub name_written : (p : CoreProgram) (cells : List NetCell) (k : ℕ) (name : CellName) (before written : List ℕ) → option_map (λ (c : NetCell). c.name) (slice_get cells k) ≡ Some name → before ≡ []
    → written ≡ before ++ name_text p name → (c : NetCell) → slice_get cells k ≡ Some c → written ≡ name_text p c.name
name_written p cells k name before written read none is c at =
    let e : Some c.name ≡ Some name = ap (option_map (λ (x : NetCell). x.name)) (sym at) ∙ read in
    let same : c.name ≡ name = cc in is ∙ ap (λ (b : List ℕ). b ++ name_text p name) none ∙ ap (name_text p) (sym same)

module _ (p : CoreProgram) (c : NetCell) (text name : List ℕ) (is : name ≡ name_text p c.name) where
  -- what stands behind the cell's name decides which of its words is named
  pub named_behind : (ending : List ℕ) (found : Option ℕ) → text ≡ name ++ ending → MatchOption found ((word : ℕ) → HasEnding c ending word → ⊥) (HasEnding c ending)
      → MatchOption found ((word : ℕ) → NamesWordOf p c text word → ⊥) (NamesWordOf p c text)
  named_behind ending (Some word) e h = (ending, e ∙ ap (λ (n : List ℕ). n ++ ending) is, h)
  named_behind ending None e h = λ word (other, f, has).
      h word (subst (λ (x : List ℕ). HasEnding c x word) (append_cancel_left (name_text p c.name) other ending (sym f ∙ e ∙ ap (λ (n : List ℕ). n ++ ending) is)) has)

  -- and none is where the name is not in front
  pub none_behind : ((rest : List ℕ) → text ≡ name ++ rest → ⊥) → (word : ℕ) → NamesWordOf p c text word → ⊥
  none_behind none word (ending, e, has) = none ending (e ∙ ap (λ (n : List ℕ). n ++ ending) (sym is))

-- where a token that is told to the word with an ending is found from the kind, the cell at a place has that word
module _ (cells : List NetCell) (k : ℕ) (cell : Cell) (read : option_map (λ (c : NetCell). c.cell) (slice_get cells k) ≡ Some cell) (ending : List ℕ) (found : Option Token)
    (says : (c : NetCell) → c.cell.kind ≡ cell.kind → MatchOption found ((word : ℕ) → HasEnding c ending word → ⊥) (λ t. Fits c.cell t × HasEnding c ending (told_as c t).word)) where
  pub token_fits : (t : Token) → found ≡ Some t → (c : NetCell) × (slice_get cells k ≡ Some c) × Fits c.cell t
  token_fits t is = fits_there cells k cell read t (λ c kind. (MatchOption-at_some ((word : ℕ) → HasEnding c ending word → ⊥) (λ t. Fits c.cell t × HasEnding c ending (told_as c t).word) t is (says c kind)).0)

  pub word_found : (t : Token) → found ≡ Some t → (c : NetCell) → slice_get cells k ≡ Some c → HasEnding c ending (told_as c t).word
  word_found t is c at =
      (MatchOption-at_some ((word : ℕ) → HasEnding c ending word → ⊥) (λ t. Fits c.cell t × HasEnding c ending (told_as c t).word) t is (says c (kind_there cells k cell read c at))).1

  pub no_word : found ≡ None → (c : NetCell) → slice_get cells k ≡ Some c → (word : ℕ) → HasEnding c ending word → ⊥
  no_word is c at = MatchOption-at_none ((word : ℕ) → HasEnding c ending word → ⊥) (λ t. Fits c.cell t × HasEnding c ending (told_as c t).word) is (says c (kind_there cells k cell read c at))
