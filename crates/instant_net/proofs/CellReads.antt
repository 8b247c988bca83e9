-- What is read of a cell's words: they are there, and their value is the cell's.
use Rattle.std.proofs.Common.{◌≡◌, ℕ, ◌+◌, ◌<◌, List, length, Some, sym, ap, ◌∙◌, subst, arith}
use Rattle.std.specs.Prelude.{slice_get, slice_index}
use Rattle.token_system.specs.declared.cell.Kind.TheVariants.{Signal, Number}
use Rattle.token_system.specs.declared.cell.Value.{Value}
use Rattle.token_system.specs.Values.{IsValueOf}
use Rattle.token_system.specs.Stores.{value_at}
use Rattle.instant_net.specs.declared.parts.NetCell.{NetCell}
use Rattle.instant_net.specs.Nets.{Flat}
use Rattle.instant_net.specs.Opened.{IsNet}
use Rattle.instant_net.specs.WordParts.{pair_of}
use Rattle.instant_net.specs.Words.{bits_value, kind_part, kind_value, number_value, value_in, store_in, AreWords}
use Rattle.instant_net.proofs.WordPlaces.{as_many}
use Rattle.instant_net.proofs.TokenTells.{word_there, second_there, value_of_cell, high_small}
use Rattle.instant_net.proofs.StoreLookups.{value_at-cell}

module _ (net : Flat) (is : IsNet net) (words : List ℕ) (are : AreWords net.cells words) (k : ℕ) (c : NetCell) (at : slice_get net.cells k ≡ Some c) where
  pub word_read : c.word < length words
  word_read = word_there net.cells is.of.cells.laid_out words are k c at

  pub second_read : c.cell.kind ≡ Number → c.word + 1 < length words
  second_read e = second_there net.cells is.of.cells.laid_out words are k c at e

  pub second_small : c.cell.kind ≡ Number → c.word + 1 < 4294967296
  second_small e =
      let f = second_read e in
      let l = are.long ∙ as_many net.cells in
      let s = is.small.words in
      omega arith

  pub upper_small : c.cell.kind ≡ Number → slice_index words (c.word + 1) < 4294967296
  upper_small e = high_small net.cells is.of.cells.laid_out words are k c at e

  pub signal_is : c.cell.kind ≡ Signal → value_in words c ≡ bits_value (pair_of c.first (slice_index words c.word))
  signal_is e =
      ap (λ x. kind_value x (λ i. kind_part x c.first (slice_index words (c.word + i))) 0) e
      ∙ ap (λ x. bits_value (pair_of c.first (slice_index words x))) (let t : c.word + 0 ≡ c.word = omega arith in t)

  pub number_is : c.cell.kind ≡ Number → value_in words c ≡ number_value (slice_index words c.word) (slice_index words (c.word + 1))
  number_is e =
      ap (λ x. kind_value x (λ i. kind_part x c.first (slice_index words (c.word + i))) 0) e
      ∙ ap (λ x. number_value (slice_index words x) (slice_index words (c.word + (0 + 1)))) (let t : c.word + 0 ≡ c.word = omega arith in t)
      ∙ ap (λ x. number_value (slice_index words c.word) (slice_index words x)) (let t : c.word + (0 + 1) ≡ c.word + 1 = omega arith in t)

-- what is said of a cell's value
pub record IsCellValue (cells : List NetCell) (words : List ℕ) (k : ℕ) (v : Value) : Type 0 where
  pub value : (c : NetCell) → slice_get cells k ≡ Some c → v ≡ value_in words c
  pub of_cell : (c : NetCell) → slice_get cells k ≡ Some c → IsValueOf c.cell v
  pub in_store : (c : NetCell) → slice_get cells k ≡ Some c → v ≡ value_at (store_in cells words) c.name c.cell

pub value_said : (net : Flat) → IsNet net → (words : List ℕ) → AreWords net.cells words → (k : ℕ) (found : NetCell) → slice_get net.cells k ≡ Some found → (v : Value) → v ≡ value_in words found → IsCellValue net.cells words k v
value_said net is words are k found e v same = record {
  value = value;
  of_cell = λ c f. subst (IsValueOf c.cell) (sym (value c f)) (value_of_cell net.cells is.of.cells.laid_out words are k c f);
  in_store = λ c f. value c f ∙ sym (value_at-cell net.cells words is.of.cells.order k c f);
}
  where
    value : (c : NetCell) → slice_get net.cells k ≡ Some c → v ≡ value_in words c
    value c f = let one : Some found ≡ Some c = sym e ∙ f in let cell : found ≡ c = cc in same ∙ ap (value_in words) cell
