-- Names of program texts are names of core texts too; a hidden signal has a name of core texts alone, by its number.
use Rattle.std.proofs.Common.{◌≡◌, ℕ, ◌<◌, ◌≤◌, Bool, true, false, List, [], ◌∷◌, length, Option, Some, sym, ap, ◌∙◌, arith, decimal}
use Rattle.std.specs.Prelude.{◌&&◌, if◌then◌else◌, nat_le, slice_get}
use Rattle.std.specs.Option.{option_map_or}
use Rattle.std.proofs.lemmas.Fmt.{decimal_injective, length-decimal-le}
use Rattle.std.specs.List.{list_all}
use Rattle.program_lexemes.specs.declared.lexer.LexKind.{LexKind}
use Rattle.program_lexemes.specs.declared.lexer.LexKind.TheVariants as kind
use Rattle.program_lexemes.specs.declared.bytes.TextForm.TheVariants.{Program, Core}
use Rattle.program_lexemes.specs.Spellings.{is_symbol}
use Rattle.program_lexemes.specs.Forms.{kind_of, kind_if, word_kind, is_letter, is_digit, is_minus, is_dollar, is_word_byte, are_digits, are_few_digits}
use Rattle.program_lexemes.proofs.Printed.{decimal_digits}
use Rattle.agent_core.specs.declared.node.CellDecl.{CellDecl}
use Rattle.core_text.specs.CoreTexts.{name_at}
use Rattle.core_text.specs.GoodNames.{IsName, IsCoreName}

-- a number or a symbol is no name
no_number : (t : Bool) → kind_if t kind.Number ≡ Some kind.Name → ⊥
no_number true e = cc
no_number false e = cc

no_symbol : (t : Bool) → kind_if t kind.Symbol ≡ Some kind.Name → ⊥
no_symbol true e = cc
no_symbol false e = cc

-- a name without a dollar is a word
word_alone : (letter digit minus dollar numeral signed symbol : Bool) (w d : Option LexKind)
    → (if letter then w else (if digit then kind_if numeral kind.Number else (if minus then kind_if signed kind.Number else kind_if symbol kind.Symbol))) ≡ Some kind.Name
    → (if letter then w else (if digit then kind_if numeral kind.Number else (if minus then kind_if signed kind.Number else (if dollar then d else kind_if symbol kind.Symbol)))) ≡ Some kind.Name
word_alone true digit minus dollar numeral signed symbol w d e = e
word_alone false true minus dollar numeral signed symbol w d e = absurd (no_number numeral e)
word_alone false false true dollar numeral signed symbol w d e = absurd (no_number signed e)
word_alone false false false dollar numeral signed symbol w d e = absurd (no_symbol symbol e)

core_kind : (x : List ℕ) → kind_of Program x ≡ Some kind.Name → kind_of Core x ≡ Some kind.Name
core_kind [] e = e
core_kind (b ∷ bs) e =
    word_alone (is_letter b) (is_digit b) (is_minus b) (is_dollar Core b) (list_all is_digit bs) (are_digits bs) (is_symbol (b ∷ bs))
    (kind_if (list_all is_word_byte bs) (word_kind (b ∷ bs))) (kind_if (are_few_digits bs) kind.Name) e

-- A name of a program text is one of a core text.
pub core_name : (x : List ℕ) → IsName Program x → IsCoreName x
core_name x is = record { is = core_kind x is.is; short = is.short }

-- No name of a program text begins with a dollar.
pub no_dollar : (x ds : List ℕ) → IsName Program x → x ≡ 36 ∷ ds → ⊥
no_dollar x ds is e = no_symbol (is_symbol (36 ∷ ds)) (ap (kind_of Program) (sym e) ∙ is.is)

-- A dollar and a number of the size that cells have is a name of a core text.
pub hidden_name : (n : ℕ) → n < 1024 → IsCoreName (36 ∷ decimal n)
hidden_name n lt =
    let few : length (decimal n) ≤ 4 = length-decimal-le 4 n (omega arith) (omega arith) (omega arith) in
    let digits : are_digits (decimal n) ≡ true = decimal_digits n (omega arith) in
    let short : nat_le (length (decimal n)) 9 ≡ true = le_short (length (decimal n)) few in
    record {
      is = ap (λ (t : Bool). kind_if (t && nat_le (length (decimal n)) 9) kind.Name) digits ∙ ap (λ (t : Bool). kind_if t kind.Name) short;
      short = omega arith;
    }
  where
    le_short : (k : ℕ) → k ≤ 4 → nat_le k 9 ≡ true
    le_short k h = grind arith

-- Hidden signals with different numbers have different names.
pub hidden_apart : (m n : ℕ) → m < 1024 → n < 1024 → 36 ∷ decimal m ≡ 36 ∷ decimal n → m ≡ n
hidden_apart m n p q e = decimal_injective m n (omega arith) (omega arith) (cc)

-- the name of a cell, by where it stands
pub same_name : (xs ys : List CellDecl) (m n : ℕ) → slice_get xs m ≡ slice_get ys n → name_at xs m ≡ name_at ys n
same_name xs ys m n e = ap (λ (o : Option CellDecl). option_map_or (λ (d : CellDecl). d.name) o []) e

pub found_name : (xs : List CellDecl) (n : ℕ) (d : CellDecl) → slice_get xs n ≡ Some d → name_at xs n ≡ d.name
found_name xs n d e = same_name xs (d ∷ []) n 0 e
