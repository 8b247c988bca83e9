-- No line of an entry has a line feed within it: such a byte stands in no text that reads.
use Rattle.std.proofs.Common.{◌≡◌, ◌≢◌, ℕ, ◌<◌, ◌^◌, Bool, true, false, cond, List, [], ◌∷◌, ◌++◌, take, drop, Option, Some, None, inl, inr, refl, sym, ap, ◌∙◌, subst}
use Rattle.std.specs.Prelude.{All, IsTrue, codes, decimal, filter, flat_map, nat_le, length, ◌==◌}
use Rattle.std.specs.FinMap.{empty}
use Rattle.std.specs.List.{list_all, onto_first, slice_split}
use Rattle.std.specs.Str.Parse.{digits_value}
use Rattle.std.proofs.lemmas.List.{take-append-drop}
use Rattle.names_and_numbers.specs.Limits.{most_digits}
use Rattle.names_and_numbers.specs.Names.{is_digit, is_name, is_word_byte}
use Rattle.names_and_numbers.specs.Numbers.{are_digits, are_few_digits, digits_of, is_minus, natural_of_text, value_of_number}
use Rattle.token_system.specs.declared.cell.Token.{Token}
use Rattle.token_system.specs.declared.name.CellName.{CellName}
use Rattle.token_system.specs.declared.reading.Written.{Written}
use Rattle.token_system.specs.Stores.{StoreMap}
use Rattle.token_system.specs.Texts.{IsTail, alone, at_least, at_most, exactly, IsTokenText}
use Rattle.token_system.specs.Texts as texts
use Rattle.token_system.proofs.NameFronts.{name_bytes}
use Rattle.agent_core.specs.Programs.{CoreProgram}
use Rattle.agent_core.specs.Strata.{Each}
use Rattle.agent_core.proofs.Bools.{first_of_both, second_of_both}
use Rattle.agent_laws.proofs.Eachs.{Each-append, Each-map, all_each, each_all}
use Rattle.trace_text.specs.Fields.{Field, fields, is_blank, is_some}
use Rattle.certificate_text.specs.InLines.{in_line, GivesEntryInput, SaysTokens}
use Rattle.certificate_text.specs.Laws.{EntriesAreLines}
use Rattle.certificate_text.specs.LocalNames.{is_dot, local_name_of, naturals_of, number_before, numbered_name}
use Rattle.certificate_text.specs.LocalTokens.{name_end, IsLocalTokenText, off, clash, plain}
use Rattle.certificate_text.specs.OutLines.{out_line}
use Rattle.certificate_text.specs.OutReadings.{GivesOut, SaysOut, texts_in}
use Rattle.certificate_text.specs.RunLines.{run_text}
use Rattle.certificate_text.proofs.InputLaws as inputs
use Rattle.certificate_text.proofs.InputWalks.{all_say}
use Rattle.certificate_text.proofs.LineParts.{parts_are}
use Rattle.certificate_text.proofs.NameTexts.{decimal_avoids, digit_is_not}
use Rattle.certificate_text.proofs.OutBack as outs
use Rattle.certificate_text.proofs.OutWalks as walks

-- no byte is a line feed
abbrev pub NoFeed : List ℕ → Type 0
NoFeed bytes = Each (λ b. b ≢ 10) bytes

-- a byte that is another one
other : (b : ℕ) → b == 10 ≡ false → b ≢ 10
other b h e = let w : true ≡ false = sym (ap (λ c. c == 10) e) ∙ h in absurd (cc)

-- BYTES THAT PASS A TEST

module _ (test : ℕ → Bool) (none : test 10 ≡ false) where
  passes : (b : ℕ) → test b ≡ true → b ≢ 10
  passes b h e = let w : false ≡ true = sym none ∙ ap test (sym e) ∙ h in absurd (cc)

  all_pass : (bytes : List ℕ) → list_all test bytes ≡ true → NoFeed bytes
  all_pass [] h = tt
  all_pass (b ∷ bytes) h = (passes b (first_of_both (test b) (list_all test bytes) h), all_pass bytes (second_of_both (test b) (list_all test bytes) h))

  -- what stands between such bytes
  onto_feed : (x : ℕ) (parts : List (List ℕ)) → Each NoFeed (onto_first x parts) → (x ≢ 10) × Each NoFeed parts
  onto_feed x [] h = (h.0.0, tt)
  onto_feed x (part ∷ parts) h = (h.0.0, (h.0.1, h.1))

  split_feed : (xs : List ℕ) → Each NoFeed (slice_split test xs) → NoFeed xs
  split_feed [] h = tt
  split_feed (x ∷ xs) h = go (test x) refl h (split_feed xs)
    where
      go : (b : Bool) → test x ≡ b → Each NoFeed (cond b ([] ∷ slice_split test xs) (onto_first x (slice_split test xs))) → (Each NoFeed (slice_split test xs) → NoFeed xs) → NoFeed (x ∷ xs)
      go true e h later = (passes x e, later h.1)
      go false e h later = let first = onto_feed x (slice_split test xs) h in (first.0, later first.1)

-- NUMBERS AND NAMES

digits_feed : (ds : List ℕ) → are_digits ds ≡ true → NoFeed ds
digits_feed [] h = tt
digits_feed (d ∷ ds) h = all_pass is_digit refl (d ∷ ds) h

few_feed : (ds : List ℕ) → are_few_digits ds ≡ true → NoFeed ds
few_feed ds h = digits_feed ds (first_of_both (are_digits ds) (nat_le (length ds) most_digits) h)

natural_feed : (text : List ℕ) (n : ℕ) → natural_of_text text ≡ Some n → NoFeed text
natural_feed text n e = go (are_few_digits text) refl e
  where
    go : (b : Bool) → are_few_digits text ≡ b → cond b (Some (digits_value 10 text)) None ≡ Some n → NoFeed text
    go true t e = few_feed text t
    go false t e = absurd (cc)

signed_feed : (bytes : List ℕ) → are_few_digits (digits_of bytes) ≡ true → NoFeed bytes
signed_feed [] h = tt
signed_feed (b ∷ bytes) h = go (is_minus b) refl h
  where
    go : (t : Bool) → is_minus b ≡ t → are_few_digits (cond t bytes (b ∷ bytes)) ≡ true → NoFeed (b ∷ bytes)
    go true e h = (passes is_minus refl b e, few_feed bytes h)
    go false e h = few_feed (b ∷ bytes) h

module _ {Z : Type 0} (z : Z) where
  number_if : (text : List ℕ) (value : Z) → cond (are_few_digits (digits_of text)) (Some value) None ≡ Some z → NoFeed text
  number_if text value e = go (are_few_digits (digits_of text)) refl e
    where
      go : (b : Bool) → are_few_digits (digits_of text) ≡ b → cond b (Some value) None ≡ Some z → NoFeed text
      go true t e = signed_feed text t
      go false t e = absurd (cc)

tail_feed : (rest : List ℕ) (f : Token) (s : Option Token) → IsTail rest f s → NoFeed rest
tail_feed rest f s (alone e g h) = subst NoFeed (sym e) tt
tail_feed rest f s (at_least number k e n g h) = subst NoFeed (sym e) (other 62 refl, (other 61 refl, number_if k number (value_of_number number) n))
tail_feed rest f s (at_most number k e n g h) = subst NoFeed (sym e) (other 60 refl, (other 61 refl, number_if k number (value_of_number number) n))
tail_feed rest f s (exactly number k e n g h) = subst NoFeed (sym e) (other 61 refl, number_if k number (value_of_number number) n)

name_feed : (name : List ℕ) → IsTrue (is_name name) → NoFeed name
name_feed name h = all_pass is_word_byte refl name (name_bytes name h)

token_feed : (bytes : List ℕ) (w : Written) → IsTokenText bytes w → NoFeed bytes
token_feed bytes w (texts.off name e h is) = subst NoFeed (sym e) (other 33 refl, name_feed name h)
token_feed bytes w (texts.clash name e h is) = subst NoFeed (sym e) (other 35 refl, name_feed name h)
token_feed bytes w (texts.plain n) = subst NoFeed (sym n.parts) (Each-append (λ b. b ≢ 10) n.name n.rest (name_feed n.name n.is_a_name) (tail_feed n.rest w.first w.second n.tail))

naturals_feed : (all : List (List ℕ)) (ns : List ℕ) → naturals_of all ≡ Some ns → Each NoFeed all
naturals_feed [] ns e = tt
naturals_feed (text ∷ all) ns e = go (natural_of_text text) refl (naturals_of all) refl e (naturals_feed all)
  where
    go : (o : Option ℕ) → natural_of_text text ≡ o → (q : Option (List ℕ)) → naturals_of all ≡ q → number_before o q ≡ Some ns → ((ms : List ℕ) → naturals_of all ≡ Some ms → Each NoFeed all) → Each NoFeed (text ∷ all)
    go (Some n) f (Some ms) g e later = (natural_feed text n f, later ms g)
    go (Some n) f None g e later = absurd (cc)
    go None f (Some ms) g e later = absurd (cc)
    go None f None g e later = absurd (cc)

named_numbers : (o : Option (List ℕ)) (name : CellName) → numbered_name o ≡ Some name → (ns : List ℕ) × (o ≡ Some ns)
named_numbers None name e = absurd (cc)
named_numbers (Some ns) name e = (ns, refl)

local_name_feed : (text : List ℕ) (name : CellName) → local_name_of text ≡ Some name → NoFeed text
local_name_feed [] name e = tt
local_name_feed (b ∷ rest) name e = go (b == 64) refl e
  where
    go : (t : Bool) → b == 64 ≡ t → cond t (numbered_name (naturals_of (slice_split is_dot rest))) None ≡ Some name → NoFeed (b ∷ rest)
    go false h e = absurd (cc)
    go true h e =
        let numbers = named_numbers (naturals_of (slice_split is_dot rest)) name e in
        (passes (λ c. c == 64) refl b h, split_feed is_dot refl rest (naturals_feed (slice_split is_dot rest) numbers.0 numbers.1))

local_token_feed : (bytes : List ℕ) (name : CellName) (f : Token) (s : Option Token) → IsLocalTokenText bytes name f s → NoFeed bytes
local_token_feed bytes name f s (off text e a p q) = subst NoFeed (sym e) (other 33 refl, local_name_feed text name a)
local_token_feed bytes name f s (clash text e a p q) = subst NoFeed (sym e) (other 35 refl, local_name_feed text name a)
local_token_feed bytes name f s (plain a x) =
    subst NoFeed (take-append-drop (name_end bytes) bytes)
    (Each-append (λ b. b ≢ 10) (take (name_end bytes) bytes) (drop (name_end bytes) bytes) (local_name_feed (take (name_end bytes) bytes) name a) (tail_feed (drop (name_end bytes) bytes) f s x))

says_feed : (p : CoreProgram) (t : ℕ) (bytes : List ℕ) → SaysOut p t bytes → NoFeed bytes
says_feed p t bytes (inl (tokens, d)) = token_feed bytes d.written d.names.text
says_feed p t bytes (inr (name, c, first, second, said)) = local_token_feed bytes name first second said.text

-- LINES

filtered : (parts : List (List ℕ)) → Each NoFeed (filter is_some parts) → Each NoFeed parts
filtered [] h = tt
filtered ([] ∷ parts) h = (tt, filtered parts h)
filtered ((b ∷ part) ∷ parts) h = (h.0, filtered parts h.1)

texts_feed : (all : List Field) → Each (λ (f : Field). NoFeed f.bytes) all → Each NoFeed (texts_in all)
texts_feed [] h = tt
texts_feed (field ∷ all) h = (h.0, texts_feed all h.1)

-- a line whose fields are a word and texts that have none
line_feed : (line word : List ℕ) (first : Field) (behind : List Field) → fields line ≡ first ∷ (behind ++ []) → first.bytes ≡ word → NoFeed word → Each (λ (f : Field). NoFeed f.bytes) behind → NoFeed line
line_feed line word first behind parts is none each =
    let all : Each NoFeed (texts_in (fields line)) = texts_feed (fields line) (subst (Each (λ (f : Field). NoFeed f.bytes)) (sym parts) (subst NoFeed (sym is) none, Each-append (λ (f : Field). NoFeed f.bytes) behind [] each tt)) in
    split_feed is_blank refl line (filtered (slice_split is_blank line) (subst (Each NoFeed) (parts_are line) all))

input_feed : (p : CoreProgram) (line : List ℕ) (i : StoreMap) → GivesEntryInput p line i → NoFeed line
input_feed p line i g =
    line_feed line (codes "in") g.told.word g.told.behind g.told.parts g.told.is_word (other 105 refl, (other 110 refl, tt))
    (Each-map (λ (f : Field). SaysTokens p f.bytes) (λ (f : Field). NoFeed f.bytes) (λ f says. says_feed p 0 f.bytes (inl says)) g.told.behind (all_say p g.told.behind g.told.told.tokens g.told.told.said))

out_feed : (p : CoreProgram) (t : ℕ) (line : List ℕ) (v : StoreMap) → GivesOut p t line v → NoFeed line
out_feed p t line v g =
    line_feed line (codes "out") g.told.word g.told.behind g.told.parts g.told.is_word (other 111 refl, (other 117 refl, (other 116 refl, tt)))
    (Each-map (λ (f : Field). SaysOut p t f.bytes) (λ (f : Field). NoFeed f.bytes) (λ f says. says_feed p t f.bytes says) g.told.behind (walks.all_say p t g.told.behind empty v g.told.told))

numbers_feed : (ns : List ℕ) → Each (λ n. n < 10 ^ 9) ns → NoFeed (flat_map (λ n. codes " " ++ decimal n) ns)
numbers_feed [] small = tt
numbers_feed (n ∷ ns) small = (
  other 32 refl,
  Each-append (λ b. b ≢ 10) (decimal n) (flat_map (λ n. codes " " ++ decimal n) ns)
      (Each-map (λ b. b == 10 ≡ false) (λ b. b ≢ 10) (λ b h. other b h) (decimal n) (decimal_avoids (λ b. b == 10) (λ b digit. digit_is_not b 10 refl digit) n small.0))
      (numbers_feed ns small.1),
)

run_feed : (ns : List ℕ) → All (λ n. n < 10 ^ 9) ns → NoFeed (run_text ns)
run_feed ns small = (other 114 refl, (other 117 refl, (other 110 refl, numbers_feed ns (all_each (λ n. n < 10 ^ 9) ns small))))

pub are_lines : EntriesAreLines
are_lines p t e program names soon input at small short = (
  record { no_feed = each_all (λ b. b ≢ 10) (in_line p e.input) (input_feed p (in_line p e.input) e.input (inputs.reads_back p e.input program names input)); short = short.0 },
  (
    record { no_feed = each_all (λ b. b ≢ 10) (out_line p e.out) (out_feed p t (out_line p e.out) e.out (outs.reads_back p t e.out program names soon at short.1.0)); short = short.1.0 },
    (record { no_feed = each_all (λ b. b ≢ 10) (run_text e.run) (run_feed e.run small); short = short.1.1.0 }, tt),
  ),
)
