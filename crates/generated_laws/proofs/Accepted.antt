-- A generated text is a program text.
use Rattle.std.proofs.Common.{◌≡◌, ℕ, ◌<◌, ◌≤◌, List, [], ◌∷◌, ◌++◌, length, refl, sym, subst, append_assoc, length-append, codes, map, arith}
use Rattle.std.proofs.lemmas.List.{append-nil}
use Rattle.program_lexemes.specs.declared.bytes.TextForm.TheVariants as form
use Rattle.program_grammar.specs.Spelling.{agent, program}
use Rattle.agent_core.specs.Strata.{Each}
use Rattle.tdcc_reader.specs.declared.dialect.Dialect.TheVariants.{Program}
use Rattle.tdcc_reader.specs.LexemeTerms.{terms_of}
use Rattle.tdcc_reader.specs.Refusals.{Accepts}
use Rattle.tdcc_reader.specs.Texts.{ReadsAs}
use Rattle.trace_text.specs.Generated.{joined_by, signals_text, numbers_text, units, program_text}
use Rattle.trace_text.specs.Writing.{separated}
use Rattle.trace_text.proofs.GeneratedLines.{program_line}
use Rattle.core_text_laws.proofs.Written.{same_written, written_lexed}
use Rattle.core_text_laws.proofs.NoLater.{none_later}
use Rattle.generated_laws.specs.GeneratedUnits.{GeneratedUnit, generated_units}
use Rattle.generated_laws.specs.GeneratedSurfaces.{surface}
use Rattle.generated_laws.proofs.Parts.{IsPart, part_text, parts_are, parts_text}
use Rattle.generated_laws.proofs.PartPhrases.{agent_phrase, program_phrase, program_within}
use Rattle.generated_laws.proofs.PartWords.{Says, IsEnd, parts_say, program_says}
use Rattle.generated_laws.proofs.PartNames.{program_clean}
use Rattle.generated_laws.proofs.PartTrees.{surface_seen}

-- no program is without generated_units
some_say : (us : List GeneratedUnit) (space : List ℕ) → 0 < length us → Each IsPart us → IsEnd space [] → Says (joined_by (codes " || ") (map part_text us) ++ space) (agent (agent_phrase us) [])
some_say [] space some all end = absurd (omega arith)
some_say (u ∷ us) space some all end = same_written (append_assoc (part_text u) (separated (codes " || ") (map part_text us)) space) (parts_say u us space all.0 all.1 end)

pub parts_many : (n : ℕ) → length (generated_units n) ≡ 39
unfolding generated_units
parts_many n = refl

text_says : (n : ℕ) (space : List ℕ) → IsEnd space [] → Says (program_text n ++ space) (program (program_phrase (generated_units n)) [])
unfolding program_text
text_says n space end =
    let many = parts_many n in
    let body : Says (joined_by (codes " || ") (units n) ++ space) (agent (agent_phrase (generated_units n)) []) =
    subst (λ (texts : List (List ℕ)). Says (joined_by (codes " || ") texts ++ space) (agent (agent_phrase (generated_units n)) [])) (sym (parts_text n)) (some_say (generated_units n) space (omega arith) (parts_are n) end) in
    same_written (append_assoc (signals_text 32 ++ numbers_text 8) (joined_by (codes " || ") (units n)) space) (program_says (generated_units n) (joined_by (codes " || ") (units n) ++ space) body)

accepted : (n : ℕ) (space : List ℕ) → IsEnd space [] → length space ≤ 1 → Accepts Program (program_text n ++ space) (program_phrase (generated_units n))
accepted n space end few =
    let text : List ℕ = program_text n ++ space in
    let lexed = written_lexed form.Program text (program (program_phrase (generated_units n)) []) (text_says n space end) in
    let short = (program_line n).short in
    record {
      terms = terms_of text lexed.lexemes;
      has = record { lexemes = lexed.lexemes; lexed = record { within = omega (arith, length-append (program_text n) space); lexemes = lexed.lexed }; short = lexed.short; terms = refl };
      is = record { built = none_later (program_phrase (generated_units n)) (terms_of text lexed.lexemes) lexed.terms_are; spells = record { allowed = tt; spelled = lexed.terms_are } };
      within = program_within (generated_units n);
      named = program_clean (generated_units n) (parts_are n);
      declared = omega arith;
    }

-- the text of each number is accepted with such bytes behind it, and this is its surface
ended_read : (n : ℕ) (space : List ℕ) → IsEnd space [] → length space ≤ 1 → ReadsAs Program (program_text n ++ space) (surface n)
ended_read n space end few = (program_phrase (generated_units n), accepted n space end few, surface_seen n)

-- The text of each number is accepted, alone.
pub text_read : (n : ℕ) → ReadsAs Program (program_text n) (surface n)
text_read n =
    subst (λ (text : List ℕ). ReadsAs Program text (surface n)) (append-nil (program_text n))
    (ended_read n [] (record { white = refl; no_word = tt; no_digit = tt }) (omega arith))

-- So is the line that it is, with a line feed.
pub line_read : (n : ℕ) → ReadsAs Program (program_text n ++ 10 ∷ []) (surface n)
line_read n = ended_read n (10 ∷ []) (record { white = refl; no_word = refl; no_digit = refl }) (omega arith)
