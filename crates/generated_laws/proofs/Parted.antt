-- A generated program and its trace, with a mark between them, are split again into the text and the lines.
use Rattle.std.proofs.Common.{◌≡◌, ℕ, true, false, List, [], ◌∷◌, ◌++◌, refl, ap, ◌∙◌, append_assoc}
use Rattle.std.specs.Prelude.{All, codes, flat_map}
use Rattle.std.proofs.lemmas.List.{append-nil}
use Rattle.std.proofs.lemmas.List.Elements.{All-head, All-tail, All-weaker}
use Rattle.tdcc_base.specs.declared.stops.TextEnd.TheVariants.{Mark}
use Rattle.tdcc_base.specs.Lines.{HasNoFeed, lines_of}
use Rattle.tdcc_base.specs.Texts.{is_mark, Split, behind, split_from}
use Rattle.tdcc_base.proofs.FirstLines.{first_line-feed, lines_of-feed}
use Rattle.tdcc_base.proofs.Splits.{split_from-feed, split_from-mark}
use Rattle.trace_text.specs.Generated.{signals_text, program_text, trace_lines, trace_text, input_bytes}
use Rattle.trace_text.specs.Laws.{IsLine}
use Rattle.trace_text.proofs.GeneratedLines.{program_line, trace_line}
use Rattle.generated_laws.specs.GeneratedInputs.{IsParted}

no_mark : (n : ℕ) → is_mark (program_text n) ≡ false
unfolding program_text signals_text
no_mark n = refl

-- this text before a mark, and the trace of n behind it
abbrev parts_of : ℕ → List ℕ → Split
parts_of n text = record { text = text; trace = trace_text n; end = Mark }

split_is : (n : ℕ) → split_from true (input_bytes n) ≡ parts_of n (program_text n ++ 10 ∷ [])
split_is n =
    let text : List ℕ = program_text n in
    let marked : List ℕ = codes "%%\n" ++ trace_text n in
    let calm = (program_line n).no_feed in
    ap (split_from true) (append_assoc text (codes "\n%%\n") (trace_text n))
    ∙ split_from-feed text marked calm (ap is_mark (first_line-feed text marked calm) ∙ no_mark n)
    ∙ ap (behind (text ++ 10 ∷ [])) (split_from-mark marked refl)
    ∙ ap (parts_of n) (append-nil (text ++ 10 ∷ []))

-- lines that each have their line feed
fed_lines : (lines : List (List ℕ)) → All HasNoFeed lines → lines_of (flat_map (λ line. line ++ codes "\n") lines) ≡ lines
fed_lines [] h = refl
fed_lines (line ∷ lines) h =
    let rest : List ℕ = flat_map (λ l. l ++ codes "\n") lines in
    ap lines_of (append_assoc line (codes "\n") rest)
    ∙ lines_of-feed line rest (All-head HasNoFeed line lines h)
    ∙ ap (λ (ls : List (List ℕ)). line ∷ ls) (fed_lines lines (All-tail HasNoFeed line lines h))

trace_lined : (n : ℕ) → lines_of (trace_text n) ≡ trace_lines n
unfolding trace_text
trace_lined n = fed_lines (trace_lines n) (All-weaker (IsLine 11) HasNoFeed (λ line is. is.no_feed) (trace_lines n) (trace_line n))

-- The bytes are parted so.
pub parted : (n : ℕ) → IsParted n
parted n = record {
  text = ap (λ (s : Split). s.text) (split_is n);
  lines = ap (λ (s : Split). lines_of s.trace) (split_is n) ∙ trace_lined n;
}
