-- How an input is split, line by line.
use Rattle.std.proofs.Common.{◌≡◌, ℕ, true, false, cond, List, [], ◌∷◌, ◌++◌, refl, sym, ap, ◌∙◌, subst, append_assoc}
use Rattle.std.specs.Prelude.{◌==◌}
use Rattle.std.proofs.lemmas.List.{append-nil}
use Rattle.tdcc_base.specs.Lines.{HasNoFeed, first_line, after_line}
use Rattle.tdcc_base.specs.Texts.{is_mark, Split, behind, split_from}
use Rattle.tdcc_base.specs.declared.stops.TextEnd.TheVariants as ends
use Rattle.tdcc_base.proofs.FirstLines.{first_not_feed, rest_no_feed, first_line-append}

-- where a line begins with a mark
abbrev pub at_mark : List ℕ → Split
at_mark bytes = record { text = []; trace = after_line bytes; end = ends.Mark }

pub behind-append : (xs ys : List ℕ) (s : Split) → behind xs (behind ys s) ≡ behind (xs ++ ys) s
behind-append xs ys s = ap (λ (t : List ℕ). with_text t) (sym (append_assoc xs ys s.text))
  where
    with_text : List ℕ → Split
    with_text t = record { text = t; trace = s.trace; end = s.end }

-- within a line the text goes on
split_from-within : (line rest : List ℕ) → HasNoFeed line → split_from false (line ++ rest) ≡ behind line (split_from false rest)
split_from-within [] rest f = refl
split_from-within (x ∷ line) rest f =
    ap (λ b. behind (x ∷ []) (split_from b (line ++ rest))) (first_not_feed x line f) ∙ ap (behind (x ∷ [])) (split_from-within line rest (rest_no_feed x line f))

-- a line that is no mark is text
pub split_from-line : (x : ℕ) (line rest : List ℕ) → HasNoFeed (x ∷ line) → is_mark (first_line (x ∷ line ++ rest)) ≡ false → split_from true (x ∷ line ++ rest) ≡ behind (x ∷ line) (split_from false rest)
split_from-line x line rest f m =
    ap (λ b. cond b (at_mark (x ∷ line ++ rest)) (behind (x ∷ []) (split_from (x == 10) (line ++ rest)))) m
    ∙ ap (λ b. behind (x ∷ []) (split_from b (line ++ rest))) (first_not_feed x line f)
    ∙ ap (behind (x ∷ [])) (split_from-within line rest (rest_no_feed x line f))

pub split_from-feed : (line rest : List ℕ) → HasNoFeed line → is_mark (first_line (line ++ 10 ∷ rest)) ≡ false → split_from true (line ++ 10 ∷ rest) ≡ behind (line ++ 10 ∷ []) (split_from true rest)
split_from-feed [] rest f m = refl
split_from-feed (x ∷ line) rest f m = split_from-line x line (10 ∷ rest) f m ∙ behind-append (x ∷ line) (10 ∷ []) (split_from true rest)

-- a mark ends the text
pub split_from-mark : (bytes : List ℕ) → is_mark (first_line bytes) ≡ true → split_from true bytes ≡ at_mark bytes
split_from-mark [] m = absurd (cc)
split_from-mark (b ∷ bytes) m = ap (λ c. cond c (at_mark (b ∷ bytes)) (behind (b ∷ []) (split_from (b == 10) bytes))) m

-- where all bytes are text
abbrev pub all_text : List ℕ → Split
all_text bytes = record { text = bytes; trace = []; end = ends.End }

-- a line that ends with the bytes
pub split_from-last : (line : List ℕ) → HasNoFeed line → is_mark line ≡ false → split_from true line ≡ all_text line
split_from-last [] f m = refl
split_from-last (x ∷ line) f m =
    let first : is_mark (first_line (x ∷ line ++ [])) ≡ false = subst (λ (xs : List ℕ). is_mark xs ≡ false) (sym (first_line-append (x ∷ line) [] f ∙ append-nil (x ∷ line))) m in
    ap (λ xs. split_from true (x ∷ xs)) (sym (append-nil line)) ∙ split_from-line x line [] f first ∙ ap all_text (append-nil (x ∷ line))
