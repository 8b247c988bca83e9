-- The first line of bytes.
use Rattle.std.proofs.Common.{◌≡◌, ◌≢◌, ℕ, ◌≤◌, Bool, false, cond, List, [], ◌∷◌, ◌++◌, length, refl, sym, ap, ◌∙◌, subst, arith, inl, inr, append_assoc, length-append}
use Rattle.std.specs.Prelude.{◌==◌, Option, Some, None, Ok, Err}
use Rattle.std.specs.Io.KnownBytes.{Consumes}
use Rattle.std.proofs.lemmas.Bool.Decides.{eqb_tells}
use Rattle.std.proofs.lemmas.List.{append-nil}
use Rattle.std.proofs.lemmas.List.Elements.{All-head, All-tail}
use Rattle.tdcc_base.specs.Lines.{HasNoFeed, first_line, after_line, lines_of, onto_first, IsFirstLine, ReadsLine}
use Rattle.tdcc_base.specs.Unread.{AppendsLine}
use Rattle.tdcc_base.specs.declared.read_ahead.LineBreak.TheVariants as breaks
use Rattle.tdcc_base.specs.declared.stops.LineEnd.TheVariants as ends
use Rattle.tdcc_base.specs.declared.stops.ReadStop.{ReadStop}
use Rattle.tdcc_base.specs.declared.stops.ReadStop.TheVariants as stops

pub not_feed : (b : ℕ) → b ≢ 10 → (b == 10) ≡ false
not_feed b h = elim (eqb_tells b 10) [ inl p ↦ absurd (h p.1) | inr p ↦ p.0 ]

pub first_not_feed : (b : ℕ) (line : List ℕ) → HasNoFeed (b ∷ line) → (b == 10) ≡ false
first_not_feed b line f = not_feed b (All-head (λ x. x ≢ 10) b line f)

pub rest_no_feed : (b : ℕ) (line : List ℕ) → HasNoFeed (b ∷ line) → HasNoFeed line
rest_no_feed b line f = All-tail (λ x. x ≢ 10) b line f

pub first_line-append : (line rest : List ℕ) → HasNoFeed line → first_line (line ++ rest) ≡ line ++ first_line rest
first_line-append [] rest f = refl
first_line-append (x ∷ line) rest f =
    ap (λ b. cond b [] (x ∷ first_line (line ++ rest))) (first_not_feed x line f) ∙ ap (λ ys. x ∷ ys) (first_line-append line rest (rest_no_feed x line f))

pub after_line-append : (line rest : List ℕ) → HasNoFeed line → after_line (line ++ rest) ≡ after_line rest
after_line-append [] rest f = refl
after_line-append (x ∷ line) rest f =
    ap (λ b. cond b (line ++ rest) (after_line (line ++ rest))) (first_not_feed x line f) ∙ after_line-append line rest (rest_no_feed x line f)

pub first_line-feed : (line rest : List ℕ) → HasNoFeed line → first_line (line ++ 10 ∷ rest) ≡ line
first_line-feed line rest f = first_line-append line (10 ∷ rest) f ∙ append-nil line

pub first_line-last : (line : List ℕ) → HasNoFeed line → first_line line ≡ line
first_line-last line f = ap first_line (sym (append-nil line)) ∙ first_line-append line [] f ∙ append-nil line

pub after_line-last : (line : List ℕ) → HasNoFeed line → after_line line ≡ []
after_line-last line f = ap after_line (sym (append-nil line)) ∙ after_line-append line [] f

pub lines_of-feed : (line rest : List ℕ) → HasNoFeed line → lines_of (line ++ 10 ∷ rest) ≡ line ∷ lines_of rest
lines_of-feed [] rest f = refl
lines_of-feed (x ∷ line) rest f =
    ap (λ b. cond b ([] ∷ lines_of (line ++ 10 ∷ rest)) (onto_first x (lines_of (line ++ 10 ∷ rest)))) (first_not_feed x line f)
    ∙ ap (onto_first x) (lines_of-feed line rest (rest_no_feed x line f))

pub lines_of-last : (x : ℕ) (line : List ℕ) → HasNoFeed (x ∷ line) → lines_of (x ∷ line) ≡ (x ∷ line) ∷ []
lines_of-last x [] f = ap (λ b. cond b ([] ∷ []) ((x ∷ []) ∷ [])) (first_not_feed x [] f)
lines_of-last x (y ∷ line) f =
    ap (λ b. cond b ([] ∷ lines_of (y ∷ line)) (onto_first x (lines_of (y ∷ line)))) (first_not_feed x (y ∷ line) f)
    ∙ ap (onto_first x) (lines_of-last y line (rest_no_feed x (y ∷ line) f))

-- a line with its line feed stands at the front
pub IsFirstLine-feed : (bytes line rest : List ℕ) → HasNoFeed line → bytes ≡ line ++ 10 ∷ rest → IsFirstLine bytes line rest
IsFirstLine-feed bytes line rest f e = record {
  begins = (f, inl e);
  is_first = sym (ap first_line e ∙ first_line-feed line rest f);
  is_after = sym (ap after_line e ∙ after_line-append line (10 ∷ rest) f);
  lines = ap lines_of e ∙ lines_of-feed line rest f;
}

-- a line is all there is
pub IsFirstLine-last : (bytes line : List ℕ) → HasNoFeed line → line ≢ [] → bytes ≡ line → IsFirstLine bytes line []
IsFirstLine-last bytes [] f some e = absurd (some refl)
IsFirstLine-last bytes (x ∷ line) f some e = record {
  begins = (f, inr (e, some, refl));
  is_first = sym (ap first_line e ∙ first_line-last (x ∷ line) f);
  is_after = sym (ap after_line e ∙ after_line-last (x ∷ line) f);
  lines = ap lines_of e ∙ lines_of-last x line f;
}

-- WHAT A LINE THAT WAS TAKEN IS

pub line_at_feed : (old new : Option (List ℕ)) (after : List ℕ) (limit : ℕ) → AppendsLine old new [] after limit (Ok breaks.Feed) → length after ≤ limit → ReadsLine limit old new after (Ok ends.Line)
line_at_feed None new after limit a short = tt
line_at_feed (Some bytes) None after limit a short = absurd a.taken
line_at_feed (Some bytes) (Some rest) after limit a short =
    let line : HasNoFeed after = subst HasNoFeed (sym a.appended) a.no_feed in
    let whole : bytes ≡ after ++ 10 ∷ rest = subst (λ (xs : List ℕ). bytes ≡ xs ++ 10 ∷ rest) (sym a.appended) (a.taken ∙ append_assoc a.line (10 ∷ []) rest) in
    (rest, IsFirstLine-feed bytes after rest line whole, short, refl)

pub line_at_end : (old new : Option (List ℕ)) (after : List ℕ) (limit : ℕ) → AppendsLine old new [] after limit (Ok breaks.End) → after ≢ [] → length after ≤ limit → ReadsLine limit old new after (Ok ends.Line)
line_at_end None new after limit a some short = tt
line_at_end (Some bytes) None after limit a some short = absurd a.taken.0
line_at_end (Some bytes) (Some rest) after limit a some short =
    let line : HasNoFeed after = subst HasNoFeed (sym a.appended) a.no_feed in
    let whole : bytes ≡ after = a.taken.0 ∙ ap (λ ys. a.line ++ ys) a.taken.1 ∙ append-nil a.line ∙ sym a.appended in
    ([], IsFirstLine-last bytes after line some whole, short, ap Some a.taken.1)

pub none_at_end : (old new : Option (List ℕ)) (after : List ℕ) (limit : ℕ) → AppendsLine old new [] after limit (Ok breaks.End) → after ≡ [] → ReadsLine limit old new after (Ok ends.End)
none_at_end None new after limit a none = tt
none_at_end (Some bytes) None after limit a none = absurd a.taken.0
none_at_end (Some bytes) (Some rest) after limit a none =
    (a.taken.0 ∙ ap (λ ys. a.line ++ ys) a.taken.1 ∙ append-nil a.line ∙ sym a.appended ∙ none, ap Some a.taken.1)

pub line_stop : (old new : Option (List ℕ)) (after : List ℕ) (limit : ℕ) (stop : ReadStop) → AppendsLine old new [] after limit (Err stop) → ReadsLine limit old new after (Err stop)
line_stop None new after limit stop a = tt
line_stop (Some bytes) new after limit stops.Read a = (subst (Consumes (Some bytes) new) (sym a.appended) a.taken, subst HasNoFeed (sym a.appended) a.no_feed)
line_stop (Some bytes) None after limit stops.TooLong a = absurd a.taken.2
line_stop (Some bytes) (Some rest) after limit stops.TooLong a =
    let b : ℕ = a.taken.0 in
    let whole : bytes ≡ a.line ++ b ∷ rest = a.taken.2 ∙ append_assoc a.line (b ∷ []) rest in
    let first : first_line bytes ≡ a.line ++ b ∷ first_line rest =
    ap first_line whole ∙ first_line-append a.line (b ∷ rest) a.no_feed ∙ ap (λ (c : Bool). a.line ++ cond c [] (b ∷ first_line rest)) (not_feed b a.taken.1) in
    let size = length-append a.line (b ∷ first_line rest) in
    (omega (arith, ap length first, size, ap length a.appended, a.taken.3), (b ∷ [], omega arith, subst (λ (xs : List ℕ). bytes ≡ (xs ++ b ∷ []) ++ rest) (sym a.appended) a.taken.2))
