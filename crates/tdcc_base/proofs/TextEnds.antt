-- How the reading of a text goes on and ends.
use Rattle.std.proofs.Common.{◌≡◌, ◌≢◌, ℕ, ◌+◌, ◌<◌, ◌≤◌, Bool, true, false, List, [], ◌∷◌, ◌++◌, All, length, take, drop, refl, sym, ap, ◌∙◌, subst, arith, inl, inr, ◌⊎◌, append_assoc, length-append}
use Rattle.std.specs.Prelude.{Option, Some, None, Ok, Err}
use Rattle.std.specs.Io.KnownBytes.{Consumes, IsAtEnd}
use Rattle.std.proofs.lemmas.List.{append-nil, drop_at, take_at}
use Rattle.std.proofs.lemmas.List.Elements.{All-append, All-cons, All-nil}
use Rattle.tdcc_base.specs.Limits.{longest_text, room_for_text}
use Rattle.tdcc_base.specs.Lines.{HasNoFeed, first_line, after_line, lines_of}
use Rattle.tdcc_base.specs.Texts.{is_mark, HasNoMark, AreWholeLines, Split, behind, split_from, program_text_of, trace_of, ReadsText, IsTextRead}
use Rattle.tdcc_base.specs.Unread.{AppendsLine}
use Rattle.tdcc_base.specs.declared.read_ahead.LineBreak.{LineBreak}
use Rattle.tdcc_base.specs.declared.read_ahead.LineBreak.TheVariants as breaks
use Rattle.tdcc_base.specs.declared.stops.TextEnd.TheVariants as ends
use Rattle.tdcc_base.specs.declared.stops.ReadStop.{ReadStop}
use Rattle.tdcc_base.specs.declared.stops.ReadStop.TheVariants as stops
use Rattle.tdcc_base.proofs.Known.{Consumes-then}
use Rattle.tdcc_base.proofs.FirstLines.{first_line-append, first_line-feed, first_line-last, after_line-append, after_line-last, lines_of-feed, lines_of-last}
use Rattle.tdcc_base.proofs.Splits.{at_mark, all_text, split_from-line, split_from-feed, split_from-mark, split_from-last}
use Rattle.tdcc_base.proofs.WholeLines.{whole_of, lines_of-whole, split_from-whole}

-- the text so far: whole lines of which none is a mark
pub record IsTextFront (done : List ℕ) : Type 0 where
  pub whole : AreWholeLines done
  pub no_mark : HasNoMark done

pub IsTextFront-start : IsTextFront []
IsTextFront-start = record { whole = inl refl; no_mark = All-nil (λ line. is_mark line ≡ false) }

pub IsTextFront-line : (done line : List ℕ) → IsTextFront done → HasNoFeed line → is_mark line ≡ false → IsTextFront (done ++ line ++ 10 ∷ [])
IsTextFront-line done line f feed m = record {
  whole = inr (done ++ line, refl);
  no_mark = subst (All (λ l. is_mark l ≡ false)) (sym lines) (All-append (λ l. is_mark l ≡ false) (lines_of done) (line ∷ []) f.no_mark (All-cons (λ l. is_mark l ≡ false) line [] m (All-nil (λ l. is_mark l ≡ false))));
}
  where
    lines : lines_of (done ++ line ++ 10 ∷ []) ≡ lines_of done ++ line ∷ []
    lines = ap lines_of (append_assoc done line (10 ∷ [])) ∙ lines_of-whole done (line ++ 10 ∷ []) (whole_of done f.whole) ∙ ap (λ ys. lines_of done ++ ys) (lines_of-feed line [] feed)

-- THE WAYS IN WHICH A TEXT ENDS

long_no_mark : (line : List ℕ) → 3 < length line → is_mark line ≡ false
long_no_mark [] h = refl
long_no_mark (a ∷ []) h = refl
long_no_mark (a ∷ b ∷ []) h = absurd (omega arith)
long_no_mark (a ∷ b ∷ c ∷ []) h = absurd (omega arith)
long_no_mark (a ∷ b ∷ c ∷ d ∷ line) h = refl

no_mark_last : (line : List ℕ) → HasNoFeed line → is_mark line ≡ false → HasNoMark line
no_mark_last [] f m = All-nil (λ l. is_mark l ≡ false)
no_mark_last (x ∷ line) f m = subst (All (λ l. is_mark l ≡ false)) (sym (lines_of-last x line f)) (All-cons (λ l. is_mark l ≡ false) (x ∷ line) [] m (All-nil (λ l. is_mark l ≡ false)))

-- a line that is longer than a mark is in the text
text_begins : (line rest : List ℕ) → HasNoFeed line → 3 < length line → length line ≤ length (program_text_of (line ++ rest))
text_begins [] rest f long = omega arith
text_begins (x ∷ line) rest f long =
    let first : first_line (x ∷ line ++ rest) ≡ (x ∷ line) ++ first_line rest = first_line-append (x ∷ line) rest f in
    let far : 3 < length ((x ∷ line) ++ first_line rest) = omega (arith, length-append (x ∷ line) (first_line rest)) in
    let no : is_mark (first_line (x ∷ line ++ rest)) ≡ false = rw first (long_no_mark ((x ∷ line) ++ first_line rest) far) in
    let is : program_text_of (x ∷ line ++ rest) ≡ (x ∷ line) ++ text_of_line rest = ap (λ (s : Split). s.text) (split_from-line x line rest f no) in
    omega (arith, ap length is, length-append (x ∷ line) (text_of_line rest))
  where
    text_of_line : List ℕ → List ℕ
    text_of_line bytes = (split_from false bytes).text

module _ (done : List ℕ) (front : IsTextFront done) where
  pub IsTextRead-mark : (bytes tail line rest : List ℕ) → bytes ≡ done ++ tail → first_line tail ≡ line → after_line tail ≡ rest → is_mark line ≡ true
      → (bytes ≡ done ++ line ++ 10 ∷ rest) ⊎ ((bytes ≡ done ++ line) × (rest ≡ [])) → length done ≤ longest_text → IsTextRead bytes (Some rest) done ends.Mark
  IsTextRead-mark bytes tail line rest whole first after m parts few =
      let s : split_from true bytes ≡ behind done (at_mark tail) =
      ap (split_from true) whole ∙ split_from-whole done tail front.whole front.no_mark ∙ ap (behind done) (split_from-mark tail (subst (λ (xs : List ℕ). is_mark xs ≡ true) (sym first) m)) in
      let trace : trace_of bytes ≡ rest = ap (λ (x : Split). x.trace) s ∙ after in
      record {
        splits = record {
          mark = line;
          is_mark = m;
          whole = front.whole;
          no_mark = front.no_mark;
          split = subst (λ (t : List ℕ). (bytes ≡ done ++ line ++ 10 ∷ t) ⊎ ((bytes ≡ done ++ line) × (t ≡ []))) (sym trace) parts;
        };
        is_text = sym (ap (λ (x : Split). x.text) s ∙ append-nil done);
        trace = ap Some (sym trace);
        is_end = sym (ap (λ (x : Split). x.end) s);
        short = few;
      }

  pub IsTextRead-end : (bytes line : List ℕ) → bytes ≡ done ++ line → HasNoFeed line → is_mark line ≡ false → length (done ++ line) ≤ longest_text → IsTextRead bytes (Some []) (done ++ line) ends.End
  IsTextRead-end bytes line whole f m few =
      let s : split_from true bytes ≡ behind done (all_text line) = ap (split_from true) whole ∙ split_from-whole done line front.whole front.no_mark ∙ ap (behind done) (split_from-last line f m) in
      let trace : trace_of bytes ≡ [] = ap (λ (x : Split). x.trace) s in
      let lines : lines_of bytes ≡ lines_of done ++ lines_of line = ap lines_of whole ∙ lines_of-whole done line (whole_of done front.whole) in
      record {
        splits = (sym whole, trace, subst (All (λ l. is_mark l ≡ false)) (sym lines) (All-append (λ l. is_mark l ≡ false) (lines_of done) (lines_of line) front.no_mark (no_mark_last line f m)));
        is_text = sym (ap (λ (x : Split). x.text) s);
        trace = ap Some (sym trace);
        is_end = sym (ap (λ (x : Split). x.end) s);
        short = few;
      }

  long_at_end : (bytes line : List ℕ) → bytes ≡ done ++ line → HasNoFeed line → is_mark line ≡ false → longest_text < length (done ++ line) → longest_text < length (program_text_of bytes)
  long_at_end bytes line whole f m long =
      let is : program_text_of bytes ≡ done ++ line = ap (λ (x : Split). x.text) (ap (split_from true) whole ∙ split_from-whole done line front.whole front.no_mark ∙ ap (behind done) (split_from-last line f m)) in
      rw is long

  long_at_feed : (bytes line rest : List ℕ) → bytes ≡ done ++ (line ++ 10 ∷ rest) → HasNoFeed line → is_mark line ≡ false → longest_text ≤ length (done ++ line) → longest_text < length (program_text_of bytes)
  long_at_feed bytes line rest whole f m long =
      let no : is_mark (first_line (line ++ 10 ∷ rest)) ≡ false = subst (λ (xs : List ℕ). is_mark xs ≡ false) (sym (first_line-feed line rest f)) m in
      let is : program_text_of bytes ≡ done ++ ((line ++ 10 ∷ []) ++ program_text_of rest) = ap (λ (x : Split). x.text) (ap (split_from true) whole ∙ split_from-whole done (line ++ 10 ∷ rest) front.whole front.no_mark ∙ ap (behind done) (split_from-feed line rest f no)) in
      omega (arith, ap length is, length-append done ((line ++ 10 ∷ []) ++ program_text_of rest), length-append (line ++ 10 ∷ []) (program_text_of rest), length-append line (10 ∷ []), length-append done line)

  long_at_byte : (bytes line rest : List ℕ) → bytes ≡ done ++ (line ++ rest) → HasNoFeed line → 3 < length line → longest_text < length (done ++ line) → longest_text < length (program_text_of bytes)
  long_at_byte bytes line rest whole f far long =
      let is : program_text_of bytes ≡ done ++ program_text_of (line ++ rest) = ap (λ (x : Split). x.text) (ap (split_from true) whole ∙ split_from-whole done (line ++ rest) front.whole front.no_mark) in
      omega (arith, ap length is, length-append done (program_text_of (line ++ rest)), text_begins line rest f far, length-append done line)

-- whether the line is a mark, as the text tells it
pub seen_mark : (start : ℕ) (done after seen : List ℕ) (b : Bool) → b ≡ is_mark (drop start seen) → start ≡ length done → seen ≡ after → is_mark (drop (length done) after) ≡ b
seen_mark start done after seen b e f h = sym (e ∙ ap (λ (k : ℕ). is_mark (drop k seen)) f ∙ ap (λ (xs : List ℕ). is_mark (drop (length done) xs)) h)

-- the text that is cut where the line began
pub cut_text : (start : ℕ) (done line after cut : List ℕ) → cut ≡ take start after → after ≡ done ++ line → start ≡ length done → cut ≡ done
cut_text start done line after cut e f h = e ∙ ap (take start) f ∙ take_at done line start (sym h)

-- a line feed counts as a byte of the text
abbrev pub feed_of : LineBreak → ℕ
feed_of breaks.Feed = 1
feed_of breaks.End = 0

-- the line that was taken stands behind the text so far
tail_of : (done line after : List ℕ) → after ≡ done ++ line → drop (length done) after ≡ line
tail_of done line after e = ap (drop (length done)) e ∙ drop_at done line (length done) refl

module _ (old mid new : Option (List ℕ)) (done after : List ℕ) (front : IsTextFront done) (taken : Consumes old mid done) where
  pub text_at_mark : (brk : LineBreak) (limit : ℕ) → AppendsLine mid new done after limit (Ok brk) → is_mark (drop (length done) after) ≡ true → length done ≤ longest_text → ReadsText old new done (Ok ends.Mark)
  text_at_mark breaks.Feed limit a m few = at_feed old new (Consumes-then old mid new done (a.line ++ 10 ∷ []) taken a.taken)
    where
      mark : is_mark a.line ≡ true
      mark = subst (λ (xs : List ℕ). is_mark xs ≡ true) (tail_of done a.line after a.appended) m

      at_feed : (old new : Option (List ℕ)) → Consumes old new (done ++ (a.line ++ 10 ∷ [])) → ReadsText old new done (Ok ends.Mark)
      at_feed None new c = tt
      at_feed (Some bytes) None c = absurd c
      at_feed (Some bytes) (Some rest) c =
          let whole : bytes ≡ done ++ (a.line ++ 10 ∷ rest) = c ∙ simp append_assoc in
          IsTextRead-mark done front bytes (a.line ++ 10 ∷ rest) a.line rest whole (first_line-feed a.line rest a.no_feed) (after_line-append a.line (10 ∷ rest) a.no_feed) mark
          (inl (whole ∙ sym (append_assoc done a.line (10 ∷ rest)))) few
  text_at_mark breaks.End limit a m few = at_end old new (Consumes-then old mid new done a.line taken a.taken.0) a.taken.1
    where
      mark : is_mark a.line ≡ true
      mark = subst (λ (xs : List ℕ). is_mark xs ≡ true) (tail_of done a.line after a.appended) m

      at_end : (old new : Option (List ℕ)) → Consumes old new (done ++ a.line) → IsAtEnd new → ReadsText old new done (Ok ends.Mark)
      at_end None new c e = tt
      at_end (Some bytes) None c e = absurd c
      at_end (Some bytes) (Some rest) c e =
          let whole : bytes ≡ done ++ a.line = c ∙ ap (λ ys. (done ++ a.line) ++ ys) e ∙ append-nil (done ++ a.line) in
          subst (λ (xs : List ℕ). IsTextRead bytes (Some xs) done ends.Mark) (sym e)
          (IsTextRead-mark done front bytes a.line a.line [] whole (first_line-last a.line a.no_feed) (after_line-last a.line a.no_feed) mark (inr (whole, refl)) few)

  no_mark : (brk : LineBreak) (limit : ℕ) (a : AppendsLine mid new done after limit (Ok brk)) → is_mark (drop (length done) after) ≡ false → is_mark a.line ≡ false
  no_mark brk limit a m = subst (λ (xs : List ℕ). is_mark xs ≡ false) (tail_of done a.line after a.appended) m

  pub text_at_end : (limit : ℕ) → AppendsLine mid new done after limit (Ok breaks.End) → is_mark (drop (length done) after) ≡ false → length after ≤ longest_text → ReadsText old new after (Ok ends.End)
  text_at_end limit a m few = at_end old new (Consumes-then old mid new done a.line taken a.taken.0) a.taken.1
    where
      at_end : (old new : Option (List ℕ)) → Consumes old new (done ++ a.line) → IsAtEnd new → ReadsText old new after (Ok ends.End)
      at_end None new c e = tt
      at_end (Some bytes) None c e = absurd c
      at_end (Some bytes) (Some rest) c e =
          let whole : bytes ≡ done ++ a.line = c ∙ ap (λ ys. (done ++ a.line) ++ ys) e ∙ append-nil (done ++ a.line) in
          let short : length (done ++ a.line) ≤ longest_text = subst (λ (xs : List ℕ). length xs ≤ longest_text) a.appended few in
          subst (λ (xs : List ℕ). IsTextRead bytes (Some xs) after ends.End) (sym e)
          (subst (λ (xs : List ℕ). IsTextRead bytes (Some []) xs ends.End) (sym a.appended) (IsTextRead-end done front bytes a.line whole a.no_feed (no_mark breaks.End limit a m) short))

  pub text_too_long : (brk : LineBreak) (limit : ℕ) → AppendsLine mid new done after limit (Ok brk) → is_mark (drop (length done) after) ≡ false → longest_text < length after + feed_of brk → ReadsText old new after (Err stops.TooLong)
  text_too_long breaks.Feed limit a m long = at_feed old new (Consumes-then old mid new done (a.line ++ 10 ∷ []) taken a.taken)
    where
      at_feed : (old new : Option (List ℕ)) → Consumes old new (done ++ (a.line ++ 10 ∷ [])) → ReadsText old new after (Err stops.TooLong)
      at_feed None new c = tt
      at_feed (Some bytes) None c = absurd c
      at_feed (Some bytes) (Some rest) c = (
        long_at_feed done front bytes a.line rest (c ∙ simp append_assoc) a.no_feed (no_mark breaks.Feed limit a m) (omega (arith, ap length a.appended, long)),
        (10 ∷ [], omega arith, subst (λ (xs : List ℕ). bytes ≡ (xs ++ 10 ∷ []) ++ rest) (sym a.appended) (c ∙ simp append_assoc)),
      )
  text_too_long breaks.End limit a m long = at_end old new (Consumes-then old mid new done a.line taken a.taken.0) a.taken.1
    where
      at_end : (old new : Option (List ℕ)) → Consumes old new (done ++ a.line) → IsAtEnd new → ReadsText old new after (Err stops.TooLong)
      at_end None new c e = tt
      at_end (Some bytes) None c e = absurd c
      at_end (Some bytes) (Some rest) c e =
          let whole : bytes ≡ done ++ a.line = c ∙ ap (λ ys. (done ++ a.line) ++ ys) e ∙ append-nil (done ++ a.line) in (
            long_at_end done front bytes a.line whole a.no_feed (no_mark breaks.End limit a m) (omega (arith, ap length a.appended, long)),
            ([], omega arith, subst (λ (xs : List ℕ). bytes ≡ (xs ++ []) ++ rest) (sym a.appended) (c ∙ ap (λ xs. xs ++ rest) (sym (append-nil (done ++ a.line))))),
          )

  pub text_stop : (stop : ReadStop) → AppendsLine mid new done after room_for_text (Err stop) → length done ≤ longest_text → length after ≤ room_for_text → ReadsText old new after (Err stop)
  text_stop stops.Read a few fits = at_fault old new (Consumes-then old mid new done a.line taken a.taken)
    where
      at_fault : (old new : Option (List ℕ)) → Consumes old new (done ++ a.line) → ReadsText old new after (Err stops.Read)
      at_fault None new c = tt
      at_fault (Some bytes) new c = (
        subst (Consumes (Some bytes) new) (sym a.appended) c,
        record { lines = done; part = a.line; split = a.appended; whole = front.whole; no_mark = front.no_mark; no_feed = a.no_feed; fits = fits },
      )
  text_stop stops.TooLong a few fits = at_byte old new (Consumes-then old mid new done (a.line ++ a.taken.0 ∷ []) taken a.taken.2)
    where
      longer : List ℕ
      longer = a.line ++ a.taken.0 ∷ []

      no_feed : HasNoFeed longer
      no_feed = All-append (λ b. b ≢ 10) a.line (a.taken.0 ∷ []) a.no_feed (All-cons (λ b. b ≢ 10) a.taken.0 [] a.taken.1 (All-nil (λ b. b ≢ 10)))

      size : length longer ≡ length a.line + 1
      size = length-append a.line (a.taken.0 ∷ [])

      full : length done + length a.line ≡ room_for_text
      full = sym (length-append done a.line) ∙ sym (ap length a.appended) ∙ a.taken.3

      at_byte : (old new : Option (List ℕ)) → Consumes old new (done ++ longer) → ReadsText old new after (Err stops.TooLong)
      at_byte None new c = tt
      at_byte (Some bytes) None c = absurd c
      at_byte (Some bytes) (Some rest) c = (
        long_at_byte done front bytes longer rest (c ∙ append_assoc done longer rest) no_feed (omega (arith, size, full, few)) (omega (arith, size, full, length-append done longer)),
        (a.taken.0 ∷ [], omega arith, subst (λ (xs : List ℕ). bytes ≡ (xs ++ a.taken.0 ∷ []) ++ rest) (sym a.appended) (c ∙ simp append_assoc)),
      )

  -- a line that is no mark is text, with its line feed
  pub text_goes_on : (limit : ℕ) → AppendsLine mid new done after limit (Ok breaks.Feed) → is_mark (drop (length done) after) ≡ false → Consumes old new (after ++ 10 ∷ []) × IsTextFront (after ++ 10 ∷ [])
  text_goes_on limit a m =
      let is : done ++ (a.line ++ 10 ∷ []) ≡ after ++ 10 ∷ [] = sym (append_assoc done a.line (10 ∷ [])) ∙ ap (λ xs. xs ++ 10 ∷ []) (sym a.appended) in (
        subst (Consumes old new) is (Consumes-then old mid new done (a.line ++ 10 ∷ []) taken a.taken),
        subst (λ (xs : List ℕ). IsTextFront (xs ++ 10 ∷ [])) (sym a.appended) (IsTextFront-line done a.line front a.no_feed (no_mark breaks.Feed limit a m)),
      )
