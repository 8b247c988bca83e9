-- The reads for a line and for a text.
use Rattle.std.proofs.Common.{◌≡◌, ℕ, ◌-◌, ◌≤◌, Bool, true, false, List, [], ◌∷◌, ◌++◌, length, drop, refl, sym, ap, ◌∙◌, subst, append_assoc, length-append, arith}
use Rattle.std.specs.Prelude.{Option, Some, Result, Ok}
use Rattle.std.specs.Io.KnownBytes.{Consumes}
use Rattle.std.proofs.lemmas.List.{append_cancel_left, drop_at}
use Rattle.tdcc_base.specs.declared.read_ahead.ReadAhead.{ReadAhead}
use Rattle.tdcc_base.specs.declared.read_ahead.LineBreak.{LineBreak}
use Rattle.tdcc_base.specs.declared.read_ahead.LineBreak.TheVariants as breaks
use Rattle.tdcc_base.specs.declared.stops.LineEnd.{LineEnd}
use Rattle.tdcc_base.specs.declared.stops.LineEnd.TheVariants as line_ends
use Rattle.tdcc_base.specs.declared.stops.TextEnd.{TextEnd}
use Rattle.tdcc_base.specs.declared.stops.TextEnd.TheVariants as text_ends
use Rattle.tdcc_base.specs.declared.stops.ReadStop.{ReadStop}
use Rattle.tdcc_base.specs.Limits.{room_for_text}
use Rattle.tdcc_base.specs.Lines.{IsOpenLine, ReadsLine}
use Rattle.tdcc_base.specs.Reads.{ReadRule, ReadsOf, ReadsForLine, ReadsForText, TakesFeed, TakesMark, is_read_fault}
use Rattle.tdcc_base.specs.Texts.{is_mark, IsTextSoFar, ReadsText}
use Rattle.tdcc_base.specs.Unread.{pending, AppendsLine}
use Rattle.tdcc_base.proofs.ReadSteps.{HasRead, retake, reads_on, reads_end}
use Rattle.tdcc_base.proofs.TextEnds.{IsTextFront}

-- a line that was taken up to its line feed
pub line_feed : (bytes left line : List ℕ) (limit : ℕ) (ended : Bool) → AppendsLine (Some bytes) (Some left) [] line limit (Ok breaks.Feed) → TakesFeed (Ok line_ends.Line) ended line bytes left
line_feed bytes left line limit true a = tt
line_feed bytes left line limit false a = a.taken ∙ append_assoc a.line (10 ∷ []) left ∙ ap (λ (xs : List ℕ). xs ++ 10 ∷ left) (sym a.appended)

-- and one that the source ended with
pub line_over : (bytes left line : List ℕ) (ended : Bool) → ended ≡ true → TakesFeed (Ok line_ends.Line) ended line bytes left
line_over bytes left line true is = tt
line_over bytes left line false is = absurd (cc)

-- the reads for the line that was taken
pub line_reads : {S : Type 0} (gives : ReadRule S) (limit : ℕ) (before after : ReadAhead) (cleared line : List ℕ) (r r' : Result LineBreak ReadStop) (result : Result LineEnd ReadStop) (old new : S)
    → cleared ≡ [] → r ≡ r' → is_read_fault r' ≡ is_read_fault result
    → ((o n : Option (List ℕ)) → AppendsLine o n [] line limit r' → ReadsLine limit o n line result)
    → ((bytes left : List ℕ) → AppendsLine (Some bytes) (Some left) [] line limit r' → TakesFeed result after.ended line bytes left)
    → ReadsOf gives (IsOpenLine (limit - length cleared)) (λ bytes left. AppendsLine (Some bytes) (Some left) cleared line limit r) before after (is_read_fault r) old new
    → ReadsForLine gives limit line result before after old new
line_reads gives limit before after cleared line r r' result old new e is same tells feeds reads =
    retake gives (IsOpenLine limit) (λ bytes left. AppendsLine (Some bytes) (Some left) cleared line limit r) (λ bytes left. ReadsLine limit (Some bytes) (Some left) line result × TakesFeed result after.ended line bytes left)
    before after (is_read_fault r) (is_read_fault result) old new (ap is_read_fault is ∙ same)
    (λ bytes left a. let told = told_from bytes left a in (tells (Some bytes) (Some left) told, feeds bytes left told))
    (subst (λ (room : ℕ). ReadsOf gives (IsOpenLine room) (λ bytes left. AppendsLine (Some bytes) (Some left) cleared line limit r) before after (is_read_fault r) old new) all reads)
  where
    all : limit - length cleared ≡ limit
    all = let none = ap length e in omega (arith, none)

    told_from : (bytes left : List ℕ) → AppendsLine (Some bytes) (Some left) cleared line limit r → AppendsLine (Some bytes) (Some left) [] line limit r'
    told_from bytes left a = subst (λ (xs : List ℕ). AppendsLine (Some bytes) (Some left) xs line limit r') e (subst (λ (x : Result LineBreak ReadStop). AppendsLine (Some bytes) (Some left) cleared line limit x) is a)

-- a mark that was taken, with its line feed unless the source ended with it
pub mark_taken : (bytes left done after : List ℕ) (limit : ℕ) (brk : LineBreak) (ended : Bool) → (brk ≡ breaks.End → ended ≡ true) → is_mark (drop (length done) after) ≡ true
    → AppendsLine (Some bytes) (Some left) done after limit (Ok brk) → TakesMark (Ok text_ends.Mark) ended done (done ++ bytes) left
mark_taken bytes left done after limit brk true over mark a = tt
mark_taken bytes left done after limit breaks.End false over mark a = absurd (let h = over refl in cc)
mark_taken bytes left done after limit breaks.Feed false over mark a =
    let line : drop (length done) after ≡ a.line = ap (drop (length done)) a.appended ∙ drop_at done a.line (length done) refl in
    (a.line, a.no_feed, ap is_mark (sym line) ∙ mark, ap (λ (xs : List ℕ). done ++ xs) (a.taken ∙ append_assoc a.line (10 ∷ []) left) ∙ sym (append_assoc done a.line (10 ∷ left)))

-- whole lines with no mark, and a prefix of a line
so_far : (done : List ℕ) → IsTextFront done → length done ≤ room_for_text → (bytes : List ℕ) → IsOpenLine (room_for_text - length done) bytes → IsTextSoFar (done ++ bytes)
so_far done front few bytes o = record {
  lines = done;
  part = bytes;
  split = refl;
  whole = front.whole;
  no_mark = front.no_mark;
  no_feed = o.no_feed;
  fits = let fits = o.fits in omega (arith, few, fits, length-append done bytes);
}

module _ {S : Type 0} (gives : ReadRule S) (before mid_ahead after : ReadAhead) (done line : List ℕ) (old mid new : S) (r r' : Result LineBreak ReadStop) (front : IsTextFront done) (few : length done ≤ room_for_text)
    (h : HasRead gives IsTextSoFar (pending before) done (pending mid_ahead) old mid) (is : r ≡ r')
    (reads : ReadsOf gives (IsOpenLine (room_for_text - length done)) (λ bytes left. AppendsLine (Some bytes) (Some left) done line room_for_text r) mid_ahead after (is_read_fault r) mid new) where
  -- the reads for the text that ends with the line
  pub text_reads : (text : List ℕ) (result : Result TextEnd ReadStop) → mid_ahead.ended ≡ before.ended → is_read_fault r' ≡ is_read_fault result
      → ((o m n : Option (List ℕ)) → Consumes o m done → AppendsLine m n done line room_for_text r' → ReadsText o n text result)
      → ((bytes left : List ℕ) → AppendsLine (Some bytes) (Some left) done line room_for_text r' → TakesMark result after.ended text (done ++ bytes) left)
      → ReadsForText gives text result before after old new
  text_reads text result ended same tells marks =
      let Takes : List ℕ → List ℕ → Type 0 = λ bytes left. ReadsText (Some bytes) (Some left) text result × TakesMark result after.ended text bytes left in
      retake gives IsTextSoFar Takes Takes
      before after (is_read_fault r) (is_read_fault result) old new (ap is_read_fault is ∙ same) (λ bytes left t. t)
      (reads_end gives (IsOpenLine (room_for_text - length done)) IsTextSoFar before mid_ahead done old mid h (so_far done front few) after (is_read_fault r) new
      (λ bytes left. AppendsLine (Some bytes) (Some left) done line room_for_text r) Takes ended
      (λ bytes left a.
      let told = subst (λ (x : Result LineBreak ReadStop). AppendsLine (Some bytes) (Some left) done line room_for_text x) is a in
      (tells (Some (done ++ bytes)) (Some bytes) (Some left) refl told, marks bytes left told))
      reads)

  -- the reads for the text so far, where the line is a line of it
  pub text_more : (part next : List ℕ) → r' ≡ Ok breaks.Feed → after.ended ≡ mid_ahead.ended → line ≡ done ++ part → next ≡ line ++ 10 ∷ []
      → HasRead gives IsTextSoFar (pending before) next (pending after) old new
  text_more part next feed same appended pushed =
      let told = retake gives (IsOpenLine (room_for_text - length done)) (λ bytes left. AppendsLine (Some bytes) (Some left) done line room_for_text r) (λ bytes left. bytes ≡ (part ++ 10 ∷ []) ++ left)
      mid_ahead after (is_read_fault r) false mid new (ap is_read_fault (is ∙ feed))
      (λ bytes left a. taken bytes left (subst (λ (x : Result LineBreak ReadStop). AppendsLine (Some bytes) (Some left) done line room_for_text x) (is ∙ feed) a)) reads in
      let whole : done ++ (part ++ 10 ∷ []) ≡ next = sym (append_assoc done part (10 ∷ [])) ∙ ap (λ xs. xs ++ 10 ∷ []) (sym appended) ∙ sym pushed in
      subst (λ (xs : List ℕ). HasRead gives IsTextSoFar (pending before) xs (pending after) old new) whole
      (reads_on gives (IsOpenLine (room_for_text - length done)) IsTextSoFar before mid_ahead done old mid h (so_far done front few) after new (λ bytes left. bytes ≡ (part ++ 10 ∷ []) ++ left) (part ++ 10 ∷ []) same told (λ bytes left t. t))
    where
      taken : (bytes left : List ℕ) → AppendsLine (Some bytes) (Some left) done line room_for_text (Ok breaks.Feed) → bytes ≡ (part ++ 10 ∷ []) ++ left
      taken bytes left a = let one : a.line ≡ part = append_cancel_left done a.line part (sym a.appended ∙ appended) in a.taken ∙ ap (λ (xs : List ℕ). (xs ++ 10 ∷ []) ++ left) one
