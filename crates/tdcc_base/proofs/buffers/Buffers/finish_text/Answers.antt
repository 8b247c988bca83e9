use Rattle.std.proofs.Common.{◌≡◌, ◌≤◌, ◌<◌, ◌+◌, true, false, ℕ, List, length, ◌++◌, ◌∷◌, [], refl, sym, ap, ◌∙◌, subst, arith, length-append}
use Rattle.std.specs.Prelude.{Result, Ok, Err}
use Rattle.tdcc_base.specs.Limits.{longest_text, room_for_text}
use Rattle.tdcc_base.specs.Unread.{unread}
use Rattle.tdcc_base.specs.Texts.{ReadsText}
use Rattle.tdcc_base.specs.declared.read_ahead.LineBreak.TheVariants as breaks
use Rattle.std.specs.Io.KnownBytes.{Consumes}
use Rattle.tdcc_base.specs.declared.stops.ReadStop.{ReadStop}
use Rattle.tdcc_base.specs.declared.stops.TextEnd.{TextEnd}
use Rattle.tdcc_base.specs.declared.stops.TextEnd.TheVariants as ends
use Rattle.tdcc_base.specs.declared.stops.ReadStop.TheVariants as stops
use Rattle.tdcc_base.specs.Reads.{ReadsForText, TakesMark}
use Rattle.tdcc_base.proofs.LineSteps.{retell, err_is}
use Rattle.tdcc_base.proofs.TextEnds.{seen_mark, cut_text, text_at_mark, text_at_end, text_too_long, text_stop, text_goes_on, IsTextFront}
use Rattle.tdcc_base.proofs.TextReads.{text_reads, text_more, mark_taken}
use Rattle.tdcc_base.proofs.buffers.Buffers.finish_text.Goals as goal

pub returns-in_err-line_break-clause-text : goal.returns-in_err-line_break-clause-text
returns-in_err-line_break-clause-text g c =
    let old = unread g.S.Source.left c.args.self.now.ahead c.args.source.now in
    let mid = unread g.S.Source.left c.lines.self.ahead c.lines.source in
    let new = unread g.S.Source.left c.append_line.new.self c.append_line.new.source in
    let done : List ℕ = c.lines.self.text.items in
    let after : List ℕ = c.append_line.new.into.items in
    let fits : length after ≤ room_for_text = omega (arith, c.append_line.ensures.within, c.append_line.new.into.ok.0) in
    let stop : ReadStop = c.in_err-line_break.field-0.0 in
    let told = retell mid new done done after room_for_text c.append_line.result (Err stop) refl c.in_err-line_break.was c.append_line.ensures.line in
    subst (λ (r : Result TextEnd ReadStop). ReadsText old new after r) (sym (err_is c.from_residual.result stop c.from_residual.ensures.1))
    (text_stop old mid new done after c.lines.invariant.front c.lines.invariant.taken stop told c.lines.invariant.few fits)

pub returns-then-is_mark_at-clause-text : goal.returns-then-is_mark_at-clause-text
returns-then-is_mark_at-clause-text g c =
    let old = unread g.S.Source.left c.args.self.now.ahead c.args.source.now in
    let mid = unread g.S.Source.left c.lines.self.ahead c.lines.source in
    let new = unread g.S.Source.left c.append_line.new.self c.append_line.new.source in
    let done : List ℕ = c.lines.self.text.items in
    let after : List ℕ = c.append_line.new.into.items in
    let told = retell mid new done done after room_for_text c.append_line.result (Ok c.in_ok-line_break.line_break) refl c.in_ok-line_break.was c.append_line.ensures.line in
    let start : c.len-start.result ≡ length done = c.len-start.ensures ∙ c.lines.self.text.ok.0 in
    let mark = seen_mark c.len-start.result done after c.as_slice.result.now true c.if-is_mark_at.ensures start c.as_slice.ensures.value in
    let cut = cut_text c.len-start.result done told.line after c.truncate.new.self.items c.truncate.ensures.items told.appended start in
    subst (λ (xs : List ℕ). ReadsText old new xs (Ok ends.Mark)) (sym cut)
    (text_at_mark old mid new done after c.lines.invariant.front c.lines.invariant.taken c.in_ok-line_break.line_break room_for_text told mark c.lines.invariant.few)

pub returns-then-len-gt-LONGEST_TEXT-clause-text : goal.returns-then-len-gt-LONGEST_TEXT-clause-text
returns-then-len-gt-LONGEST_TEXT-clause-text g c =
    let old = unread g.S.Source.left c.args.self.now.ahead c.args.source.now in
    let mid = unread g.S.Source.left c.lines.self.ahead c.lines.source in
    let new = unread g.S.Source.left c.append_line.new.self c.append_line.new.source in
    let done : List ℕ = c.lines.self.text.items in
    let after : List ℕ = c.append_line.new.into.items in
    let told = retell mid new done done after room_for_text c.append_line.result (Ok breaks.End) refl (c.in_ok-line_break.was ∙ ap Ok c.in-End.is) c.append_line.ensures.line in
    let start : c.len-start.result ≡ length done = c.len-start.ensures ∙ c.lines.self.text.ok.0 in
    let mark = seen_mark c.len-start.result done after c.as_slice.result.now false c.if-is_mark_at.ensures start c.as_slice.ensures.value in
    let long : longest_text < length after + 0 = omega (arith, c.if-len-gt-LONGEST_TEXT.true, c.len.ensures, c.append_line.new.into.ok.0) in
    text_too_long old mid new done after c.lines.invariant.front c.lines.invariant.taken breaks.End room_for_text told mark long

pub returns-in-End-clause-text : goal.returns-in-End-clause-text
returns-in-End-clause-text g c =
    let old = unread g.S.Source.left c.args.self.now.ahead c.args.source.now in
    let mid = unread g.S.Source.left c.lines.self.ahead c.lines.source in
    let new = unread g.S.Source.left c.append_line.new.self c.append_line.new.source in
    let done : List ℕ = c.lines.self.text.items in
    let after : List ℕ = c.append_line.new.into.items in
    let told = retell mid new done done after room_for_text c.append_line.result (Ok breaks.End) refl (c.in_ok-line_break.was ∙ ap Ok c.in-End.is) c.append_line.ensures.line in
    let start : c.len-start.result ≡ length done = c.len-start.ensures ∙ c.lines.self.text.ok.0 in
    let mark = seen_mark c.len-start.result done after c.as_slice.result.now false c.if-is_mark_at.ensures start c.as_slice.ensures.value in
    let short : length after ≤ longest_text = omega (arith, c.if-len-gt-LONGEST_TEXT.false, c.len.ensures, c.append_line.new.into.ok.0) in
    text_at_end old mid new done after c.lines.invariant.front c.lines.invariant.taken room_for_text told mark short

pub returns-then-len-ge-LONGEST_TEXT-clause-text : goal.returns-then-len-ge-LONGEST_TEXT-clause-text
returns-then-len-ge-LONGEST_TEXT-clause-text g c =
    let old = unread g.S.Source.left c.args.self.now.ahead c.args.source.now in
    let mid = unread g.S.Source.left c.lines.self.ahead c.lines.source in
    let new = unread g.S.Source.left c.append_line.new.self c.append_line.new.source in
    let done : List ℕ = c.lines.self.text.items in
    let after : List ℕ = c.append_line.new.into.items in
    let told = retell mid new done done after room_for_text c.append_line.result (Ok breaks.Feed) refl (c.in_ok-line_break.was ∙ ap Ok c.in-Feed.is) c.append_line.ensures.line in
    let start : c.len-start.result ≡ length done = c.len-start.ensures ∙ c.lines.self.text.ok.0 in
    let mark = seen_mark c.len-start.result done after c.as_slice.result.now false c.if-is_mark_at.ensures start c.as_slice.ensures.value in
    let long : longest_text < length after + 1 = omega (arith, c.if-len-ge-LONGEST_TEXT.true, c.len-in-Feed.ensures, c.append_line.new.into.ok.0) in
    text_too_long old mid new done after c.lines.invariant.front c.lines.invariant.taken breaks.Feed room_for_text told mark long

pub lines-preserved : goal.lines-preserved
lines-preserved g c =
    let old = unread g.S.Source.left c.args.self.now.ahead c.args.source.now in
    let mid = unread g.S.Source.left c.lines.self.ahead c.lines.source in
    let new = unread g.S.Source.left c.append_line.new.self c.append_line.new.source in
    let done : List ℕ = c.lines.self.text.items in
    let room : length done ≤ room_for_text = let few = c.lines.invariant.few in omega (arith, few) in
    let after : List ℕ = c.append_line.new.into.items in
    let told = retell mid new done done after room_for_text c.append_line.result (Ok breaks.Feed) refl (c.in_ok-line_break.was ∙ ap Ok c.in-Feed.is) c.append_line.ensures.line in
    let start : c.len-start.result ≡ length done = c.len-start.ensures ∙ c.lines.self.text.ok.0 in
    let mark = seen_mark c.len-start.result done after c.as_slice.result.now false c.if-is_mark_at.ensures start c.as_slice.ensures.value in
    let next : List ℕ = c.push_within.new.bytes.items in
    let pushed : next ≡ after ++ 10 ∷ [] = c.push_within.ensures.items in
    let size : length next ≡ length after + 1 = ap length pushed ∙ length-append after (10 ∷ []) in
    let is : c.append_line.result ≡ Ok breaks.Feed = c.in_ok-line_break.was ∙ ap Ok c.in-Feed.is in
    let cause_stays : g.S.Source.faults c.append_line.new.source ≡ g.S.Source.faults c.lines.source = rw is at c.append_line.ensures.cause in
    let going = c.append_line.ensures.going is in
    let goes = text_goes_on old mid new done after c.lines.invariant.front c.lines.invariant.taken room_for_text told mark in
    record {
      ready = c.append_line.ensures.ready;
      taken = subst (λ (xs : List ℕ). Consumes old new xs) (sym pushed) goes.0;
      front = subst IsTextFront (sym pushed) goes.1;
      few = omega (arith, size, c.if-len-ge-LONGEST_TEXT.false, c.len-in-Feed.ensures, c.append_line.new.into.ok.0);
      stays = λ e. let before = c.lines.invariant.stays e in let then = c.append_line.ensures.stays before.0 in (then.0, then.1 ∙ before.1);
      same = cause_stays ∙ c.lines.invariant.same;
      reads = text_more g.S.Source.read_gives c.args.self.now.ahead c.lines.self.ahead c.append_line.new.self done after c.args.source.now c.lines.source c.append_line.new.source c.append_line.result (Ok breaks.Feed)
          c.lines.invariant.front room c.lines.invariant.reads (c.in_ok-line_break.was ∙ ap Ok c.in-Feed.is) c.append_line.ensures.reads told.line next refl going told.appended pushed;
      ended = going ∙ c.lines.invariant.ended;
      steady = λ s. (c.append_line.ensures.steady (c.lines.invariant.steady s)).0;
      stop = c.lines.invariant.stop;
      limit = c.lines.invariant.limit;
    }

pub returns-in_err-line_break-clause-reads : goal.returns-in_err-line_break-clause-reads
returns-in_err-line_break-clause-reads g c =
    let done : List ℕ = c.lines.self.text.items in
    let room : length done ≤ room_for_text = let few = c.lines.invariant.few in omega (arith, few) in
    let after : List ℕ = c.append_line.new.into.items in
    let fits : length after ≤ room_for_text = omega (arith, c.append_line.ensures.within, c.append_line.new.into.ok.0) in
    let stop : ReadStop = c.in_err-line_break.field-0.0 in
    subst (λ (r : Result TextEnd ReadStop). ReadsForText g.S.Source.read_gives after r c.args.self.now.ahead c.append_line.new.self c.args.source.now c.append_line.new.source) (sym (err_is c.from_residual.result stop c.from_residual.ensures.1))
    (text_reads g.S.Source.read_gives c.args.self.now.ahead c.lines.self.ahead c.append_line.new.self done after c.args.source.now c.lines.source c.append_line.new.source c.append_line.result (Err stop)
    c.lines.invariant.front room c.lines.invariant.reads c.in_err-line_break.was c.append_line.ensures.reads after (Err stop) c.lines.invariant.ended refl
    (λ o m n t a. text_stop o m n done after c.lines.invariant.front t stop a c.lines.invariant.few fits) (λ bytes left a. tt))

pub returns-then-is_mark_at-clause-reads : goal.returns-then-is_mark_at-clause-reads
returns-then-is_mark_at-clause-reads g c =
    let done : List ℕ = c.lines.self.text.items in
    let room : length done ≤ room_for_text = let few = c.lines.invariant.few in omega (arith, few) in
    let after : List ℕ = c.append_line.new.into.items in
    let start : c.len-start.result ≡ length done = c.len-start.ensures ∙ c.lines.self.text.ok.0 in
    let mark = seen_mark c.len-start.result done after c.as_slice.result.now true c.if-is_mark_at.ensures start c.as_slice.ensures.value in
    text_reads g.S.Source.read_gives c.args.self.now.ahead c.lines.self.ahead c.append_line.new.self done after c.args.source.now c.lines.source c.append_line.new.source c.append_line.result (Ok c.in_ok-line_break.line_break)
    c.lines.invariant.front room c.lines.invariant.reads c.in_ok-line_break.was c.append_line.ensures.reads c.truncate.new.self.items (Ok ends.Mark) c.lines.invariant.ended refl
    (λ o m n t a. subst (λ (xs : List ℕ). ReadsText o n xs (Ok ends.Mark)) (sym (cut_text c.len-start.result done a.line after c.truncate.new.self.items c.truncate.ensures.items a.appended start))
    (text_at_mark o m n done after c.lines.invariant.front t c.in_ok-line_break.line_break room_for_text a mark c.lines.invariant.few))
    (λ bytes left a. subst (λ (xs : List ℕ). TakesMark (Ok ends.Mark) c.append_line.new.self.ended xs (done ++ bytes) left) (sym (cut_text c.len-start.result done a.line after c.truncate.new.self.items c.truncate.ensures.items a.appended start))
    (mark_taken bytes left done after room_for_text c.in_ok-line_break.line_break c.append_line.new.self.ended (λ over. (c.append_line.ensures.end (c.in_ok-line_break.was ∙ ap Ok over)).ended) mark a))

pub returns-then-len-gt-LONGEST_TEXT-clause-reads : goal.returns-then-len-gt-LONGEST_TEXT-clause-reads
returns-then-len-gt-LONGEST_TEXT-clause-reads g c =
    let done : List ℕ = c.lines.self.text.items in
    let room : length done ≤ room_for_text = let few = c.lines.invariant.few in omega (arith, few) in
    let after : List ℕ = c.append_line.new.into.items in
    let start : c.len-start.result ≡ length done = c.len-start.ensures ∙ c.lines.self.text.ok.0 in
    let mark = seen_mark c.len-start.result done after c.as_slice.result.now false c.if-is_mark_at.ensures start c.as_slice.ensures.value in
    let long : longest_text < length after + 0 = omega (arith, c.if-len-gt-LONGEST_TEXT.true, c.len.ensures, c.append_line.new.into.ok.0) in
    text_reads g.S.Source.read_gives c.args.self.now.ahead c.lines.self.ahead c.append_line.new.self done after c.args.source.now c.lines.source c.append_line.new.source c.append_line.result (Ok breaks.End)
    c.lines.invariant.front room c.lines.invariant.reads (c.in_ok-line_break.was ∙ ap Ok c.in-End.is) c.append_line.ensures.reads after (Err stops.TooLong) c.lines.invariant.ended refl
    (λ o m n t a. text_too_long o m n done after c.lines.invariant.front t breaks.End room_for_text a mark long) (λ bytes left a. tt)

pub returns-in-End-clause-reads : goal.returns-in-End-clause-reads
returns-in-End-clause-reads g c =
    let done : List ℕ = c.lines.self.text.items in
    let room : length done ≤ room_for_text = let few = c.lines.invariant.few in omega (arith, few) in
    let after : List ℕ = c.append_line.new.into.items in
    let start : c.len-start.result ≡ length done = c.len-start.ensures ∙ c.lines.self.text.ok.0 in
    let mark = seen_mark c.len-start.result done after c.as_slice.result.now false c.if-is_mark_at.ensures start c.as_slice.ensures.value in
    let short : length after ≤ longest_text = omega (arith, c.if-len-gt-LONGEST_TEXT.false, c.len.ensures, c.append_line.new.into.ok.0) in
    text_reads g.S.Source.read_gives c.args.self.now.ahead c.lines.self.ahead c.append_line.new.self done after c.args.source.now c.lines.source c.append_line.new.source c.append_line.result (Ok breaks.End)
    c.lines.invariant.front room c.lines.invariant.reads (c.in_ok-line_break.was ∙ ap Ok c.in-End.is) c.append_line.ensures.reads after (Ok ends.End) c.lines.invariant.ended refl
    (λ o m n t a. text_at_end o m n done after c.lines.invariant.front t room_for_text a mark short) (λ bytes left a. tt)

pub returns-then-len-ge-LONGEST_TEXT-clause-reads : goal.returns-then-len-ge-LONGEST_TEXT-clause-reads
returns-then-len-ge-LONGEST_TEXT-clause-reads g c =
    let done : List ℕ = c.lines.self.text.items in
    let room : length done ≤ room_for_text = let few = c.lines.invariant.few in omega (arith, few) in
    let after : List ℕ = c.append_line.new.into.items in
    let start : c.len-start.result ≡ length done = c.len-start.ensures ∙ c.lines.self.text.ok.0 in
    let mark = seen_mark c.len-start.result done after c.as_slice.result.now false c.if-is_mark_at.ensures start c.as_slice.ensures.value in
    let long : longest_text < length after + 1 = omega (arith, c.if-len-ge-LONGEST_TEXT.true, c.len-in-Feed.ensures, c.append_line.new.into.ok.0) in
    text_reads g.S.Source.read_gives c.args.self.now.ahead c.lines.self.ahead c.append_line.new.self done after c.args.source.now c.lines.source c.append_line.new.source c.append_line.result (Ok breaks.Feed)
    c.lines.invariant.front room c.lines.invariant.reads (c.in_ok-line_break.was ∙ ap Ok c.in-Feed.is) c.append_line.ensures.reads after (Err stops.TooLong) c.lines.invariant.ended refl
    (λ o m n t a. text_too_long o m n done after c.lines.invariant.front t breaks.Feed room_for_text a mark long) (λ bytes left a. tt)
