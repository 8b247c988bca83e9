-- From the reads of the calls that read a text and lines to those of a run.
use Rattle.std.proofs.Common.{◌≡◌, ℕ, ◌≤◌, Bool, true, false, List, [], ◌∷◌, ◌++◌, length, Some, refl, sym, ap, ◌∙◌, subst, arith, append_assoc, length-append, inl, inr, ◌⊎◌}
use Rattle.std.specs.Prelude.{Option, Result, Ok}
use Rattle.tdcc_base.specs.declared.buffers.Buffers.{Buffers}
use Rattle.tdcc_base.specs.declared.lines.Lines.{Lines}
use Rattle.tdcc_base.specs.declared.read_ahead.ReadAhead.{ReadAhead}
use Rattle.tdcc_base.specs.declared.stops.LineEnd.{LineEnd}
use Rattle.tdcc_base.specs.declared.stops.LineEnd.TheVariants as line_ends
use Rattle.tdcc_base.specs.declared.stops.TextEnd.{TextEnd}
use Rattle.tdcc_base.specs.declared.stops.TextEnd.TheVariants as text_ends
use Rattle.tdcc_base.specs.declared.stops.ReadStop.{ReadStop}
use Rattle.tdcc_base.specs.Limits.{longest_line}
use Rattle.tdcc_base.specs.Lines.{lines_of, HasNoFeed, IsOpenLine, ReadsLine}
use Rattle.tdcc_base.specs.Reads.{ReadRule, ReadsOf, ReadsForLine, ReadsForText, TakesFeed, TakesMark, LastRead, GivesPieces, WasNeeded, bytes_given, is_read_fault}
use Rattle.tdcc_base.specs.Texts.{program_text_of, trace_of, AreWholeLines, IsTextSoFar, IsTextRead, ReadsText}
use Rattle.tdcc_base.specs.Unread.{pending, StaysEnded}
use Rattle.tdcc_base.specs.Waiting.{source_of, Opens, ReadsNoMoreAfterEnd, ReadsWhile}
use Rattle.tdcc_base.proofs.FirstLines.{lines_of-feed}
use Rattle.tdcc_base.proofs.ReadSteps.{HasRead, HasRead-start, reads_on, reads_end, last_same}
use Rattle.tdcc_base.proofs.SeveralCalls.{Anything, reopen, reads_over, split_from-parts}
use Rattle.tdcc_base.proofs.WholeLines.{whole_of, lines_of-whole}
use Rattle.token_system.specs.Stores.{StoreMap}
use Rattle.agent_core.specs.Programs.{CoreProgram}
use Rattle.agent_core.specs.Outputs.{IsRun}
use Rattle.command_words.specs.declared.settings.Limits.{Limits}
use Rattle.trace_text.specs.Inputs.{GivesInput}
use Rattle.tdcc_tool.specs.declared.run_state.RunState.{RunState}
use Rattle.tdcc_tool.specs.declared.output.OutputMode.{OutputMode}
use Rattle.tdcc_tool.specs.declared.task.Task.{Task}
use Rattle.tdcc_tool.specs.declared.task.Task.TheVariants as tasks
use Rattle.tdcc_tool.specs.Accepted.{IsTextOf}
use Rattle.tdcc_tool.specs.Answers.{GiveInputs, KeepsLimits}
use Rattle.tdcc_tool.specs.Reading.{IsOpenTrace, IsOpenTraceOf, LeavesOpen, ReadsAsNeeded, GivesNothing}
use Rattle.tdcc_tool.specs.Steps.{IsStateOf, AdvancesRun}
use Rattle.tdcc_tool.proofs.RunSteps.{Settings, Has, given_more}

-- once the source has ended, no call reads it again
pub stays_over : {S : Type 0} (old mid new : Lines S Buffers) → ReadsNoMoreAfterEnd old mid → ReadsNoMoreAfterEnd mid new → ReadsNoMoreAfterEnd old new
stays_over old mid new before then e = let h = before e in let k = then h.0 in (k.0, k.1 ∙ h.1)

-- THE LINES OF A RUN

module _ (s : Settings) where
  -- the state is that of a run on these whole lines
  pub record RunsOn (front : List ℕ) (c : RunState) : Type 0 where
    pub whole : AreWholeLines front
    pub has : Has c s
    pub few : length c.book.ins ≤ 65536
    pub given : GiveInputs s.program (lines_of front) c.book.ins
    pub full : List StoreMap
    pub follows : IsStateOf c full

  -- what begins behind them is a line that says how the run goes on
  open_line : (front : List ℕ) (c : RunState) → RunsOn front c → (bytes : List ℕ) → IsOpenLine longest_line bytes → IsOpenTrace s.program s.limits (front ++ bytes)
  open_line front c r bytes next = record {
    lines = front;
    part = bytes;
    split = refl;
    whole = r.whole;
    next = next;
    ins = c.book.ins;
    outs = r.full;
    few = r.few;
    given = r.given;
    run = subst (λ (q : CoreProgram). IsRun q c.book.ins r.full) r.has.program r.follows.keeps.run;
    within = subst (λ (q : CoreProgram). KeepsLimits q s.limits r.full) r.has.program (subst (λ (l : Limits). KeepsLimits c.book.program l r.full) r.has.limits r.follows.within);
  }

  -- a line more
  runs_on : (front line : List ℕ) (c after : RunState) → RunsOn front c → HasNoFeed line → AdvancesRun c after line → RunsOn (front ++ (line ++ 10 ∷ [])) after
  runs_on front line c after r no_feed g =
      let x = g.closes in
      let lines : lines_of (front ++ (line ++ 10 ∷ [])) ≡ lines_of front ++ line ∷ [] = lines_of-whole front (line ++ 10 ∷ []) (whole_of front r.whole) ∙ ap (λ ls. lines_of front ++ ls) (lines_of-feed line [] no_feed) in
      record {
        whole = inr (front ++ line, sym (append_assoc front line (10 ∷ [])));
        has = record { program = x.closed.program ∙ r.has.program; mode = x.mode ∙ r.has.mode; limits = x.limits ∙ r.has.limits };
        few = let few = g.few in let more = ap length x.closed.ins ∙ length-append c.book.ins (g.input ∷ []) in omega arith;
        given = subst (λ (ls : List (List ℕ)). GiveInputs s.program ls after.book.ins) (sym lines)
            (subst (GiveInputs s.program (lines_of front ++ line ∷ [])) (sym x.closed.ins)
            (given_more s.program (lines_of front) c.book.ins line g.input r.given (subst (λ (q : CoreProgram). GivesInput q line g.input) r.has.program g.given)));
        full = r.full ++ x.output ∷ [];
        follows = x.follows r.full r.follows;
      }

  module _ {S : Type 0} (gives : ReadRule S) (start : ReadAhead) (old : S) where
    -- the reads of a run so far: the source goes on, or it has ended
    pub data ReadSoFar (now : ReadAhead) (mid : S) (c : RunState) : Type 0 where
      going : (front : List ℕ) → now.ended ≡ start.ended → HasRead gives (IsOpenTrace s.program s.limits) (pending start) front (pending now) old mid → RunsOn front c → ReadSoFar now mid c
      over : now.ended ≡ true → ReadsOf gives (IsOpenTrace s.program s.limits) Anything start now false old mid → ReadSoFar now mid c

    pub reads-start : (c : RunState) → Has c s → c.book.ins ≡ [] → IsStateOf c [] → ReadSoFar start old c
    reads-start c has ins follows =
        going [] refl (HasRead-start gives (IsOpenTrace s.program s.limits) (pending start) old) (record {
          whole = inl refl;
          has = has;
          few = let none = ap length ins in omega arith;
          given = subst (GiveInputs s.program []) (sym ins) tt;
          full = [];
          follows = follows;
        })

    module _ (now after : ReadAhead) (mid new : S) (c : RunState) (line : List ℕ) (stays : StaysEnded now after mid new) where
      -- those of a run that ends with a line
      pub reads-finish : (result : Result LineEnd ReadStop) → ReadSoFar now mid c → ReadsForLine gives longest_line line result now after mid new
          → ReadsOf gives (IsOpenTrace s.program s.limits) Anything start after (is_read_fault result) old new
      reads-finish result (going front same h runs) r =
          reads_end gives (IsOpenLine longest_line) (IsOpenTrace s.program s.limits) start now front old mid h (open_line front c runs) after (is_read_fault result) new
          (λ bytes left. ReadsLine longest_line (Some bytes) (Some left) line result × TakesFeed result after.ended line bytes left) Anything same (λ bytes left t. tt) r
      reads-finish result (over was done) r =
          let h = stays was in reads_over gives (IsOpenTrace s.program s.limits) start now after (is_read_fault result) old mid new done was h.0 h.1

      -- those of a run that goes on
      pub reads-more : (next : RunState) → AdvancesRun c next line → ReadSoFar now mid c → ReadsForLine gives longest_line line (Ok line_ends.Line) now after mid new → ReadSoFar after new next
      reads-more next g (over was done) r =
          let h = stays was in over h.0 (reads_over gives (IsOpenTrace s.program s.limits) start now after false old mid new done was h.0 h.1)
      reads-more next g (going front same h runs) r = by_end after.ended refl
        where
          by_end : (b : Bool) → after.ended ≡ b → ReadSoFar after new next
          by_end true e = over e (reads-finish (Ok line_ends.Line) (going front same h runs) r)
          by_end false e =
              let still : after.ended ≡ now.ended = e ∙ sym (not_over now.ended refl) in
              going (front ++ (line ++ 10 ∷ [])) (still ∙ same)
              (reads_on gives (IsOpenLine longest_line) (IsOpenTrace s.program s.limits) start now front old mid h (open_line front c runs) after new
              (λ bytes left. ReadsLine longest_line (Some bytes) (Some left) line (Ok line_ends.Line) × TakesFeed (Ok line_ends.Line) after.ended line bytes left) (line ++ 10 ∷ []) still r
              (λ bytes left t. subst (λ (b : Bool). TakesFeed (Ok line_ends.Line) b line bytes left) e t.1 ∙ sym (append_assoc line (10 ∷ []) left)))
              (runs_on front line c next runs r.takes.0.1.begins.0 g)
            where
              not_over : (b : Bool) → now.ended ≡ b → b ≡ false
              not_over true was = let h = (stays was).0 in absurd (let clash : true ≡ false = sym h ∙ e in cc)
              not_over false was = refl

-- THE TEXT, AND THEN THE LINES

open_text : (task : Task) (bytes : List ℕ) → IsTextSoFar bytes → LeavesOpen task bytes
open_text (tasks.Run mode limits) bytes t = inl t
open_text tasks.Check bytes t = t
open_text tasks.Core bytes t = t

module _ {S : Type 0} (gives : ReadRule S) where
  -- the reads of a task that reads the text alone
  pub text_reads : (task : Task) (text : List ℕ) (result : Result TextEnd ReadStop) (before after : ReadAhead) (old new : S) → ReadsForText gives text result before after old new
      → ReadsOf gives (LeavesOpen task) Anything before after (is_read_fault result) old new
  text_reads task text result before after old new r =
      reopen gives IsTextSoFar (LeavesOpen task) (λ bytes left. ReadsText (Some bytes) (Some left) text result × TakesMark result after.ended text bytes left)
      before after (is_read_fault result) old new (open_text task) r

  module _ (mode : OutputMode) (limits : Limits) (p : CoreProgram) (text : List ℕ) (built : IsTextOf text p) (before mid after : ReadAhead) (old mids new : S) (fails : Bool)
      (first : before.ended ≡ false) (none : pending before ≡ []) (stays : StaysEnded mid after mids new)
      (lines : ReadsOf gives (IsOpenTraceOf p limits) Anything mid after fails mids new) where
    -- a trace that is open behind the text and its mark
    open_run : (mark : List ℕ) → ((rest : List ℕ) → IsTextRead (text ++ mark ++ 10 ∷ rest) (Some rest) text text_ends.Mark) → (bytes : List ℕ) → IsOpenTraceOf p limits bytes
        → LeavesOpen (tasks.Run mode limits) ((text ++ mark ++ 10 ∷ []) ++ bytes)
    open_run mark read bytes trace =
        let t = read bytes in
        subst (LeavesOpen (tasks.Run mode limits)) (sym (append_assoc (text ++ mark) (10 ∷ []) bytes)) (inr (record {
          program = p;
          accepted = record { built = subst (λ (x : List ℕ). IsTextOf x p) t.is_text built; table = trace.0; stratified = trace.1 };
          mark = sym t.is_end;
          trace = subst (IsOpenTrace p limits) (some_same bytes (trace_of (text ++ mark ++ 10 ∷ bytes)) t.trace) trace.2;
        }))
      where
        some_same : (xs ys : List ℕ) → Some xs ≡ Some ys → xs ≡ ys
        some_same xs ys e = cc

    going_on : mid.ended ≡ false → (r : ReadsForText gives text (Ok text_ends.Mark) before mid old mids) → ReadsOf gives (LeavesOpen (tasks.Run mode limits)) Anything before after fails old new
    going_on still r =
        let whole : List ℕ = pending before ++ bytes_given r.pieces in
        let m = subst (λ (b : Bool). TakesMark (Ok text_ends.Mark) b text whole (pending mid)) still r.takes.1 in
        let t = r.takes.0 in
        let same : mid.ended ≡ before.ended = still ∙ sym first in
        let here : mids ≡ r.last = last_same gives (IsTextSoFar whole) before.ended mid.ended r.last mids same r.ending in
        let h : HasRead gives (LeavesOpen (tasks.Run mode limits)) (pending before) (text ++ m.0 ++ 10 ∷ []) (pending mid) old mids = record {
          pieces = r.pieces;
          given = subst (λ (x : S). GivesPieces gives old r.pieces x) (sym here) r.given;
          needed = needed r.pieces r.needed;
          split = m.3 ∙ sym (append_assoc (text ++ m.0) (10 ∷ []) (pending mid));
        } in
        reads_end gives (IsOpenTraceOf p limits) (LeavesOpen (tasks.Run mode limits)) before mid (text ++ m.0 ++ 10 ∷ []) old mids h
        (open_run m.0 (λ rest. split_from-parts text m.0 rest t.splits.whole t.splits.no_mark m.1 m.2 t.short)) after fails new Anything Anything same (λ bytes left x. tt) lines
      where
        needed : (pieces : List (List ℕ)) → WasNeeded IsTextSoFar (pending before) pieces → WasNeeded (LeavesOpen (tasks.Run mode limits)) (pending before) pieces
        needed [] n = tt
        needed (piece ∷ pieces) n = inl n

    -- the reads of a run: those for the text, and those for the lines behind its mark
    pub run_reads : (end : TextEnd) → (end ≡ text_ends.End → mid.ended ≡ true) → ReadsForText gives text (Ok end) before mid old mids → ReadsOf gives (LeavesOpen (tasks.Run mode limits)) Anything before after fails old new
    run_reads end at_end r = by_end mid.ended refl
      where
        by_mark : (e : TextEnd) → (e ≡ text_ends.End → mid.ended ≡ true) → mid.ended ≡ false → ReadsForText gives text (Ok e) before mid old mids → ReadsOf gives (LeavesOpen (tasks.Run mode limits)) Anything before after fails old new
        by_mark text_ends.Mark at still reads = going_on still reads
        by_mark text_ends.End at still reads = absurd (let over = at refl in cc)

        by_end : (b : Bool) → mid.ended ≡ b → ReadsOf gives (LeavesOpen (tasks.Run mode limits)) Anything before after fails old new
        by_end true was = let h = stays was in reads_over gives (LeavesOpen (tasks.Run mode limits)) before mid after fails old mids new (text_reads (tasks.Run mode limits) text (Ok end) before mid old mids r) was h.0 h.1
        by_end false still = by_mark end at_end still r

  -- the reads of a call that begins with nothing held
  pub as_needed : (Open : List ℕ → Type 0) (before after : ReadAhead) (fails : Bool) (old new : S) → before.ended ≡ false → pending before ≡ [] → ReadsOf gives Open Anything before after fails old new → ReadsAsNeeded gives Open old new
  as_needed Open before after fails old new first none r = record {
    pieces = r.pieces;
    last = r.last;
    given = r.given;
    needed = subst (λ (held : List ℕ). WasNeeded Open held r.pieces) none r.needed;
    ending = ends after.ended fails (subst (λ (b : Bool). LastRead gives (Open (bytes_given r.pieces)) b after.ended fails r.last new) first
        (subst (λ (held : List ℕ). LastRead gives (Open (held ++ bytes_given r.pieces)) before.ended after.ended fails r.last new) none r.ending));
  }
    where
      ends : (now fault : Bool) → LastRead gives (Open (bytes_given r.pieces)) false now fault r.last new → (new ≡ r.last) ⊎ (Open (bytes_given r.pieces) × GivesNothing gives r.last new)
      ends true fault e = inr (e.1, inl e.0)
      ends false true e = inr (e.1, inr e.0)
      ends false false e = inl e

  -- and so of lines that were opened for the call
  pub as_read : (left : S → Option (List ℕ)) (Open : List ℕ → Type 0) (fails : Bool) (source : S) (old new : Lines S Buffers) → Opens left source old → ReadsWhile gives Open fails old new → ReadsAsNeeded gives Open source (source_of new)
  as_read left Open fails source old new opens r =
      let empty = opens.first.fresh.unused in
      subst (λ (s : S). ReadsAsNeeded gives Open s (source_of new)) opens.same (as_needed Open old.buffers.ahead new.buffers.ahead fails (source_of old) (source_of new) empty.going_on empty.none r)
