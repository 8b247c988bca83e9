-- The reads of several calls, one after another.
use Rattle.std.proofs.Common.{◌≡◌, ℕ, Bool, true, false, List, [], ◌∷◌, ◌++◌, length, ◌≤◌, refl, sym, subst, append_assoc, inl}
use Rattle.std.specs.Prelude.{Some}
use Rattle.tdcc_base.specs.declared.read_ahead.ReadAhead.{ReadAhead}
use Rattle.tdcc_base.specs.declared.stops.TextEnd.TheVariants as ends
use Rattle.tdcc_base.specs.Lines.{HasNoFeed}
use Rattle.tdcc_base.specs.Reads.{ReadRule, bytes_given, WasNeeded, LastRead, ReadsOf}
use Rattle.tdcc_base.specs.Texts.{is_mark, HasNoMark, AreWholeLines, IsTextRead}
use Rattle.tdcc_base.specs.Limits.{longest_text}
use Rattle.tdcc_base.specs.Unread.{pending}
use Rattle.tdcc_base.proofs.FirstLines.{first_line-feed, after_line-append}
use Rattle.tdcc_base.proofs.ReadSteps.{last_none, last_for}
use Rattle.tdcc_base.proofs.TextEnds.{IsTextRead-mark}

-- nothing is said of what was taken
abbrev pub Anything : List ℕ → List ℕ → Type 0
Anything bytes left = Unit {0}

module _ {S : Type 0} (gives : ReadRule S) where
  -- where no read is made
  pub no_reads : (Open : List ℕ → Type 0) (ahead : ReadAhead) (s : S) → ReadsOf gives Open Anything ahead ahead false s s
  no_reads Open ahead s = record {
    pieces = [];
    last = s;
    given = refl;
    needed = tt;
    ending = last_none gives (Open (pending ahead ++ [])) ahead.ended s;
    takes = tt;
  }

  -- what left one thing open left the other open
  pub reopen : (In Out : List ℕ → Type 0) (T : List ℕ → List ℕ → Type 0) (before after : ReadAhead) (fails : Bool) (old new : S) → ((bytes : List ℕ) → In bytes → Out bytes)
      → ReadsOf gives In T before after fails old new → ReadsOf gives Out Anything before after fails old new
  reopen In Out T before after fails old new f r = record {
    pieces = r.pieces;
    last = r.last;
    given = r.given;
    needed = needed r.pieces r.needed;
    ending = last_for gives (In whole) (Out whole) before.ended after.ended fails r.last new (f whole) r.ending;
    takes = tt;
  }
    where
      whole : List ℕ
      whole = pending before ++ bytes_given r.pieces

      needed : (pieces : List (List ℕ)) → WasNeeded In (pending before) pieces → WasNeeded Out (pending before) pieces
      needed [] n = tt
      needed (piece ∷ pieces) n = f (pending before ++ bytes_given pieces) n

  -- after the end of the source a call makes no read
  pub reads_over : (Open : List ℕ → Type 0) (before mid after : ReadAhead) (fails : Bool) (old mids new : S) → ReadsOf gives Open Anything before mid false old mids → mid.ended ≡ true → after.ended ≡ true → new ≡ mids
      → ReadsOf gives Open Anything before after fails old new
  reads_over Open before mid after fails old mids new r was over same = record {
    pieces = r.pieces;
    last = r.last;
    given = r.given;
    needed = r.needed;
    ending = subst (λ (s : S). LastRead gives (Open whole) before.ended after.ended fails r.last s) (sym same)
        (subst (λ (e : Bool). LastRead gives (Open whole) before.ended e fails r.last mids) (sym over)
        (any_end before.ended (subst (λ (e : Bool). LastRead gives (Open whole) before.ended e false r.last mids) was r.ending)));
    takes = tt;
  }
    where
      whole : List ℕ
      whole = pending before ++ bytes_given r.pieces

      any_end : (b : Bool) → LastRead gives (Open whole) b true false r.last mids → LastRead gives (Open whole) b true fails r.last mids
      any_end true e = e
      any_end false e = e

-- a text before a mark and the mark's line feed, and the trace behind them
pub split_from-parts : (text mark rest : List ℕ) → AreWholeLines text → HasNoMark text → HasNoFeed mark → is_mark mark ≡ true → length text ≤ longest_text → IsTextRead (text ++ mark ++ 10 ∷ rest) (Some rest) text ends.Mark
split_from-parts text mark rest whole no_mark no_feed is few =
    IsTextRead-mark text (record { whole = whole; no_mark = no_mark }) (text ++ mark ++ 10 ∷ rest) (mark ++ 10 ∷ rest) mark rest
    (append_assoc text mark (10 ∷ rest)) (first_line-feed mark rest no_feed) (after_line-append mark (10 ∷ rest) no_feed) is (inl refl) few
