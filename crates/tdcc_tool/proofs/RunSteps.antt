-- How a run over the lines of a trace begins, goes on and ends, by its state.
use Rattle.std.proofs.Common.{◌≡◌, ◌≢◌, inl, inr, ℕ, suc, ◌<◌, ◌≤◌, Bool, true, false, cond, List, [], ◌∷◌, ◌++◌, length, take, Some, None, refl, sym, ap, ◌∙◌, subst, arith, length-append, append_assoc}
use Rattle.std.specs.Prelude.{slice_get, Option, IfSome, Ok, Err, ◌==◌}
use Rattle.std.proofs.lemmas.List.{append-nil}
use Rattle.std.proofs.Math.Seq.{take-append_seam}
use Rattle.command_words.specs.declared.settings.Limits.{Limits}
use Rattle.tdcc_base.specs.declared.status.Status.{Status}
use Rattle.tdcc_base.specs.declared.stops.LineEnd.TheVariants as line_ends
use Rattle.tdcc_base.specs.declared.stops.ReadStop.TheVariants as stops
use Rattle.tdcc_base.specs.Limits.{longest_line}
use Rattle.tdcc_base.specs.Lines.{first_line, after_line, onto_first, lines_of, ReadsLine}
use Rattle.token_system.specs.Stores.{StoreMap}
use Rattle.agent_core.specs.Programs.{CoreProgram}
use Rattle.agent_core.specs.Outputs.{IsRun}
use Rattle.trace_text.specs.declared.fault.LineFault.TheVariants as faults
use Rattle.trace_text.specs.Inputs.{GivesInput}
use Rattle.tdcc_tool.specs.declared.run_state.RunState.{RunState}
use Rattle.tdcc_tool.specs.declared.run_end.RunEnd.{RunEnd}
use Rattle.tdcc_tool.specs.declared.run_end.RunEnd.TheVariants as ends
use Rattle.tdcc_tool.specs.declared.output.OutputMode.{OutputMode}
use Rattle.tdcc_tool.specs.Answers.{GiveInputs, KeepsLimits, RunAnswer}
use Rattle.tdcc_tool.specs.RunEnds.{IsBadLine, EndsAt, EndsBy, status_of, end_line}
use Rattle.tdcc_tool.specs.Steps.{StopsRun, IsStateOf, AdvancesRun}
use Rattle.tdcc_tool.specs.RunTexts.{written}

-- the program, what is written of it, and the limits: they stay through a run
pub record Settings : Type 0 where
  pub program : CoreProgram
  pub mode : OutputMode
  pub limits : Limits

-- these are a state's
pub record Has (c : RunState) (s : Settings) : Type 0 where
  pub program : c.book.program ≡ s.program
  pub mode : c.mode ≡ s.mode
  pub limits : c.limits ≡ s.limits

-- the state follows a run over the lines that are done
pub record Progress (s : Settings) (trace : List ℕ) (left : Option (List ℕ)) (c : RunState) : Type 0 where
  pub done : List (List ℕ)
  pub full : List StoreMap
  pub rest : List ℕ
  pub known : left ≡ Some rest
  pub lines : lines_of trace ≡ done ++ lines_of rest
  pub has : Has c s
  pub few : length c.book.ins ≤ 65536
  pub given : GiveInputs s.program done c.book.ins
  pub follows : IsStateOf c full

-- the first line of bytes, and the lines behind it
lines-first : (bytes : List ℕ) → bytes ≢ [] → lines_of bytes ≡ first_line bytes ∷ lines_of (after_line bytes)
lines-first [] some = absurd (some refl)
lines-first (b ∷ []) some = go (b == 10)
  where
    go : (r : Bool) → cond r ([] ∷ []) ((b ∷ []) ∷ []) ≡ cond r [] (b ∷ []) ∷ lines_of (cond r [] [])
    go true = refl
    go false = refl
lines-first (b ∷ c ∷ bytes) some = go (b == 10) (lines-first (c ∷ bytes) (λ e. cc))
  where
    go : (r : Bool) → lines_of (c ∷ bytes) ≡ first_line (c ∷ bytes) ∷ lines_of (after_line (c ∷ bytes))
        → cond r ([] ∷ lines_of (c ∷ bytes)) (onto_first b (lines_of (c ∷ bytes))) ≡ cond r [] (b ∷ first_line (c ∷ bytes)) ∷ lines_of (cond r (c ∷ bytes) (after_line (c ∷ bytes)))
    go true h = refl
    go false h = ap (onto_first b) h

pub given_long : (p : CoreProgram) (lines : List (List ℕ)) (ins : List StoreMap) → GiveInputs p lines ins → length ins ≡ length lines
given_long p [] [] r = refl
given_long p (line ∷ lines) (i ∷ ins) r = ap suc (given_long p lines ins r.1)
given_long p [] (i ∷ ins) r = absurd r
given_long p (line ∷ lines) [] r = absurd r

pub given_more : (p : CoreProgram) (lines : List (List ℕ)) (ins : List StoreMap) (line : List ℕ) (i : StoreMap) → GiveInputs p lines ins → GivesInput p line i → GiveInputs p (lines ++ line ∷ []) (ins ++ i ∷ [])
given_more p [] [] line i r h = (h, tt)
given_more p (l ∷ lines) (j ∷ ins) line i r h = (r.0, given_more p lines ins line i r.1 h)
given_more p [] (j ∷ ins) line i r h = absurd r
given_more p (l ∷ lines) [] line i r h = absurd r

pub at_seam : (xs : List (List ℕ)) (y : List ℕ) (ys : List (List ℕ)) → slice_get (xs ++ y ∷ ys) (length xs) ≡ Some y
at_seam [] y ys = refl
at_seam (x ∷ xs) y ys = at_seam xs y ys

-- a line that is too long has a feed or an end behind it
long_line : (bytes : List ℕ) → longest_line < length (first_line bytes) → (rest : List ℕ) × (lines_of bytes ≡ first_line bytes ∷ lines_of rest)
long_line bytes over = (after_line bytes, lines-first bytes (not_empty bytes over))
  where
    not_empty : (bs : List ℕ) → longest_line < length (first_line bs) → bs ≢ []
    not_empty [] h e = omega arith
    not_empty (b ∷ bs) h e = cc

module _ (s : Settings) where
  abbrev pub IsAnswer : Option (List ℕ) → Status → List ℕ → List ℕ → Type 0
  IsAnswer start status o e = IfSome start (λ trace. RunAnswer s.program s.mode s.limits (lines_of trace) status o e)

  abbrev pub IsOnWay : Option (List ℕ) → Option (List ℕ) → RunState → Type 0
  IsOnWay start left c = IfSome start (λ trace. Progress s trace left c)

  pub progress-start : (left : Option (List ℕ)) (c : RunState) → Has c s → c.book.ins ≡ [] → IsStateOf c [] → IsOnWay left left c
  progress-start None c has ins follows = tt
  progress-start (Some trace) c has ins follows = record {
    done = [];
    full = [];
    rest = trace;
    known = refl;
    lines = refl;
    has = has;
    few = let none = ap length ins in omega arith;
    given = subst (GiveInputs s.program []) (sym ins) tt;
    follows = follows;
  }

  -- what is answered where the run ends so, after the state
  pub record IsEnd (c : RunState) (end : RunEnd) (status : Status) (o e : List ℕ) : Type 0 where
    pub status_is : status ≡ status_of end
    pub out : (full : List StoreMap) → IsStateOf c full → o ≡ written c.mode c.book.program full
    pub err : e ≡ end_line (length c.book.ins) end

  module _ (trace : List ℕ) (left : Option (List ℕ)) (c : RunState) (pr : Progress s trace left c) where
    long : length c.book.ins ≡ length pr.done
    long = given_long s.program pr.done c.book.ins pr.given

    full_long : length pr.full ≡ length c.book.ins
    full_long = pr.follows.keeps.run.whole

    -- where the run ends so, after the lines that are done
    ended : (end : RunEnd) (status : Status) (o e : List ℕ) → EndsBy s.program s.limits (lines_of trace) pr.full end → IsEnd c end status o e → RunAnswer s.program s.mode s.limits (lines_of trace) status o e
    ended end status o e ends is = record {
      ins = c.book.ins;
      outs = pr.full;
      few = pr.few;
      given = subst (λ (ls : List (List ℕ)). GiveInputs s.program ls c.book.ins) (sym (ap (λ (k : ℕ). take k (lines_of trace)) long ∙ ap (take (length pr.done)) pr.lines ∙ take-append_seam pr.done (lines_of pr.rest))) pr.given;
      run = subst (λ (q : CoreProgram). IsRun q c.book.ins pr.full) pr.has.program pr.follows.keeps.run;
      within = subst (λ (q : CoreProgram). KeepsLimits q s.limits pr.full) pr.has.program (subst (λ (l : Limits). KeepsLimits c.book.program l pr.full) pr.has.limits pr.follows.within);
      told_out = is.out pr.full pr.follows ∙ ap (λ (w : OutputMode). written w c.book.program pr.full) pr.has.mode ∙ ap (λ (q : CoreProgram). written s.mode q pr.full) pr.has.program;
      end = end;
      ends = ends;
      status_is = is.status_is;
      told_err = is.err ∙ ap (λ (n : ℕ). end_line n end) (sym full_long);
    }

    -- the first line that is left stands in the trace behind those that are done
    line_there : (line rest : List ℕ) → lines_of pr.rest ≡ line ∷ lines_of rest → slice_get (lines_of trace) (length pr.full) ≡ Some line
    line_there line rest first =
        ap (slice_get (lines_of trace)) (full_long ∙ long) ∙ ap (λ ls. slice_get ls (length pr.done)) (pr.lines ∙ ap (λ ls. pr.done ++ ls) first) ∙ at_seam pr.done line (lines_of rest)

    -- what ends the run of the state's program ends that of the run's
    ends_here : (line : List ℕ) (end : RunEnd) → EndsAt c.book.program c.limits pr.full line end → EndsAt s.program s.limits pr.full line end
    ends_here line end h = subst (λ (q : CoreProgram). EndsAt q s.limits pr.full line end) pr.has.program (subst (λ (l : Limits). EndsAt c.book.program l pr.full line end) pr.has.limits h)

  pub ended_whole : (start left new : Option (List ℕ)) (line o e : List ℕ) (c : RunState) (status : Status) → IsOnWay start left c → ReadsLine longest_line left new line (Ok line_ends.End) → IsEnd c ends.Completed status o e → IsAnswer start status o e
  ended_whole None left new line o e c status pr r is = tt
  ended_whole (Some trace) left new line o e c status pr r is =
      let h = subst (λ (l : Option (List ℕ)). ReadsLine longest_line l new line (Ok line_ends.End)) pr.known r in
      let all : lines_of trace ≡ pr.done = pr.lines ∙ ap (λ bs. pr.done ++ lines_of bs) h.0 ∙ append-nil pr.done in
      ended trace left c pr ends.Completed status o e (inl (refl, full_long trace left c pr ∙ long trace left c pr ∙ ap length (sym all))) is

  pub ended_at : (start left new : Option (List ℕ)) (line o e : List ℕ) (c after : RunState) (end : RunEnd) (status : Status) → IsOnWay start left c → ReadsLine longest_line left new line (Ok line_ends.Line)
      → StopsRun c after line end → IsEnd after end status o e → IsAnswer start status o e
  ended_at None left new line o e c after end status pr r at is = tt
  ended_at (Some trace) left new line o e c after end status pr r at is =
      let h = subst (λ (l : Option (List ℕ)). ReadsLine longest_line l new line (Ok line_ends.Line)) pr.known r in
      ended trace left c pr end status o e (inr (line, line_there trace left c pr line h.0 h.1.lines, ends_here trace left c pr line end (at.at h.2 pr.full pr.follows)))
      (subst (λ (x : RunState). IsEnd x end status o e) at.same is)

  pub ended_long : (start left new : Option (List ℕ)) (line o e : List ℕ) (c : RunState) (status : Status) → IsOnWay start left c → ReadsLine longest_line left new line (Err stops.TooLong)
      → IsEnd c (ends.BadLine faults.LineTooLong) status o e → IsAnswer start status o e
  ended_long None left new line o e c status pr r is = tt
  ended_long (Some trace) left new line o e c status pr r is =
      let h = subst (λ (l : Option (List ℕ)). ReadsLine longest_line l new line (Err stops.TooLong)) pr.known r in
      let first = long_line pr.rest h.0 in
      let bad : IsBadLine s.program (length pr.full) (first_line pr.rest) faults.LineTooLong = record { refused = h.0; says = λ same. cc; due = inr refl } in
      ended trace left c pr (ends.BadLine faults.LineTooLong) status o e (inr (first_line pr.rest, line_there trace left c pr (first_line pr.rest) first.0 first.1, bad)) is

  -- a line goes on
  pub goes_on : (start left new : Option (List ℕ)) (line : List ℕ) (c after : RunState) → IsOnWay start left c → ReadsLine longest_line left new line (Ok line_ends.Line) → AdvancesRun c after line → IsOnWay start new after
  goes_on None left new line c after pr r g = tt
  goes_on (Some trace) left new line c after pr r g =
      let h = subst (λ (l : Option (List ℕ)). ReadsLine longest_line l new line (Ok line_ends.Line)) pr.known r in
      let x = g.closes in
      record {
        done = pr.done ++ line ∷ [];
        full = pr.full ++ x.output ∷ [];
        rest = h.0;
        known = h.3;
        lines = pr.lines ∙ ap (λ ls. pr.done ++ ls) h.1.lines ∙ sym (append_assoc pr.done (line ∷ []) (lines_of h.0));
        has = record { program = x.closed.program ∙ pr.has.program; mode = x.mode ∙ pr.has.mode; limits = x.limits ∙ pr.has.limits };
        few = let few = g.few in let more = ap length x.closed.ins ∙ length-append c.book.ins (g.input ∷ []) in omega arith;
        given = subst (GiveInputs s.program (pr.done ++ line ∷ [])) (sym x.closed.ins) (given_more s.program pr.done c.book.ins line g.input pr.given (subst (λ (q : CoreProgram). GivesInput q line g.input) pr.has.program g.given));
        follows = x.follows pr.full pr.follows;
      }
