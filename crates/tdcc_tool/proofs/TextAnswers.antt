-- From what is read of the source to what is answered.
use Rattle.std.proofs.Common.{◌≡◌, ℕ, List, [], ◌∷◌, Some, None, subst, inl, inr}
use Rattle.std.specs.Prelude.{Option, OnSome, IfSome, IfOk, Result, Ok, Err}
use Rattle.std.specs.Io.KnownBytes.{prepend_known}
use Rattle.tdcc_base.specs.declared.status.Status.{Status}
use Rattle.tdcc_base.specs.declared.status.Status.TheVariants as statuses
use Rattle.tdcc_base.specs.declared.stops.LineEnd.TheVariants as line_ends
use Rattle.tdcc_base.specs.declared.stops.ReadStop.TheVariants as stops
use Rattle.tdcc_base.specs.declared.stops.TextEnd.{TextEnd}
use Rattle.tdcc_base.specs.Texts.{ReadsText}
use Rattle.tdcc_base.specs.Limits.{longest_line}
use Rattle.tdcc_base.specs.Lines.{lines_of, ReadsLine}
use Rattle.agent_core.specs.Programs.{CoreProgram}
use Rattle.command_words.specs.declared.settings.Limits.{Limits}
use Rattle.tdcc_reader.specs.declared.fault.ReadFault.TheVariants.{TextTooLong}
use Rattle.tdcc_reader.specs.declared.fault.ReadFault.{ReadFault}
use Rattle.tdcc_tool.specs.declared.answer.Answer.{Answer}
use Rattle.tdcc_tool.specs.declared.run_state.RunState.{RunState}
use Rattle.tdcc_tool.specs.declared.task.Task.{Task}
use Rattle.tdcc_tool.specs.declared.task.Task.TheVariants as tasks
use Rattle.tdcc_tool.specs.declared.output.OutputMode.{OutputMode}
use Rattle.tdcc_tool.specs.Accepted.{IsTextOf}
use Rattle.tdcc_tool.specs.Answers.{AnswersOf, AnswersTo, ProgramAnswer}
use Rattle.tdcc_tool.specs.Messages.{program_line}
use Rattle.tdcc_tool.specs.TextFaults.{HasFault, misread}
use Rattle.tdcc_tool.proofs.RunSteps.{Settings, IsOnWay}

-- nothing is left of the source where nothing is waiting
pub none_waiting : (left : Option (List ℕ)) (pending : List ℕ) → prepend_known pending left ≡ Some [] → left ≡ Some []
none_waiting None pending e = cc
none_waiting (Some bs) [] e = e
none_waiting (Some bs) (x ∷ pending) e = absurd (cc)

pub ended_source : (s : Settings) (c : RunState) (start waiting left : Option (List ℕ)) (pending line : List ℕ)
    → IsOnWay s start waiting c → ReadsLine longest_line waiting (prepend_known pending left) line (Ok line_ends.End) → OnSome start (left ≡ Some [])
ended_source s c None waiting left pending line pr r = tt
ended_source s c (Some trace) waiting left pending line pr r =
    let h = subst (λ (l : Option (List ℕ)). ReadsLine longest_line l (prepend_known pending left) line (Ok line_ends.End)) pr.known r in
    none_waiting left pending h.1

module _ (task : Task) where
  -- what the task answers to the bytes of a source
  abbrev pub Answered : Option (List ℕ) → Status → List ℕ → List ℕ → Type 0
  Answered start s o e = IfSome start (λ bytes. AnswersTo task bytes s o e)

  -- a text that has a fault is refused
  pub refuses : (start new : Option (List ℕ)) (text : List ℕ) (end : TextEnd) (f : ReadFault) (s : Status) (o e : List ℕ) → ReadsText start new text (Ok end) → HasFault text f → s ≡ statuses.Program → o ≡ [] → e ≡ program_line f
      → Answered start s o e
  refuses None new text end f s o e r has es eo ee = tt
  refuses (Some bytes) new text end f s o e r has es eo ee = inl (record { fault = f; has = subst (λ (t : List ℕ). HasFault t f) r.is_text has; is = es; nothing = eo; told = ee })

  -- a text that is too long is refused
  pub refuses_long : (start new : Option (List ℕ)) (text : List ℕ) (s : Status) (o e : List ℕ) → ReadsText start new text (Err stops.TooLong) → s ≡ statuses.Program → o ≡ [] → e ≡ program_line TextTooLong
      → Answered start s o e
  refuses_long None new text s o e r es eo ee = tt
  refuses_long (Some bytes) new text s o e r es eo ee = inl (record { fault = TextTooLong; has = misread TextTooLong (λ same. cc) r.0; is = es; nothing = eo; told = ee })

  -- what is answered of the text's program, whatever the bytes, is answered to them
  pub answers_text : (p : CoreProgram) (start new : Option (List ℕ)) (text : List ℕ) (end : TextEnd) (s : Status) (o e : List ℕ) → ReadsText start new text (Ok end) → IsTextOf text p
      → ((bytes : List ℕ) → AnswersOf task p bytes s o e) → Answered start s o e
  answers_text p None new text end s o e r built h = tt
  answers_text p (Some bytes) new text end s o e r built h = inr (p, subst (λ (t : List ℕ). IsTextOf t p) r.is_text built, h bytes)

-- the answer to the trace of a text's program is the answer to the bytes
answers_trace : (mode : OutputMode) (limits : Limits) (p : CoreProgram) (start new : Option (List ℕ)) (text : List ℕ) (end : TextEnd) (s : Status) (o e : List ℕ) → ReadsText start new text (Ok end) → IsTextOf text p
    → IfSome new (λ trace. ProgramAnswer p mode limits (lines_of trace) s o e) → Answered (tasks.Run mode limits) start s o e
answers_trace mode limits p None new text end s o e r built h = tt
answers_trace mode limits p (Some bytes) new text end s o e r built h =
    inr (p, subst (λ (t : List ℕ). IsTextOf t p) r.is_text built, subst (λ (n : Option (List ℕ)). IfSome n (λ trace. ProgramAnswer p mode limits (lines_of trace) s o e)) r.trace h)

pub answers_run : {E : Type 0} (mode : OutputMode) (limits : Limits) (p : CoreProgram) (start new : Option (List ℕ)) (text : List ℕ) (end : TextEnd) (r : Result Answer E) → ReadsText start new text (Ok end) → IsTextOf text p
    → IfOk r (λ a. IfSome new (λ trace. ProgramAnswer p mode limits (lines_of trace) a.status a.out.items a.err.items)) → IfOk r (λ a. Answered (tasks.Run mode limits) start a.status a.out.items a.err.items)
answers_run mode limits p start new text end (Err x) r built h = tt
answers_run mode limits p start new text end (Ok a) r built h = answers_trace mode limits p start new text end a.status a.out.items a.err.items r built h

-- the source is at its end where the trace is
pub at_end : (start new left : Option (List ℕ)) (text : List ℕ) (end : TextEnd) → ReadsText start new text (Ok end) → OnSome new (left ≡ Some []) → OnSome start (left ≡ Some [])
at_end None new left text end r h = tt
at_end (Some bytes) new left text end r h = subst (λ (n : Option (List ℕ)). OnSome n (left ≡ Some [])) r.trace h
