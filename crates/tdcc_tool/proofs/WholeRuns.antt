-- A run all of whose lines give inputs goes to its end.
use Rattle.std.proofs.Common.{◌≡◌, ℕ, zero, suc, ◌<◌, ◌≤◌, List, [], ◌∷◌, length, take, Some, None, refl, sym, ap, ◌∙◌, subst, arith, inl, inr}
use Rattle.std.specs.Prelude.{slice_get, String, IfSome, IsOk, Option, Result}
use Rattle.std.specs.declared.alloc.Global.{Global}
use Rattle.std.proofs.lemmas.List.{length-take-le, take_all}
use Rattle.tdcc_base.specs.declared.status.Status.{Status}
use Rattle.tdcc_base.specs.declared.status.Status.TheVariants as statuses
use Rattle.tdcc_base.specs.Promises.{TakesAllWithin}
use Rattle.tdcc_base.specs.Texts.{program_text_of, trace_of}
use Rattle.tdcc_base.specs.Lines.{lines_of}
use Rattle.token_system.specs.Stores.{StoreMap}
use Rattle.agent_core.specs.Programs.{CoreProgram}
use Rattle.agent_core.specs.Outputs.{IsRun}
use Rattle.agent_core.specs.Strata.{Stratifies}
use Rattle.agent_laws.proofs.Runs.{one_run}
use Rattle.agent_core.specs.WellFormed.{IsWellFormed}
use Rattle.command_words.specs.declared.command.Command.{Command}
use Rattle.command_words.specs.declared.command.Command.TheVariants as commands
use Rattle.command_words.specs.declared.settings.Limits.{Limits}
use Rattle.tdcc_tool.specs.declared.task.Task.TheVariants as tasks
use Rattle.tdcc_tool.specs.declared.output.OutputMode.{OutputMode}
use Rattle.tdcc_tool.specs.declared.output.OutputMode.TheVariants.{Stores, Reports}
use Rattle.tdcc_tool.specs.Accepted.{IsTextOf}
use Rattle.tdcc_tool.specs.declared.run_end.RunEnd.{RunEnd}
use Rattle.tdcc_tool.specs.declared.run_end.RunEnd.TheVariants as ends
use Rattle.trace_text.specs.Inputs.{GivesInput}
use Rattle.tdcc_tool.specs.RunEnds.{EndsBy, status_of}
use Rattle.tdcc_tool.specs.Answers.{GiveInputs, KeepsLimits, RunAnswer, AnswersTo, AnswersBy, WordsCall}
use Rattle.tdcc_tool.specs.Completeness.{CallsRun, RunsThrough, IsRunnable, EndsWhole, FitsInto}
use Rattle.tdcc_tool.proofs.AcceptedPrograms.{built_program, one_built, built_no_fault}
use Rattle.tdcc_tool.proofs.OneAnswer.{one_command}
use Rattle.tdcc_tool.proofs.RunAnswers.{front_goes_on, within as inputs_within, same_front, run-front}
use Rattle.tdcc_tool.proofs.RunSteps.{given_long}

module _ (p : CoreProgram) where
  -- the line at each place gives the input at that place
  given_at : (lines : List (List ℕ)) (ins : List StoreMap) (n : ℕ) (line : List ℕ) → GiveInputs p lines ins → slice_get lines n ≡ Some line → (n < length ins) × (i : StoreMap) × (slice_get ins n ≡ Some i) × GivesInput p line i
  given_at [] [] n line all e = absurd (cc)
  given_at [] (i ∷ ins) n line all e = absurd all
  given_at (l ∷ lines) [] n line all e = absurd all
  given_at (l ∷ lines) (i ∷ ins) zero line all e = let same : l ≡ line = cc in (omega arith, i, refl, subst (λ (x : List ℕ). GivesInput p x i) same all.0)
  given_at (l ∷ lines) (i ∷ ins) (suc n) line all e = let h = given_at lines ins n line all.1 e in let lt = h.0 in (omega arith, h.1, h.2, h.3)

  -- such a run ends at the end of the trace
  ends_whole : (table : List ℕ) → IsWellFormed p → Stratifies p table → (limits : Limits) (lines : List (List ℕ)) (ins outs : List StoreMap) (n : ℕ) (e : RunEnd) → GiveInputs p lines ins → IsRun p ins outs → length ins ≤ 65536 → KeepsLimits p limits outs → n ≤ length ins
      → EndsBy p limits lines (take n outs) e → e ≡ ends.Completed
  ends_whole table is strat limits lines ins outs n e all run few within le (inl h) = h.0
  ends_whole table is strat limits lines ins outs n e all run few within le (inr (line, at, ends)) =
      let whole = run.whole in
      let long = length-take-le n outs (let k : n ≤ length outs = omega arith in k) in
      let g = given_at lines ins n line all (subst (λ (k : ℕ). slice_get lines k ≡ Some line) long at) in
      absurd (front_goes_on p table is strat limits ins outs n line e run few within g.0 g.1 g.2 g.3 ends)

  -- as many inputs are no more than the lines
  front_long : (lines : List (List ℕ)) (ins : List StoreMap) (n : ℕ) → GiveInputs p lines ins → n ≤ length lines → n ≤ length ins
  front_long lines ins n all le = let e = given_long p lines ins all in omega arith

module _ (bytes : List ℕ) where
  abbrev lines : List (List ℕ)
  lines = lines_of (trace_of bytes)

  -- a run that may go to its end ends with the status of one that did
  whole_run : (mode : OutputMode) (p : CoreProgram) (s : Status) (o e : List ℕ) (table : List ℕ) → IsTextOf (program_text_of bytes) p → Stratifies p table → (limits : Limits) (r : RunsThrough limits bytes) → RunAnswer p mode limits lines s o e → s ≡ statuses.Ok
  whole_run mode p s o e table built fits limits r answer =
      answer.status_is ∙ ap status_of (go r.program r.outputs (one_built (program_text_of bytes) r.program p r.accepted.built built) r.given r.run r.within)
    where
      go : (q : CoreProgram) (outputs : List StoreMap) → q ≡ p → GiveInputs q lines r.inputs → IsRun q r.inputs outputs → KeepsLimits q limits outputs → answer.end ≡ ends.Completed
      go q outputs same given run within =
          let is = built_program (program_text_of bytes) p built in
          let given' = subst (λ (x : CoreProgram). GiveInputs x lines r.inputs) same given in
          let run' = subst (λ (x : CoreProgram). IsRun x r.inputs outputs) same run in
          let within' = subst (λ (x : CoreProgram). KeepsLimits x limits outputs) same within in
          let le : length answer.ins ≤ length r.inputs = front_long p lines r.inputs (length answer.ins) given' (inputs_within p lines answer.ins answer.given) in
          let all : take (length r.inputs) lines ≡ lines = take_all (length r.inputs) lines (let e = given_long p lines r.inputs given' in omega arith) in
          let front = same_front p lines answer.ins r.inputs answer.given (subst (λ (ls : List (List ℕ)). GiveInputs p ls r.inputs) (sym all) given') le in
          let outs : answer.outs ≡ take (length answer.ins) outputs = one_run p table is fits answer.ins answer.outs (take (length answer.ins) outputs) answer.run
          (subst (λ (xs : List StoreMap). IsRun p xs (take (length answer.ins) outputs)) (sym front) (run-front p r.inputs outputs (length answer.ins) le run')) in
          ends_whole p table is fits limits lines r.inputs outputs (length answer.ins) answer.end given' run' r.few within' le (subst (λ (z : List StoreMap). EndsBy p limits lines z answer.end) outs answer.ends)

  pub whole_status : (mode : OutputMode) (limits : Limits) → RunsThrough limits bytes → (s : Status) (o e : List ℕ) → AnswersTo (tasks.Run mode limits) bytes s o e → s ≡ statuses.Ok
  whole_status mode limits r s o e (inl x) = absurd (built_no_fault (program_text_of bytes) r.program x.fault r.accepted.built x.has)
  whole_status mode limits r s o e (inr (p, built, inl x)) =
      absurd (x.case.none r.accepted.table (subst (λ (q : CoreProgram). Stratifies q r.accepted.table) (one_built (program_text_of bytes) r.program p r.accepted.built built) r.accepted.stratified))
  whole_status mode limits r s o e (inr (p, built, inr (table, fits, answer))) = whole_run mode p s o e table built fits limits r answer

  called_whole : (words : List (String Global)) (command : Command) (s : Status) (o e : List ℕ) → WordsCall command words → AnswersBy command bytes s o e → IsRunnable words bytes → s ≡ statuses.Ok
  called_whole words command s o e is h r = go r.calls
    where
      go : CallsRun r.limits words → s ≡ statuses.Ok
      go (inl run) = whole_status Stores r.limits r.through s o e (subst (λ (c : Command). AnswersBy c bytes s o e) (one_command words command (commands.Run r.limits) is run) h)
      go (inr report) = whole_status Reports r.limits r.through s o e (subst (λ (c : Command). AnswersBy c bytes s o e) (one_command words command (commands.Report r.limits) is report) h)

-- an answer to such an input is its end
pub runs_whole : (words : List (String Global)) (command : Command) (left : Option (List ℕ)) (s : Status) (o e : List ℕ) (source_failed sink_failed : Type 0) → WordsCall command words → IfSome left (λ bytes. AnswersBy command bytes s o e)
    → IfSome left (λ bytes. IsRunnable words bytes → EndsWhole s source_failed sink_failed)
runs_whole words command None s o e f g is h = tt
runs_whole words command (Some bytes) s o e f g is h = λ r. subst (λ (x : Status). EndsWhole x f g) (sym (called_whole bytes words command s o e is h r)) tt

-- a sink that is sure of room for the bytes does not refuse them
pub no_room : {T E : Type 0} (before now : Option ℕ) (bytes o : List ℕ) (r : Result T E) → (IsOk r → ⊥) → TakesAllWithin before now (length bytes) r → bytes ≡ o → FitsInto o before → ⊥
no_room None now bytes o r bad taken same room = room
no_room (Some n) now bytes o r bad taken same room = bad (taken (subst (λ (x : List ℕ). length x ≤ n) (sym same) room)).0
