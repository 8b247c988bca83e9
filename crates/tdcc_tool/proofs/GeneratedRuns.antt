-- A generated run goes to its end: its text is a program, each line of its trace gives an input, and it stays below the default limits.
use Rattle.std.proofs.Common.{◌≡◌, ℕ, ◌*◌, ◌≤◌, List, [], ◌∷◌, ◌++◌, length, take, sym, subst, arith}
use Rattle.std.specs.Prelude.{All, String}
use Rattle.std.specs.List.{sum_by}
use Rattle.std.specs.declared.alloc.Global.{Global}
use Rattle.std.proofs.lemmas.List.Elements.{All-nil, All-cons, All-head, All-tail}
use Rattle.std.proofs.lemmas.List.Sums.{sum_by-cons}
use Rattle.tdcc_base.specs.declared.status.Status.{Status}
use Rattle.tdcc_base.specs.declared.status.Status.TheVariants as statuses
use Rattle.tdcc_base.specs.Texts.{program_text_of}
use Rattle.token_system.specs.Stores.{StoreMap}
use Rattle.agent_core.specs.Programs.{CoreProgram}
use Rattle.agent_core.specs.Stores.{IsStore}
use Rattle.agent_laws.proofs.Runs.{has_run}
use Rattle.command_words.specs.declared.command.Command.{Command}
use Rattle.command_words.specs.declared.command.Command.TheVariants as commands
use Rattle.tdcc_reader.specs.declared.dialect.Dialect.TheVariants.{Program}
use Rattle.tdcc_reader.specs.Texts.{ReadsAs}
use Rattle.surface_laws.proofs.WellFormed.{surface_formed}
use Rattle.expansion_laws.specs.Expansions.{IsExpansion}
use Rattle.expansion_laws.proofs.WholePrograms.{some_expansion}
use Rattle.trace_text.specs.Generated.{trace_lines, input_bytes}
use Rattle.trace_text.proofs.GeneratedLines.{length-trace}
use Rattle.generated_laws.specs.GeneratedInputs.{GivesSomeInput}
use Rattle.generated_laws.specs.GeneratedSurfaces.{surface}
use Rattle.generated_laws.specs.GeneratedTables.{table}
use Rattle.generated_laws.proofs.Accepted.{line_read}
use Rattle.generated_laws.proofs.Built.{small}
use Rattle.generated_laws.proofs.Parted.{parted}
use Rattle.generated_laws.proofs.PartNews.{few, few_ran}
use Rattle.generated_laws.proofs.SignalLines.{trace_given}
use Rattle.tdcc_tool.specs.declared.output.OutputMode.TheVariants.{Summary}
use Rattle.tdcc_tool.specs.Accepted.{IsAccepted}
use Rattle.tdcc_tool.specs.Answers.{GiveInputs, KeepsLimits, AnswersBy, WordsCall}
use Rattle.tdcc_tool.specs.Completeness.{RunsThrough, EndsWhole}
use Rattle.tdcc_tool.specs.Tasks.{default_limits, IsGenerated}
use Rattle.tdcc_tool.specs.RunTexts.{each_after, ran_after}
use Rattle.tdcc_tool.proofs.OneAnswer.{one_command}
use Rattle.tdcc_tool.proofs.RunSteps.{given_long}
use Rattle.tdcc_tool.proofs.WholeRuns.{whole_status}

-- INPUTS

module _ (p : CoreProgram) where
  -- lines each of which gives some input give inputs
  given_inputs : (lines : List (List ℕ)) → All (GivesSomeInput p) lines → (ins : List StoreMap) × GiveInputs p lines ins
  given_inputs [] all = ([], tt)
  given_inputs (line ∷ lines) all =
      let (i, given) = All-head (GivesSomeInput p) line lines all in
      let (ins, later) = given_inputs lines (All-tail (GivesSomeInput p) line lines all) in
      (i ∷ ins, (given, later))

  -- what lines give are stores
  given_stores : (lines : List (List ℕ)) (ins : List StoreMap) → GiveInputs p lines ins → All (IsStore p) ins
  given_stores [] [] all = All-nil (IsStore p)
  given_stores (line ∷ lines) (i ∷ ins) all = All-cons (IsStore p) i ins all.0.input.store (given_stores lines ins all.1)
  given_stores [] (i ∷ ins) all = absurd all
  given_stores (line ∷ lines) [] all = absurd all

-- THE RUN

module _ (n : ℕ) where
  text_reads : ReadsAs Program (program_text_of (input_bytes n)) (surface n)
  text_reads = let is = parted n in subst (λ (text : List ℕ). ReadsAs Program text (surface n)) (sym is.text) (line_read n)

  module _ (p : CoreProgram) (is : IsExpansion (surface n) p) where
    accepted : IsAccepted (program_text_of (input_bytes n)) p
    accepted =
        let low = small n p is in
        let nodes = low.few_nodes in
        let cells = low.few_cells in
        record {
          built = record { surface = surface n; reads = text_reads; core = record { expansion = is; few_nodes = omega arith; few_cells = omega arith } };
          table = table n;
          stratified = low.stratified;
        }

    -- fewer than 900 agents run in each instant
    few_spent : (past outs : List StoreMap) → sum_by (λ k. k) (each_after (ran_after p) past outs) ≤ length outs * 900
    few_spent past [] = omega arith
    few_spent past (v ∷ outs) =
        let low = small n p is in
        let nodes = low.few_nodes in
        let one : ran_after p past v ≤ length p.nodes = few_ran n p past v is in
        let later = few_spent (past ++ v ∷ []) outs in
        let sum = sum_by-cons (λ (k : ℕ). k) (ran_after p past v) (each_after (ran_after p) (past ++ v ∷ []) outs) in
        omega arith

    -- so as many instants as a run may have stay below the default limits
    within_default : (outs : List StoreMap) → length outs ≤ 65536 → KeepsLimits p default_limits outs
    within_default outs most = record {
      net = λ m lt. let low = small n p is in let nodes = low.few_nodes in let leaves = few n p (take m outs) is in omega arith;
      fuel = let ran = few_spent [] outs in omega arith;
    }

  -- What is generated goes through within the default limits.
  pub generated_through : n ≤ 65536 → RunsThrough default_limits (input_bytes n)
  generated_through most =
      let (p, is) = some_expansion (surface n) (surface_formed (surface n) (program_text_of (input_bytes n), text_reads)) in
      let low = small n p is in
      let (ins, given) = given_inputs p (trace_lines n) (trace_given n p is) in
      let (outs, run) = has_run p (table n) low.is low.stratified ins (given_stores p (trace_lines n) ins given) in
      let long = given_long p (trace_lines n) ins given in
      let many = length-trace n in
      let whole = run.whole in
      let parts = parted n in
      record {
        program = p;
        accepted = accepted p is;
        inputs = ins;
        few = omega arith;
        given = subst (λ (lines : List (List ℕ)). GiveInputs p lines ins) (sym parts.lines) given;
        outputs = outs;
        run = run;
        within = within_default p is outs (omega arith);
      }

-- THE CALL

-- the answer to the words of a generated run is its end, whatever the bytes of the source
made_whole : (command : Command) (words : List (String Global)) (bytes : List ℕ) (s : Status) (o e : List ℕ) → WordsCall command words → IsGenerated command → AnswersBy command bytes s o e → s ≡ statuses.Ok
made_whole (commands.Generate n) words bytes s o e is made answer = whole_status (input_bytes n) Summary default_limits (generated_through n is.allowed.1) s o e answer
made_whole (commands.Run limits) words bytes s o e is made answer = absurd made
made_whole (commands.Report limits) words bytes s o e is made answer = absurd made
made_whole commands.Check words bytes s o e is made answer = absurd made
made_whole commands.Core words bytes s o e is made answer = absurd made

-- So a call with these words goes to its end.
pub generated_whole : (words : List (String Global)) (called : Command) (s : Status) (o e : List ℕ) (source_failed sink_failed : Type 0) → WordsCall called words → ((bytes : List ℕ) → IsGenerated called → AnswersBy called bytes s o e)
    → (command : Command) → WordsCall command words → IsGenerated command → EndsWhole s source_failed sink_failed
generated_whole words called s o e f g is answers command other made =
    let made' : IsGenerated called = subst IsGenerated (one_command words command called other is) made in
    subst (λ (x : Status). EndsWhole x f g) (sym (made_whole called words [] s o e is made' (answers [] made'))) tt
