-- Words and bytes have an answer.
use Rattle.std.proofs.Common.{◌≡◌, ◌⊎◌, inl, inr, ℕ, ◌+◌, ◌<◌, ◌≤◌, List, length, refl, sym, subst, arith}
use Rattle.std.specs.Prelude.{Option, Some, None, MatchOption, String, map, string_bytes}
use Rattle.std.specs.declared.alloc.Global.{Global}
use Rattle.command_words.specs.declared.command.Command.{Command}
use Rattle.command_words.specs.declared.command.Command.TheVariants as commands
use Rattle.command_words.specs.declared.settings.Limits.{Limits}
use Rattle.command_words.specs.Words as words_of
use Rattle.tdcc_base.specs.declared.status.Status.{Status}
use Rattle.tdcc_base.specs.Texts.{program_text_of, trace_of}
use Rattle.tdcc_base.specs.Lines.{lines_of}
use Rattle.agent_core.specs.Programs.{CoreProgram}
use Rattle.agent_core.specs.WellFormed.{IsWellFormed}
use Rattle.agent_core.specs.Strata.{Stratifies}
use Rattle.tdcc_reader.specs.declared.dialect.Dialect.TheVariants.{Program}
use Rattle.tdcc_reader.specs.declared.fault.ReadFault.{ReadFault}
use Rattle.tdcc_reader.specs.declared.fault.ReadFault.TheVariants.{TooManyNodes, TooManyCells}
use Rattle.tdcc_reader.specs.Surfaces.{SurfaceProgram}
use Rattle.tdcc_reader.specs.Texts.{ReadsAs}
use Rattle.tdcc_reader.proofs.Verdicts.{verdict}
use Rattle.strata.proofs.Decided.{table_or_case, some_least}
use Rattle.surface_laws.proofs.WellFormed.{surface_formed}
use Rattle.expansion_laws.specs.SymbolicAgents.{SymbolicAgent, symbolic_size, binders}
use Rattle.expansion_laws.specs.Expansions.{IsSymbolicOf, IsCoreOfSymbolic}
use Rattle.expansion_laws.proofs.WholePrograms.{some_expansion, nodes_many, cells_many}
use Rattle.tdcc_tool.specs.declared.task.Task.{Task}
use Rattle.tdcc_tool.specs.declared.task.Task.TheVariants as tasks
use Rattle.tdcc_tool.specs.declared.output.OutputMode.{OutputMode}
use Rattle.tdcc_tool.specs.declared.output.OutputMode.TheVariants.{Summary}
use Rattle.tdcc_tool.specs.Accepted.{IsTextOf}
use Rattle.tdcc_tool.specs.Answers.{CaseAnswer, ProgramAnswer, AnswersOf, AnswersTo, WordsCall, WordsCallNothing}
use Rattle.tdcc_tool.specs.Checks.{CheckAnswer}
use Rattle.tdcc_tool.specs.Laws.{HaveAnswer}
use Rattle.tdcc_tool.specs.Tasks.{task_of, default_limits}
use Rattle.tdcc_tool.specs.TextFaults.{HasFault, misread, many_nodes, many_cells}
use Rattle.tdcc_tool.proofs.AcceptedPrograms.{built_program}
use Rattle.tdcc_tool.proofs.GeneratedRuns.{generated_through}
use Rattle.tdcc_tool.proofs.OneAnswer.{one_command}
use Rattle.tdcc_tool.proofs.SomeRuns.{split, some_run}

-- TEXTS

-- the text has a core program within the limits, or a fault
abbrev IsDecided : List ℕ → Type 0
IsDecided text = ((p : CoreProgram) × IsTextOf text p) ⊎ ((f : ReadFault) × HasFault text f)

-- by the symbolic agent and the core program of its surface
decided_by : (text : List ℕ) (s : SurfaceProgram) → ReadsAs Program text s → (d : SymbolicAgent) (p : CoreProgram) → IsSymbolicOf s d → IsCoreOfSymbolic s d p → length p.cells ≡ s.declared + length (binders d)
    → (symbolic_size d ≤ 4096) ⊎ (4096 < symbolic_size d) → (length p.cells ≤ 1024) ⊎ (1024 < length p.cells) → IsDecided text
decided_by text s reads d p drawn made count (inr many) cells = inr (TooManyNodes, many_nodes s reads (d, drawn, many))
decided_by text s reads d p drawn made count (inl few) (inr many) = inr (TooManyCells, many_cells s reads (d, drawn, few, omega arith))
decided_by text s reads d p drawn made count (inl few) (inl small) =
    let nodes = nodes_many s d p made in
    inl (p, record { surface = s; reads = reads; core = record { expansion = (d, drawn, made); few_nodes = omega arith; few_cells = small } })

surface_decided : (text : List ℕ) (s : SurfaceProgram) → ReadsAs Program text s → IsDecided text
surface_decided text s reads =
    let formed = surface_formed s (text, reads) in
    let (p, (d, drawn, made)) = some_expansion s formed in
    decided_by text s reads d p drawn made (cells_many s d p formed made) (split (symbolic_size d) 4096) (split (length p.cells) 1024)

text_decided : (text : List ℕ) → IsDecided text
text_decided text = elim (verdict Program text) [ inl (s, reads) ↦ surface_decided text s reads | inr (f, says, refused) ↦ inr (f, misread f says refused) ]

-- PROGRAMS

module _ (p : CoreProgram) (is : IsWellFormed p) where
  some_program_answer : (mode : OutputMode) (limits : Limits) (lines : List (List ℕ)) → (s : Status) × (o : List ℕ) × (e : List ℕ) × ProgramAnswer p mode limits lines s o e
  some_program_answer mode limits lines = elim (table_or_case p is) [
    | inl (table, fits) ↦ let (s, o, e, answer) = some_run p is table fits mode limits lines in (s, o, e, inr (table, fits, answer))
    | inr (edge, first, none) ↦ (
      _,
      _,
      _,
      inl (record {
        guard = edge.guard.cell;
        told = edge.told;
        node = edge.guard.node;
        case = record { none = none; edge = edge; first = first; guard_is = refl; told_is = refl; node_is = refl };
        is = refl;
        nothing = refl;
        line = refl;
      }),
    )
  ]

  some_check_answer : (s : Status) × (o : List ℕ) × (e : List ℕ) × (CaseAnswer p s o e ⊎ CheckAnswer p s o e)
  some_check_answer = elim (table_or_case p is) [
    | inl (table, fits) ↦ let (least, stratified, low) = some_least p is table fits in (_, _, _, inr (record { table = least; stratified = stratified; least = low; is = refl; written = refl; nothing = refl }))
    | inr (edge, first, none) ↦ (
      _,
      _,
      _,
      inl (record {
        guard = edge.guard.cell;
        told = edge.told;
        node = edge.guard.node;
        case = record { none = none; edge = edge; first = first; guard_is = refl; told_is = refl; node_is = refl };
        is = refl;
        nothing = refl;
        line = refl;
      }),
    )
  ]

  some_answer_of : (task : Task) (bytes : List ℕ) → (s : Status) × (o : List ℕ) × (e : List ℕ) × AnswersOf task p bytes s o e
  some_answer_of (tasks.Run mode limits) bytes = some_program_answer mode limits (lines_of (trace_of bytes))
  some_answer_of tasks.Check bytes = some_check_answer
  some_answer_of tasks.Core bytes = (_, _, _, record { is = refl; written = refl; nothing = refl })

some_answer_to : (task : Task) (bytes : List ℕ) → (s : Status) × (o : List ℕ) × (e : List ℕ) × AnswersTo task bytes s o e
some_answer_to task bytes = elim (text_decided (program_text_of bytes)) [
  | inl (p, built) ↦ let (s, o, e, answer) = some_answer_of p (built_program (program_text_of bytes) p built) task bytes in (s, o, e, inr (p, built, answer))
  | inr (f, has) ↦ (_, _, _, inl (record { fault = f; has = has; is = refl; nothing = refl; told = refl }))
]

-- WORDS

-- the words call a command, or none
abbrev pub CallOrNot : List (String Global) → Type 0
CallOrNot words = ((command : Command) × WordsCall command words) ⊎ WordsCallNothing words

pub call_or_not : (words : List (String Global)) (r : Option Command) → MatchOption r (words_of.IsNoCommand (map string_bytes words)) (λ command. words_of.IsCommand command (map string_bytes words)) → CallOrNot words
call_or_not words None h = inr h
call_or_not words (Some command) h = inl (command, h)

none_answer : (words : List (String Global)) (bytes : List ℕ) → WordsCallNothing words → HaveAnswer words bytes
none_answer words bytes none = (_, _, _, inr (record { none = none; is = refl; nothing = refl; told = refl }))

generated_answer : (words : List (String Global)) (bytes : List ℕ) (n : ℕ) → WordsCall (commands.Generate n) words → HaveAnswer words bytes
generated_answer words bytes n is =
    let r = generated_through n is.allowed.1 in
    let built = r.accepted.built in
    let p = r.program in
    let (s, o, e, answer) = some_run p (built_program _ p built) r.accepted.table r.accepted.stratified Summary default_limits _ in
    (s, o, e, inl (commands.Generate n, is, inr (p, built, inr (r.accepted.table, r.accepted.stratified, answer))))

-- words and bytes have an answer
pub some_answer : (words : List (String Global)) (bytes : List ℕ) → CallOrNot words → HaveAnswer words bytes
some_answer words bytes (inr none) = none_answer words bytes none
some_answer words bytes (inl (commands.Generate n, is)) = generated_answer words bytes n is
some_answer words bytes (inl (commands.Run limits, is)) = let (s, o, e, answer) = some_answer_to (task_of (commands.Run limits)) bytes in (s, o, e, inl (commands.Run limits, is, answer))
some_answer words bytes (inl (commands.Report limits, is)) = let (s, o, e, answer) = some_answer_to (task_of (commands.Report limits)) bytes in (s, o, e, inl (commands.Report limits, is, answer))
some_answer words bytes (inl (commands.Check, is)) = let (s, o, e, answer) = some_answer_to tasks.Check bytes in (s, o, e, inl (commands.Check, is, answer))
some_answer words bytes (inl (commands.Core, is)) = let (s, o, e, answer) = some_answer_to tasks.Core bytes in (s, o, e, inl (commands.Core, is, answer))
