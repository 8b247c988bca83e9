-- Two answers to the same words and bytes are one.
use Rattle.std.proofs.Common.{◌≡◌, ℕ, suc, ◌<◌, ◌≤◌, List, [], ◌∷◌, ◌++◌, length, map, arith, refl, sym, ap, ◌∙◌, subst, inl, inr}
use Rattle.std.specs.Prelude.{String, string_bytes, slice_index}
use Rattle.std.specs.declared.alloc.Global.{Global}
use Rattle.tdcc_base.specs.declared.status.Status.{Status}
use Rattle.tdcc_base.specs.Texts.{program_text_of, trace_of}
use Rattle.tdcc_base.specs.Lines.{lines_of}
use Rattle.agent_core.specs.Programs.{CoreProgram}
use Rattle.agent_core.specs.WellFormed.{IsWellFormed}
use Rattle.agent_core.specs.Strata.{Edge, Each, IsFirstCase, edges, Reaches}
use Rattle.agent_laws.proofs.ProgramOutputs.{has_output, one_output}
use Rattle.agent_laws.proofs.Runs.{has_run, one_run}
use Rattle.command_words.specs.declared.command.Command.{Command}
use Rattle.command_words.specs.declared.settings.Limits.{Limits}
use Rattle.command_words.proofs.CommandWords.{one_command as one_called}
use Rattle.tdcc_tool.specs.declared.task.Task.{Task}
use Rattle.tdcc_tool.specs.declared.task.Task.TheVariants as tasks
use Rattle.tdcc_tool.specs.declared.output.OutputMode.{OutputMode}
use Rattle.tdcc_tool.specs.Checks.{CheckAnswer, check_text}
use Rattle.tdcc_tool.specs.Tasks.{task_of, input_of}
use Rattle.tdcc_tool.specs.Messages.{program_line, strata_line}
use Rattle.tdcc_tool.specs.RefusedCases.{IsRefusedCase}
use Rattle.tdcc_tool.specs.Answers.{CaseAnswer, ProgramAnswer, CoreAnswer, AnswersOf, AnswersTo, AnswersBy, WordsCall, HaveOneAnswer}
use Rattle.tdcc_tool.specs.Laws.{AcceptedHaveOneOutput, AcceptedHaveOneRun}
use Rattle.tdcc_tool.proofs.AcceptedPrograms.{accepted_program, built_program, one_built, one_text_fault, built_no_fault}
use Rattle.tdcc_tool.proofs.RunAnswers.{one_run_answer}

-- FIRST CASES: there is at most one

module _ (P : Edge → Type 0) where
  one_first : (before before' : List Edge) (e e' : Edge) (later later' : List Edge) → before ++ e ∷ later ≡ before' ++ e' ∷ later' → P e → P e' → Each (λ x. P x → ⊥) before → Each (λ x. P x → ⊥) before' → e ≡ e'
  one_first [] [] e e' later later' same p p' none none' = cc
  one_first [] (b ∷ before') e e' later later' same p p' none none' = absurd (none'.0 (let h : e ≡ b = cc in subst P h p))
  one_first (b ∷ before) [] e e' later later' same p p' none none' = absurd (none.0 (let h : e' ≡ b = cc in subst P h p'))
  one_first (b ∷ before) (b' ∷ before') e e' later later' same p p' none none' = one_first before before' e e' later later' (let h : before ++ e ∷ later ≡ before' ++ e' ∷ later' = cc in h) p p' none.1 none'.1

one_first_case : (p : CoreProgram) (e e' : Edge) → IsFirstCase p e → IsFirstCase p e' → e ≡ e'
one_first_case p e e' a b = one_first (λ x. Reaches (edges p) x.told x.guard.cell) a.before b.before e e' a.later b.later (sym a.stands ∙ b.stands) a.bad b.bad a.none b.none

-- a refused case is the first one
one_refused_line : (p : CoreProgram) (g t n g' t' n' : ℕ) → IsRefusedCase p g t n → IsRefusedCase p g' t' n' → strata_line p g t n ≡ strata_line p g' t' n'
one_refused_line p g t n g' t' n' a b =
    let same = one_first_case p a.edge b.edge a.first b.first in
    let guards : g ≡ g' = sym a.guard_is ∙ ap (λ (x : Edge). x.guard.cell) same ∙ b.guard_is in
    let tolds : t ≡ t' = sym a.told_is ∙ ap (λ (x : Edge). x.told) same ∙ b.told_is in
    let nodes : n ≡ n' = sym a.node_is ∙ ap (λ (x : Edge). x.guard.node) same ∙ b.node_is in
    ap (λ (k : ℕ). strata_line p k t n) guards ∙ ap (λ (k : ℕ). strata_line p g' k n) tolds ∙ ap (λ (k : ℕ). strata_line p g' t' k) nodes

-- ANSWERS: status, out and err are the same

abbrev pub AreSame : Status → Status → List ℕ → List ℕ → List ℕ → List ℕ → Type 0
AreSame s s' o o' e e' = (s ≡ s') × (o ≡ o') × (e ≡ e')

one_case_answer : (p : CoreProgram) (s s' : Status) (o o' e e' : List ℕ) → CaseAnswer p s o e → CaseAnswer p s' o' e' → AreSame s s' o o' e e'
one_case_answer p s s' o o' e e' x y =
    (x.is ∙ sym y.is, x.nothing ∙ sym y.nothing, x.line ∙ one_refused_line p x.guard x.told x.node y.guard y.told y.node x.case y.case ∙ sym y.line)

-- the answer of a program to its lines is one
one_program_answer : (p : CoreProgram) (mode : OutputMode) (limits : Limits) (lines : List (List ℕ)) (s s' : Status) (o o' e e' : List ℕ) → IsWellFormed p → ProgramAnswer p mode limits lines s o e → ProgramAnswer p mode limits lines s' o' e' → AreSame s s' o o' e e'
one_program_answer p mode limits lines s s' o o' e e' is (inl x) (inl y) = one_case_answer p s s' o o' e e' x y
one_program_answer p mode limits lines s s' o o' e e' is (inl x) (inr (table, fits, y)) = absurd (x.case.none table fits)
one_program_answer p mode limits lines s s' o o' e e' is (inr (table, fits, x)) (inl y) = absurd (y.case.none table fits)
one_program_answer p mode limits lines s s' o o' e e' is (inr (table, fits, x)) (inr (table', fits', y)) = one_run_answer p is table fits mode limits lines s s' o o' e e' x y

one_core_answer : (p : CoreProgram) (s s' : Status) (o o' e e' : List ℕ) → CoreAnswer p s o e → CoreAnswer p s' o' e' → AreSame s s' o o' e e'
one_core_answer p s s' o o' e e' x y = (x.is ∙ sym y.is, x.written ∙ sym y.written, x.nothing ∙ sym y.nothing)

-- there is one least table
same_list : (xs ys : List ℕ) → ((n : ℕ) → n < length xs → slice_index xs n ≤ slice_index ys n) → ((n : ℕ) → n < length xs → slice_index ys n ≤ slice_index xs n) → length xs ≡ length ys → xs ≡ ys
same_list [] [] low high long = refl
same_list [] (y ∷ ys) low high long = absurd (cc)
same_list (x ∷ xs) [] low high long = absurd (cc)
same_list (x ∷ xs) (y ∷ ys) low high long =
    let a = low 0 (omega arith) in
    let b = high 0 (omega arith) in
    let head : x ≡ y = omega arith in
    ap (λ (k : ℕ). k ∷ xs) head ∙ ap (λ (ks : List ℕ). y ∷ ks) (same_list xs ys (λ n lt. low (suc n) (omega arith)) (λ n lt. high (suc n) (omega arith)) (let h : length xs ≡ length ys = omega arith in h))

one_check_answer : (p : CoreProgram) (s s' : Status) (o o' e e' : List ℕ) → CheckAnswer p s o e → CheckAnswer p s' o' e' → AreSame s s' o o' e e'
one_check_answer p s s' o o' e e' x y =
    let long = x.stratified.long in
    let tables : x.table ≡ y.table = same_list x.table y.table (λ n lt. x.least y.table y.stratified n (omega arith)) (λ n lt. y.least x.table x.stratified n (omega arith)) (x.stratified.long ∙ sym y.stratified.long) in
    (x.is ∙ sym y.is, x.written ∙ ap (check_text p) tables ∙ sym y.written, x.nothing ∙ sym y.nothing)

one_answer_of : (task : Task) (p : CoreProgram) (bytes : List ℕ) (s s' : Status) (o o' e e' : List ℕ) → IsWellFormed p → AnswersOf task p bytes s o e → AnswersOf task p bytes s' o' e' → AreSame s s' o o' e e'
one_answer_of (tasks.Run mode limits) p bytes s s' o o' e e' is x y = one_program_answer p mode limits (lines_of (trace_of bytes)) s s' o o' e e' is x y
one_answer_of tasks.Check p bytes s s' o o' e e' is (inl x) (inl y) = one_case_answer p s s' o o' e e' x y
one_answer_of tasks.Check p bytes s s' o o' e e' is (inl x) (inr y) = absurd (x.case.none y.table y.stratified)
one_answer_of tasks.Check p bytes s s' o o' e e' is (inr x) (inl y) = absurd (y.case.none x.table x.stratified)
one_answer_of tasks.Check p bytes s s' o o' e e' is (inr x) (inr y) = one_check_answer p s s' o o' e e' x y
one_answer_of tasks.Core p bytes s s' o o' e e' is x y = one_core_answer p s s' o o' e e' x y

-- the answer of a task is one
one_answer_to : (task : Task) (bytes : List ℕ) (s s' : Status) (o o' e e' : List ℕ) → AnswersTo task bytes s o e → AnswersTo task bytes s' o' e' → AreSame s s' o o' e e'
one_answer_to task bytes s s' o o' e e' (inl x) (inl y) =
    (x.is ∙ sym y.is, x.nothing ∙ sym y.nothing, x.told ∙ ap program_line (one_text_fault (program_text_of bytes) x.fault y.fault x.has y.has) ∙ sym y.told)
one_answer_to task bytes s s' o o' e e' (inl x) (inr (p, built, y)) = absurd (built_no_fault (program_text_of bytes) p x.fault built x.has)
one_answer_to task bytes s s' o o' e e' (inr (p, built, x)) (inl y) = absurd (built_no_fault (program_text_of bytes) p y.fault built y.has)
one_answer_to task bytes s s' o o' e e' (inr (p, built, x)) (inr (q, built', y)) =
    let same : q ≡ p = one_built (program_text_of bytes) q p built' built in
    one_answer_of task p bytes s s' o o' e e' (built_program (program_text_of bytes) p built) x (subst (λ (r : CoreProgram). AnswersOf task r bytes s' o' e') same y)

-- words are those of one command
pub one_command : (words : List (String Global)) (a b : Command) → WordsCall a words → WordsCall b words → a ≡ b
one_command words a b x y = one_called (map string_bytes words) a b x y

-- the answer is one
pub one_answer : (words : List (String Global)) (bytes : List ℕ) → HaveOneAnswer words bytes
one_answer words bytes s s' o o' e e' (inl (a, x, answer)) (inl (b, y, other)) =
    one_answer_to (task_of a) (input_of a bytes) s s' o o' e e' answer (subst (λ (c : Command). AnswersBy c bytes s' o' e') (one_command words b a y x) other)
one_answer words bytes s s' o o' e e' (inl (a, x, answer)) (inr y) = absurd (y.none a x)
one_answer words bytes s s' o o' e e' (inr x) (inl (b, y, answer)) = absurd (x.none b y)
one_answer words bytes s s' o o' e e' (inr x) (inr y) = (x.is ∙ sym y.is, x.nothing ∙ sym y.nothing, x.told ∙ sym y.told)

-- the program of an accepted text has one output
pub accepted_one_output : (text : List ℕ) → AcceptedHaveOneOutput text
accepted_one_output text p a closed i store =
    let is = accepted_program text p a in
    let v = has_output p a.table is a.stratified closed i store in
    (v.0, v.1, λ w out. one_output p a.table is a.stratified closed i v.0 w v.1 out)

-- and one run on inputs
pub accepted_one_run : (text : List ℕ) → AcceptedHaveOneRun text
accepted_one_run text p a ins stores =
    let is = accepted_program text p a in
    let r = has_run p a.table is a.stratified ins stores in
    (r.0, r.1, λ outs run. one_run p a.table is a.stratified ins r.0 outs r.1 run)
