-- The answer to a program that is not stratified, from what says so.
use Rattle.std.proofs.Common.{◌≡◌, ℕ, List, [], inl, ap, ◌∙◌, ◌⊎◌}
use Rattle.std.specs.Prelude.{Result, Ok, Err, IfOk}
use Rattle.tdcc_base.specs.declared.status.Status.{Status}
use Rattle.tdcc_base.specs.declared.status.Status.TheVariants as statuses
use Rattle.agent_core.specs.Programs.{CoreProgram}
use Rattle.agent_core.specs.Strata.{HasNoTable}
use Rattle.strata.specs.Answers.{NamesFirstCase}
use Rattle.strata.specs.declared.fault.StrataFault.TheVariants.{NotStratified}
use Rattle.tdcc_tool.specs.declared.answer.Answer.{Answer}
use Rattle.tdcc_tool.specs.Answers.{CaseAnswer}
use Rattle.tdcc_tool.specs.Checks.{CheckAnswer}
use Rattle.tdcc_tool.specs.Messages.{strata_line}

-- where the numbers are told by others that are the same
pub case_answer_at : (p : CoreProgram) (guard told node g t n : ℕ) (s : Status) (o e : List ℕ) → g ≡ guard → t ≡ told → n ≡ node → HasNoTable p → NamesFirstCase p (NotStratified guard told node)
    → s ≡ statuses.Program → o ≡ [] → e ≡ strata_line p g t n → CaseAnswer p s o e
case_answer_at p guard told node g t n s o e guards tolds nodes none named status out err = record {
  guard = guard;
  told = told;
  node = node;
  case = record { none = none; edge = named.0; first = named.1; guard_is = named.2; told_is = named.3; node_is = named.4 };
  is = status;
  nothing = out;
  line = err ∙ ap (λ (k : ℕ). strata_line p k t n) guards ∙ ap (λ (k : ℕ). strata_line p guard k n) tolds ∙ ap (λ (k : ℕ). strata_line p guard told k) nodes;
}

pub case_answer : {E : Type 0} (p : CoreProgram) (guard told node g t n : ℕ) (r : Result Answer E) → g ≡ guard → t ≡ told → n ≡ node → HasNoTable p → NamesFirstCase p (NotStratified guard told node)
    → IfOk r (λ a. a.status ≡ statuses.Program) → IfOk r (λ a. a.out.items ≡ []) → IfOk r (λ a. a.err.items ≡ strata_line p g t n)
    → IfOk r (λ a. CaseAnswer p a.status a.out.items a.err.items ⊎ CheckAnswer p a.status a.out.items a.err.items)
case_answer p guard told node g t n (Err e) guards tolds nodes none named status out err = tt
case_answer p guard told node g t n (Ok a) guards tolds nodes none named status out err = inl (case_answer_at p guard told node g t n a.status a.out.items a.err.items guards tolds nodes none named status out err)
