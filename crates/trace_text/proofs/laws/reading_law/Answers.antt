use Rattle.trace_text.proofs.GivenInputs.{one_input}
use Rattle.trace_text.proofs.LineDecisions.{decide_line}
use Rattle.trace_text.proofs.Refused.{one_line_fault, given_not_refused}
use Rattle.trace_text.proofs.laws.reading_law.Goals as goal

pub returns : goal.returns
returns c = λ p line. record {
  read = decide_line p line;
  one_input = λ i j x y. one_input p line i j x y;
  one_fault = λ f g a b r q. one_line_fault p line f g a b r q;
  not_both = λ i f other x r. given_not_refused p line x.tokens f other x.short x.said r;
}
