use Rattle.std.proofs.Common.{◌≡◌, ◌++◌, reverse, length, take, drop, add-one, ap, sym, ◌∙◌, arith}
use Rattle.std.proofs.Math.Seq.{take-length, drop-length}
use Rattle.program_grammar.specs.Machine.{run_in, ended, may_end, start, trace}
use Rattle.program_grammar.proofs.Runs.{run_more, trace_more, list_all-reverse}
use Rattle.program_grammar.proofs.machine.run_machine.Goals as goal

pub loop-place-preserved : goal.loop-place-preserved
loop-place-preserved c =
    let fed = rw c.if-not-branch.false at c.in_ok-match_word.ensures.fed in
    let steps = c.in_ok-match_word.ensures.steps c.if-not-branch.false in (
      run_more c.args.language c.args.words.now c.loop-place.place _ _ _ c.loop-place-test.true c.loop-place.invariant.0 ∙ fed,
      trace_more c.args.language c.args.words.now c.loop-place.place _ _ _ _ _ _ c.loop-place-test.true c.loop-place.invariant.1 fed steps,
    )

pub returns-then-not-branch : goal.returns-then-not-branch
returns-then-not-branch c =
    let fed = rw c.if-not-branch.true at c.in_ok-match_word.ensures.fed in record {
      within = omega arith;
      to_come = _;
      goes = c.loop-place.invariant.0;
      open_end = λ e. absurd (omega (arith, e));
      stuck = λ h. rw (← add-one) (run_more c.args.language c.args.words.now c.loop-place.place _ _ _ c.loop-place-test.true c.loop-place.invariant.0 ∙ fed);
    }

pub returns-then-not-is_ended : goal.returns-then-not-is_ended
returns-then-not-is_ended c =
    let at_end : c.loop-place.place ≡ length c.args.words.now = omega arith in record {
      within = omega arith;
      to_come = _;
      goes = ap (λ n. run_in c.args.language start (take n c.args.words.now)) (sym at_end) ∙ c.loop-place.invariant.0;
      open_end = λ _. list_all-reverse may_end c.loop-place.parts.items ∙ ap (λ l. ended l) (sym c.deref.ensures.value) ∙ sym c.is_ended.ensures ∙ c.if-not-is_ended.true;
      stuck = λ h. absurd (omega (arith, h));
    }

pub returns : goal.returns
returns c =
    let at_end : c.loop-place.place ≡ length c.args.words.now = omega arith in (
      (
        _,
        ap (run_in c.args.language start) (sym (take-length c.args.words.now) ∙ ap (λ n. take n c.args.words.now) (sym at_end)) ∙ c.loop-place.invariant.0,
        list_all-reverse may_end c.loop-place.parts.items ∙ ap (λ l. ended l) (sym c.deref.ensures.value) ∙ sym c.is_ended.ensures ∙ c.if-not-is_ended.false,
      ),
      c.in_ok-skip_all.ensures ∙ sym (c.loop-place.invariant.1 ∙ ap (λ n. c.loop-place.steps.items ++ trace (reverse c.loop-place.parts.items) c.loop-place.place (drop n c.args.words.now)) at_end ∙ ap (λ l. c.loop-place.steps.items ++ trace (reverse c.loop-place.parts.items) c.loop-place.place l) (drop-length c.args.words.now)),
    )
