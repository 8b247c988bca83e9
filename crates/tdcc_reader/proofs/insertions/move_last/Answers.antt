use Rattle.std.proofs.Common.{◌≡◌, ap, sym, ◌∙◌, arith, length}
use Rattle.tdcc_reader.specs.Insertions.{inserted_views, goes_in}
use Rattle.tdcc_reader.proofs.Arranging.{front_goes, last_goes, last_waits}
use Rattle.tdcc_reader.proofs.insertions.move_last.Goals as goal

pub returns-in_ok-push-clause-kept : goal.returns-in_ok-push-clause-kept
returns-in_ok-push-clause-kept c = λ fs a.
    let l : c.len.result ≡ length c.args.left.now.items = omega arith in
    front_goes fs c.args.left.now.items c.args.waiting.now.items c.pop.new.self.items c.args.back.now.items c.push.new.self.items c.in-Some.front a
    (sym (c.goes_in.ensures ∙ ap (λ n. goes_in n (inserted_views c.deref.result.now)) l ∙ ap (λ ws. goes_in (length c.args.left.now.items) (inserted_views ws)) c.deref.ensures.value) ∙ c.if-goes_in.true)
    c.in-Some.ensures.items c.in_ok-push.ensures.items

pub returns-in_ok-push-2-clause-kept : goal.returns-in_ok-push-2-clause-kept
returns-in_ok-push-2-clause-kept c = λ fs a.
    let l : c.len.result ≡ length c.args.left.now.items = omega arith in
    last_waits fs c.args.left.now.items c.pop-2.new.self.items c.args.waiting.now.items c.push-then-last-len.new.self.items c.args.back.now.items c.in-Some-pop.last a
    (sym (c.goes_in.ensures ∙ ap (λ n. goes_in n (inserted_views c.deref.result.now)) l ∙ ap (λ ws. goes_in (length c.args.left.now.items) (inserted_views ws)) c.deref.ensures.value) ∙ c.if-goes_in.false)
    c.in-Some-pop.ensures.items c.in_ok-push-2.ensures.items

pub returns-in_ok-push-3-clause-kept : goal.returns-in_ok-push-3-clause-kept
returns-in_ok-push-3-clause-kept c = λ fs a.
    let l : c.len.result ≡ length c.args.left.now.items = omega arith in
    last_goes fs c.args.left.now.items c.pop-2.new.self.items c.args.waiting.now.items c.args.back.now.items c.push-else-last-len.new.self.items c.in-Some-pop.last a
    (sym (c.goes_in.ensures ∙ ap (λ n. goes_in n (inserted_views c.deref.result.now)) l ∙ ap (λ ws. goes_in (length c.args.left.now.items) (inserted_views ws)) c.deref.ensures.value) ∙ c.if-goes_in.false)
    c.in-Some-pop.ensures.items (omega arith) c.in_ok-push-3.ensures.items
