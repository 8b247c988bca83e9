use Rattle.std.proofs.Common.{◌≡◌, ◌+◌, ◌-◌, length, reverse, ap, sym, ◌∙◌, arith}
use Rattle.tdcc_reader.specs.declared.flat_form.FlatFormKind.TheVariants.{Par}
use Rattle.tdcc_reader.specs.FlatForms.{entry}
use Rattle.tdcc_reader.specs.OpenForms.{paired}
use Rattle.tdcc_reader.proofs.Arranging.{begin_keeps, last_open, next_arranged, wrap_keeps}
use Rattle.tdcc_reader.proofs.insertions.Insertions.next_unit.Goals as goal

pub invariant_of-self-in-Continue-branch-2 : goal.invariant_of-self-in-Continue-branch-2
invariant_of-self-in-Continue-branch-2 c =
    begin_keeps c.push.new.self.items c.pop.new.self.items c.push-in-Some.new.self.items c.len-next.result
    (wrap_keeps c.self.inside.came.items c.push.new.self.items _ (reverse c.pop.new.self.items)
    (last_open c.self.inside.came.items c.self.inside.starts.items c.pop.new.self.items c.in-Some.place c.self.invariant c.in-Some.ensures.items)
    c.in_ok-push.ensures.items)
    (omega arith) c.in_ok-push-2.ensures.items

pub returns-in_ok-push-2 : goal.returns-in_ok-push-2
returns-in_ok-push-2 c =
    let n : c.len.result ≡ length c.self.inside.came.items = omega arith in
    next_arranged c.self.inside.came.items c.push.new.self.items c.self.inside.starts.items c.pop.new.self.items c.push-in-Some.new.self.items _ c.len.result c.len-next.result c.self.invariant c.in-Some.ensures.items n
    (ap (entry (Par ((c.len.result + 1) - c.in-Some.place))) c.new.ensures.items) c.in_ok-push.ensures.items (c.len-next.ensures ∙ c.in_ok-push.ensures.len ∙ ap (λ k. k + 1) (sym c.len.ensures)) c.in_ok-push-2.ensures.items
    ∙ ap (λ g. paired g.starts g) c.self.view_is
