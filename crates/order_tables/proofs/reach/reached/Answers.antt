-- What is marked from no marks.
use Rattle.std.proofs.Common.{◌≡◌, List, Bool, length, sym, ap, ◌∙◌, subst}
use Rattle.std.specs.Prelude.{IsTrue, ◌↔◌}
use Rattle.std.proofs.lemmas.List.{with_items_is}
use Rattle.order_tables.specs.Reaching.{has, LeadsTo}
use Rattle.order_tables.proofs.Nexts.{marked-leads, none-marked}
use Rattle.order_tables.proofs.reach.reached.Goals as goal

pub returns-clause-each : goal.returns-clause-each
returns-clause-each c =
    let same : length c.mark.new.marks ≡ c.in_ok-marks.marks.len = c.mark.auto.marks ∙ ap length c.deref_mut.ensures.value ∙ sym c.in_ok-marks.marks.ok.0 in
    λ a. subst (λ (xs : List Bool). IsTrue (has xs a) ↔ LeadsTo c.args.nexts.now c.args.item a) (sym (with_items_is c.in_ok-marks.marks c.mark.new.marks same))
    (marked-leads c.args.nexts.now c.args.item c.deref_mut.result.now c.mark.new.marks (λ b. ap (λ (xs : List Bool). has xs b) (c.deref_mut.ensures.value ∙ c.in_ok-marks.ensures.items_if_clones_equal (λ y h. h)) ∙ none-marked _ b) c.mark.ensures a)
