use Rattle.std.proofs.Common.{◌≡◌, ◌∷◌, [], length, reverse, ap, sym, ◌∙◌, arith}
use Rattle.std.proofs.lemmas.List.{reverse-append}
use Rattle.tdcc_reader.specs.Insertions.{placed_in_order, inserted_views}
use Rattle.tdcc_reader.specs.OpenForms.{open_forms}
use Rattle.tdcc_reader.proofs.Arranging.{begin_keeps, many_arranged}
use Rattle.tdcc_reader.proofs.insertions.Insertions.begin.Goals as goal

pub invariant_of-self-2 : goal.invariant_of-self-2
invariant_of-self-2 c = begin_keeps c.self.inside.came.items c.self.inside.starts.items c.push.new.self.items c.len.result c.self.invariant (omega arith) c.in_ok-push.ensures.items

pub returns : goal.returns
returns c =
    let n : c.len.result ≡ length c.self.inside.came.items = omega arith in
    let at = n ∙ sym (many_arranged c.self.inside.came.items c.self.invariant.0) in
    ap (open_forms (placed_in_order (inserted_views c.self.inside.came.items))) (ap reverse c.in_ok-push.ensures.items ∙ reverse-append c.self.inside.starts.items (c.len.result ∷ []) ∙ ap (λ k. k ∷ reverse c.self.inside.starts.items) at)
    ∙ ap (λ g. open_forms g.flat_forms (length g.flat_forms ∷ g.starts)) c.self.view_is
