use Rattle.std.proofs.Common.{◌∷◌, [], ◌++◌, reverse, ap, ◌∙◌, arith}
use Rattle.tdcc_reader.specs.FlatForms.{flat_form_view}
use Rattle.tdcc_reader.specs.OpenForms.{open_forms}
use Rattle.tdcc_reader.proofs.Arranging.{put_arranged, put_keeps}
use Rattle.tdcc_reader.proofs.insertions.Insertions.put.Goals as goal

pub invariant_of-self-2 : goal.invariant_of-self-2
invariant_of-self-2 c = put_keeps c.self.inside.came.items c.push.new.self.items _ (reverse c.self.inside.starts.items) c.self.invariant (omega arith) c.in_ok-push.ensures.items

pub returns : goal.returns
returns c =
    ap (λ fs. open_forms fs (reverse c.self.inside.starts.items)) (put_arranged c.self.inside.came.items c.push.new.self.items _ c.self.invariant.0 (omega arith) c.in_ok-push.ensures.items)
    ∙ ap (λ g. open_forms (g.flat_forms ++ flat_form_view c.args.flat_form ∷ []) g.starts) c.self.view_is
