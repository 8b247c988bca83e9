use Rattle.std.proofs.Common.{Bool, List, ap, ◌∙◌}
use Rattle.std.specs.Prelude.{slice_range}
use Rattle.std.specs.List.{list_all}
use Rattle.instant_net.specs.Seen.{SeenView}
use Rattle.instant_net.proofs.SeenViews.{settled_said}
use Rattle.instant_net.proofs.seen.Seen.is_settled.Goals as goal

pub returns : goal.returns
returns c =
    c.are_set.ensures
    ∙ ap (λ (flags : List Bool). list_all (λ flag. flag) (slice_range flags c.parts_of-first.result.0 c.parts_of-first.result.1)) c.deref.ensures.value
    ∙ ap (λ (s : SeenView). list_all (λ flag. flag) (slice_range s.settled c.parts_of-first.result.0 c.parts_of-first.result.1)) c.self.view_is
    ∙ settled_said c.args.net.now.cells c.args.self.now c.args.cell c.parts_of-first.result.0 c.parts_of-first.result.1 c.requires.cell c.parts_of-first.ensures.first c.parts_of-first.ensures.past
