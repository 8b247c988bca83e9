use Rattle.std.proofs.Common.{ap, sym, ◌∙◌}
use Rattle.std.proofs.lemmas.Map.Text.{btree_map_updates_str}
use Rattle.tdcc_reader.specs.Meanings.{meaning_of}
use Rattle.tdcc_reader.proofs.Indexed.{entered}
use Rattle.tdcc_reader.proofs.scope.Scope.enter.Goals as goal

pub invariant_of-self-in-Ok : goal.invariant_of-self-in-Ok
invariant_of-self-in-Ok g c =
    entered c.self.inside.named.items c.push.new.self.items c.self.inside.newest c.insert.new.self _ c.self.invariant c.in_ok-push.ensures.items
    (c.meaning-hidden.ensures ∙ ap (λ ms. meaning_of ms c.args.name.now) (sym c.self.view_is))
    (btree_map_updates_str c.args.name.now c.self.inside.newest c.insert.new.self _ c.in-Ok.ensures.updates)
