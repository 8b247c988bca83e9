use Rattle.std.proofs.Common.{ap, sym, ◌∙◌, bytes_eq}
use Rattle.std.specs.Map.{update}
use Rattle.std.proofs.lemmas.Map.Text.{btree_map_updates_str}
use Rattle.tdcc_reader.specs.Meanings.{indexed}
use Rattle.tdcc_reader.proofs.scope.restore.Goals as goal

pub returns-in-Some-get_mut : goal.returns-in-Some-get_mut
returns-in-Some-get_mut g c = λ x.
    btree_map_updates_str c.args.name.now c.args.newest.now (c.get_mut.follows.lender c.in-Some.meaning) _ ((c.get_mut.follows.holds c.in-Some.meaning).3 c.requires) x
    ∙ ap (λ w. update bytes_eq (indexed c.args.newest.now) c.args.name.now w x) (sym c.in-Some.is)

pub returns-in-None : goal.returns-in-None
returns-in-None g c = λ x.
    btree_map_updates_str c.args.name.now c.args.newest.now c.remove.new.self _ c.remove.ensures.updates x
    ∙ ap (λ w. update bytes_eq (indexed c.args.newest.now) c.args.name.now w x) (sym c.in-None.is)
