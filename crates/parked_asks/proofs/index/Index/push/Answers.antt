use Rattle.std.proofs.Common.{◌≡◌, ℕ, List, ap, ◌∙◌, sym, set, [], ◌∷◌, ◌++◌, map, length, ◌<◌, subst, arith}
use Rattle.std.specs.Prelude.{slice_index_or}
use Rattle.std.proofs.lemmas.List.{map-set, get_or-map, length-map}
use Rattle.parked_asks.proofs.index.Index.push.Goals as goal

pub returns : goal.returns
returns c =
    let there = subst (λ (x : List (List ℕ)). c.args.key < length x) (sym c.self.view_is) c.requires in
    let long : length (map (λ l. l.items) c.self.inside.lists.items) ≡ length c.self.inside.lists.items = length-map _ _ in
    map-set (λ l. l.items) c.self.inside.lists.items c.args.key c.push.new.self
    ∙ ap (λ (ns : List ℕ). set (map (λ l. l.items) c.self.inside.lists.items) c.args.key ns)
    (
    c.in_ok-push.ensures.ok
    ∙ ap (λ (ns : List ℕ). ns ++ c.args.number ∷ [])
    (ap (λ l. l.items) c.index_mut.ensures.value ∙ sym (get_or-map (λ l. l.items) c.self.inside.lists.items c.args.key c.index_mut.result.now [] (omega arith)))
    )
    ∙ ap (λ (x : List (List ℕ)). set x c.args.key (slice_index_or x c.args.key [] ++ c.args.number ∷ [])) c.self.view_is
