-- A node by its kind.
use Rattle.std.proofs.Common.{ℕ, List, sym, ap, ◌∙◌, arith, refl}
use Rattle.agent_core.specs.declared.node.Node.TheVariants as nodes
use Rattle.strata.specs.Search.{first_that, pairs, reaches_back}
use Rattle.strata.proofs.Searches.{node_read, below-tell, below-part, below-par, below-none, part-behind, par-behind, par-hit, par-miss}
use Rattle.strata.proofs.search.+first_below.Goals as goal

pub first_told-requires-clause-told : goal.first_told-requires-clause-told
first_told-requires-clause-told t c = c.requires.all c.args.n (nodes.Tell c.in-Tell.told) (node_read c.args.nodes.now c.args.n c.index-nodes-n.result (nodes.Tell c.in-Tell.told) c.requires.n c.index-nodes-n.is c.in-Tell.is)

pub first_below-requires : goal.first_below-requires
first_below-requires t c =
    let part = (par-behind c.args.nodes.now c.requires.tree c.args.n c.in-Par.left c.in-Par.right (node_read c.args.nodes.now c.args.n c.index-nodes-n.result (nodes.Par c.in-Par.left c.in-Par.right) c.requires.n c.index-nodes-n.is c.in-Par.is)).0 in
    (omega (arith, part.0, part.1), (c.requires.rows, (c.requires.ask, (c.requires.tree, (c.requires.all, part.1)))))

pub first_below-requires-in-Par : goal.first_below-requires-in-Par
first_below-requires-in-Par t c =
    let part = (par-behind c.args.nodes.now c.requires.tree c.args.n c.in-Par.left c.in-Par.right (node_read c.args.nodes.now c.args.n c.index-nodes-n.result (nodes.Par c.in-Par.left c.in-Par.right) c.requires.n c.index-nodes-n.is c.in-Par.is)).1 in
    (omega (arith, part.0, part.1), (c.requires.rows, (c.requires.ask, (c.requires.tree, (c.requires.all, part.1)))))

pub first_below-requires-in-Then : goal.first_below-requires-in-Then
first_below-requires-in-Then t c =
    let part = part-behind c.args.nodes.now c.requires.tree c.args.n c.index-nodes-n.result c.in-Then.body (node_read c.args.nodes.now c.args.n c.index-nodes-n.result c.index-nodes-n.result c.requires.n c.index-nodes-n.is refl) c.in-Then.is in
    (omega (arith, part.0, part.1), (c.requires.rows, (c.requires.ask, (c.requires.tree, (c.requires.all, part.1)))))

pub returns-in-Tell : goal.returns-in-Tell
returns-in-Tell t c =
    c.first_told.ensures ∙ ap (λ (xs : List ℕ). first_that (reaches_back c.args.rows.now) (pairs c.args.ask.now xs))
    (sym (below-tell c.args.nodes.now c.requires.tree c.args.n c.in-Tell.told (node_read c.args.nodes.now c.args.n c.index-nodes-n.result (nodes.Tell c.in-Tell.told) c.requires.n c.index-nodes-n.is c.in-Tell.is)))

pub returns-in-Some : goal.returns-in-Some
returns-in-Some t c =
    let parts = below-par c.args.nodes.now c.requires.tree c.args.n c.in-Par.left c.in-Par.right (node_read c.args.nodes.now c.args.n c.index-nodes-n.result (nodes.Par c.in-Par.left c.in-Par.right) c.requires.n c.index-nodes-n.is c.in-Par.is) in
    par-hit (reaches_back c.args.rows.now) c.args.ask.now _ _ c.in-Some.case (sym c.in-Some.is ∙ c.first_below.ensures) ∙ ap (λ (xs : List ℕ). first_that (reaches_back c.args.rows.now) (pairs c.args.ask.now xs)) (sym parts)

pub returns-in_default : goal.returns-in_default
returns-in_default t c =
    let parts = below-par c.args.nodes.now c.requires.tree c.args.n c.in-Par.left c.in-Par.right (node_read c.args.nodes.now c.args.n c.index-nodes-n.result (nodes.Par c.in-Par.left c.in-Par.right) c.requires.n c.index-nodes-n.is c.in-Par.is) in
    c.first_below-in-Par.ensures ∙ par-miss (reaches_back c.args.rows.now) c.args.ask.now _ _ (sym c.in_default.is ∙ c.first_below.ensures) ∙ ap (λ (xs : List ℕ). first_that (reaches_back c.args.rows.now) (pairs c.args.ask.now xs)) (sym parts)

pub returns-in-Then : goal.returns-in-Then
returns-in-Then t c =
    c.first_below-in-Then.ensures ∙ ap (λ (xs : List ℕ). first_that (reaches_back c.args.rows.now) (pairs c.args.ask.now xs))
    (sym (below-part c.args.nodes.now c.requires.tree c.args.n c.index-nodes-n.result c.in-Then.body (node_read c.args.nodes.now c.args.n c.index-nodes-n.result c.index-nodes-n.result c.requires.n c.index-nodes-n.is refl) c.in-Then.is))

pub returns-in-Skip : goal.returns-in-Skip
returns-in-Skip t c =
    ap (λ (xs : List ℕ). first_that (reaches_back c.args.rows.now) (pairs c.args.ask.now xs))
    (sym (below-none c.args.nodes.now c.requires.tree c.args.n c.index-nodes-n.result (node_read c.args.nodes.now c.args.n c.index-nodes-n.result c.index-nodes-n.result c.requires.n c.index-nodes-n.is refl) c.in-Skip.is))

pub returns-in-Skip-2 : goal.returns-in-Skip-2
returns-in-Skip-2 t c =
    ap (λ (xs : List ℕ). first_that (reaches_back c.args.rows.now) (pairs c.args.ask.now xs))
    (sym (below-none c.args.nodes.now c.requires.tree c.args.n c.index-nodes-n.result (node_read c.args.nodes.now c.args.n c.index-nodes-n.result c.index-nodes-n.result c.requires.n c.index-nodes-n.is refl) c.in-Skip.is))

pub returns-in-Skip-3 : goal.returns-in-Skip-3
returns-in-Skip-3 t c =
    ap (λ (xs : List ℕ). first_that (reaches_back c.args.rows.now) (pairs c.args.ask.now xs))
    (sym (below-none c.args.nodes.now c.requires.tree c.args.n c.index-nodes-n.result (node_read c.args.nodes.now c.args.n c.index-nodes-n.result c.index-nodes-n.result c.requires.n c.index-nodes-n.is refl) c.in-Skip.is))
