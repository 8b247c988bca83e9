use Rattle.std.proofs.Common.{◌≡◌, ℕ, suc, ◌+◌, ◌++◌, List, [], ◌∷◌, Some, sym, ap, ◌∙◌, arith, append_assoc}
use Rattle.std.proofs.lemmas.List.{append-nil}
use Rattle.agent_core.specs.Agents.{agent_at}
use Rattle.agent_core.proofs.RestTests.{node_found}
use Rattle.instant_net.specs.declared.locals.Local.{Local}
use Rattle.instant_net.specs.Locals.{news_of}
use Rattle.instant_net.proofs.Atoms.{if_ok}
use Rattle.instant_net.proofs.LocalCells.{only_part, no_news, par_parts, new_part}
use Rattle.instant_net.proofs.locals.+add_news.Goals as goal

pub add_news-requires : goal.add_news-requires
add_news-requires t c =
    let found = node_found c.args.program.now c.nodes.result.now c.args.node c.index-nodes-node.result c.nodes.ensures.all c.requires.inside c.index-nodes-node.is in
    let parts = par_parts c.args.program.now c.nodes.ensures.program c.args.node c.args.depth c.in-Par.left c.in-Par.right (found ∙ ap Some c.in-Par.is) in
    let above = parts.left in let inside = parts.left_inside in let shallow = c.requires.shallow in
    (omega arith, (inside, omega arith))

pub add_news-requires-in-Par : goal.add_news-requires-in-Par
add_news-requires-in-Par t c =
    let found = node_found c.args.program.now c.nodes.result.now c.args.node c.index-nodes-node.result c.nodes.ensures.all c.requires.inside c.index-nodes-node.is in
    let parts = par_parts c.args.program.now c.nodes.ensures.program c.args.node c.args.depth c.in-Par.left c.in-Par.right (found ∙ ap Some c.in-Par.is) in
    let above = parts.right in let inside = parts.right_inside in let shallow = c.requires.shallow in
    (omega arith, (inside, omega arith))

pub add_news-requires-in-New : goal.add_news-requires-in-New
add_news-requires-in-New t c =
    let found = node_found c.args.program.now c.nodes.result.now c.args.node c.index-nodes-node.result c.nodes.ensures.all c.requires.inside c.index-nodes-node.is in
    let part = new_part c.args.program.now c.nodes.ensures.program c.args.node c.args.depth c.in-New.cell c.in-New.body (found ∙ ap Some c.in-New.is) in
    let above = part.above in let inside = part.inside in let shallow = c.requires.shallow in
    (omega arith, (inside, omega arith))

pub add_news-requires-in-Then : goal.add_news-requires-in-Then
add_news-requires-in-Then t c =
    let found = node_found c.args.program.now c.nodes.result.now c.args.node c.index-nodes-node.result c.nodes.ensures.all c.requires.inside c.index-nodes-node.is in
    let part = only_part c.args.program.now c.nodes.ensures.program c.args.node c.index-nodes-node.result c.args.depth c.in-Then.body found c.in-Then.is in
    let above = part.above in let inside = part.inside in let shallow = c.requires.shallow in
    (omega arith, (inside, omega arith))

pub returns-in_ok-add_news-in-Par : goal.returns-in_ok-add_news-in-Par
returns-in_ok-add_news-in-Par t c =
    let found = node_found c.args.program.now c.nodes.result.now c.args.node c.index-nodes-node.result c.nodes.ensures.all c.requires.inside c.index-nodes-node.is in
    let parts = par_parts c.args.program.now c.nodes.ensures.program c.args.node c.args.depth c.in-Par.left c.in-Par.right (found ∙ ap Some c.in-Par.is) in
    let below : ℕ → List Local = λ m. news_of m c.args.depth (agent_at c.args.program.now.nodes m) in
    if_ok (λ _. c.add_news-in-Par.new.news.items ≡ c.add_news.new.news.items ++ below c.in-Par.right) (λ _. c.add_news-in-Par.new.news.items ≡ c.args.news.now.items ++ below c.args.node) c.add_news-in-Par.result
    (λ _ h.
    h ∙ ap (λ (xs : List Local). xs ++ below c.in-Par.right) c.in_ok-add_news-in-Par.ensures
    ∙ append_assoc c.args.news.now.items (below c.in-Par.left) (below c.in-Par.right)
    ∙ ap (λ (xs : List Local). c.args.news.now.items ++ xs) parts.news)
    c.add_news-in-Par.ensures

pub returns-in_ok-push-in-New : goal.returns-in_ok-push-in-New
returns-in_ok-push-in-New t c =
    let found = node_found c.args.program.now c.nodes.result.now c.args.node c.index-nodes-node.result c.nodes.ensures.all c.requires.inside c.index-nodes-node.is in
    let part = new_part c.args.program.now c.nodes.ensures.program c.args.node c.args.depth c.in-New.cell c.in-New.body (found ∙ ap Some c.in-New.is) in
    let here : Local = record { cell = c.in-New.cell; node = c.args.node; births = c.args.depth + 1 } in
    let inner : List Local = news_of c.in-New.body (c.args.depth + 1) (agent_at c.args.program.now.nodes c.in-New.body) in
    if_ok (λ _. c.add_news-in-New.new.news.items ≡ c.push.new.self.items ++ inner) (λ _. c.add_news-in-New.new.news.items ≡ c.args.news.now.items ++ news_of c.args.node c.args.depth (agent_at c.args.program.now.nodes c.args.node)) c.add_news-in-New.result
    (λ _ h.
    h ∙ ap (λ (xs : List Local). xs ++ inner) c.in_ok-push-in-New.ensures.items
    ∙ append_assoc c.args.news.now.items (here ∷ []) inner
    ∙ ap (λ (k : ℕ). c.args.news.now.items ++ (record { cell = c.in-New.cell; node = c.args.node; births = k } ∷ news_of c.in-New.body k (agent_at c.args.program.now.nodes c.in-New.body))) (let e : c.args.depth + 1 ≡ suc c.args.depth = omega arith in e)
    ∙ ap (λ (xs : List Local). c.args.news.now.items ++ xs) part.news)
    c.add_news-in-New.ensures

pub returns-in-Skip : goal.returns-in-Skip
returns-in-Skip t c =
    let found = node_found c.args.program.now c.nodes.result.now c.args.node c.index-nodes-node.result c.nodes.ensures.all c.requires.inside c.index-nodes-node.is in
    sym (append-nil c.args.news.now.items) ∙ ap (λ (xs : List Local). c.args.news.now.items ++ xs) (sym (no_news c.args.program.now c.nodes.ensures.program c.args.node c.index-nodes-node.result c.args.depth found c.in-Skip.is))

pub returns-in-Skip-2 : goal.returns-in-Skip-2
returns-in-Skip-2 t c =
    let found = node_found c.args.program.now c.nodes.result.now c.args.node c.index-nodes-node.result c.nodes.ensures.all c.requires.inside c.index-nodes-node.is in
    sym (append-nil c.args.news.now.items) ∙ ap (λ (xs : List Local). c.args.news.now.items ++ xs) (sym (no_news c.args.program.now c.nodes.ensures.program c.args.node c.index-nodes-node.result c.args.depth found c.in-Skip.is))

pub returns-in-Then : goal.returns-in-Then
returns-in-Then t c =
    let found = node_found c.args.program.now c.nodes.result.now c.args.node c.index-nodes-node.result c.nodes.ensures.all c.requires.inside c.index-nodes-node.is in
    let part = only_part c.args.program.now c.nodes.ensures.program c.args.node c.index-nodes-node.result c.args.depth c.in-Then.body found c.in-Then.is in
    if_ok (λ _. c.add_news-in-Then.new.news.items ≡ c.args.news.now.items ++ news_of c.in-Then.body c.args.depth (agent_at c.args.program.now.nodes c.in-Then.body))
    (λ _. c.add_news-in-Then.new.news.items ≡ c.args.news.now.items ++ news_of c.args.node c.args.depth (agent_at c.args.program.now.nodes c.args.node)) c.add_news-in-Then.result
    (λ _ h. h ∙ ap (λ (xs : List Local). c.args.news.now.items ++ xs) part.news) c.add_news-in-Then.ensures
