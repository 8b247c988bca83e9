use Rattle.std.proofs.Common.{◌≡◌, List, subst, arith, take}
use Rattle.std.specs.Prelude.{IfOk}
use Rattle.std.proofs.lemmas.List.{take_all}
use Rattle.instant_net.specs.declared.parts.NetCell.{NetCell}
use Rattle.instant_net.specs.Words.{store_in}
use Rattle.instant_net.proofs.words.stores.words_store.Goals as goal

pub returns : goal.returns
returns c =
    let count = c.cells.ensures.count in
    let all : take c.cells.result c.args.net.now.cells ≡ c.args.net.now.cells = take_all c.cells.result c.args.net.now.cells (omega arith) in
    subst (λ (cells : List NetCell). IfOk c.declared_store.result (λ store. store ≡ store_in cells c.args.words.now)) all c.declared_store.ensures
