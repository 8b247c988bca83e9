use Rattle.std.proofs.Common.{◌≡◌, None, sym, ap, ◌∙◌, subst, arith, take}
use Rattle.std.specs.FinMap.{get}
use Rattle.token_system.specs.declared.cell.Cell.{Cell}
use Rattle.token_system.specs.declared.name.CellName.{CellName}
use Rattle.token_system.specs.Stores.{StoreMap, stored}
use Rattle.token_system.specs.Values.{IsValueOf}
use Rattle.instant_net.specs.Words.{store_in}
use Rattle.instant_net.proofs.KeptValues.{place_read, store_in-more}
use Rattle.instant_net.proofs.words.stores.declared_store.Goals as goal

pub keep-requires : goal.keep-requires
keep-requires c =
    let r = place_read c.args.net.now.cells c.loop-place.place c.cell_name.result.now c.cell.result c.cell_name.ensures c.cell.ensures.cell in
    (c.value.ensures.of_cell r.found r.at).proper

pub loop-place-preserved : goal.loop-place-preserved
loop-place-preserved c =
    let r = place_read c.args.net.now.cells c.loop-place.place c.cell_name.result.now c.cell.result c.cell_name.ensures c.cell.ensures.cell in
    let before : StoreMap = store_in (take c.loop-place.place c.args.net.now.cells) c.args.words.now in
    c.in_ok-keep.ensures.ok
    ∙ ap (λ s. stored s c.in_ok-name.name c.cell.result c.value.result) c.loop-place.invariant
    ∙ ap (λ n. stored before n c.cell.result c.value.result) (c.in_ok-name.ensures ∙ sym r.same_name)
    ∙ ap (λ x. stored before r.found.name x c.value.result) (sym r.same_cell)
    ∙ ap (stored before r.found.name r.found.cell) (c.value.ensures.value r.found r.at)
    ∙ sym (store_in-more c.args.net.now.cells c.args.words.now c.cell.ensures.net.of.cells.order c.loop-place.place r.found r.at)

pub returns : goal.returns
returns c =
    let past = c.loop-place-test.false in
    let within = c.loop-place.auto.place-end in
    let all : c.loop-place.place ≡ c.args.cells = omega arith in
    c.loop-place.invariant ∙ ap (λ place. store_in (take place c.args.net.now.cells) c.args.words.now) all
