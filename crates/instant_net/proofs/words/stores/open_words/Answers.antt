use Rattle.std.proofs.Common.{◌≡◌, ◌+◌, drop, sym, ap, ◌∙◌, subst, arith}
use Rattle.std.proofs.lemmas.List.{drop_all}
use Rattle.token_system.specs.declared.cell.Cell.{Cell}
use Rattle.token_system.specs.declared.cell.Value.{Value}
use Rattle.token_system.specs.declared.name.CellName.{CellName}
use Rattle.token_system.specs.Stores.{StoreMap, value_at}
use Rattle.token_system.specs.Values.{value_tokens, IsValueOf}
use Rattle.instant_net.specs.declared.parts.NetCell.{NetCell}
use Rattle.instant_net.specs.Words.{store_in, store_words, tell_store, tell_tokens}
use Rattle.instant_net.proofs.KeptValues.{place_read}
use Rattle.instant_net.proofs.Openings.{has_values, opened-store, drop-found}
use Rattle.instant_net.proofs.words.stores.open_words.Goals as goal

-- the value that is read at a place of the cells
value_read : (s : StoreMap) (x : NetCell) (name : CellName) (cell : Cell) (v : Value) → v ≡ value_at s name cell → x.name ≡ name → x.cell ≡ cell → v ≡ value_at s x.name x.cell
value_read s x name cell v e n c = e ∙ ap (λ y. value_at s y cell) (sym n) ∙ ap (value_at s x.name) (sym c)

pub tell_value-requires-clause-value : goal.tell_value-requires-clause-value
tell_value-requires-clause-value c =
    let r = place_read c.args.net.now.cells c.loop-place.place c.cell_name.result.now c.cell.result c.cell_name.ensures c.cell.ensures.cell in (
      r.found,
      r.at,
      subst (IsValueOf r.found.cell) (sym (value_read c.args.input.now r.found c.cell_name.result.now c.cell.result c.value_of-value.result c.value_of-value.ensures r.same_name r.same_cell))
          (has_values c.args.net.now.cells c.cell.ensures.net.of.cells.order c.args.input.now c.requires c.loop-place.place r.found r.at),
    )

pub loop-place-preserved : goal.loop-place-preserved
loop-place-preserved c =
    let r = place_read c.args.net.now.cells c.loop-place.place c.cell_name.result.now c.cell.result c.cell_name.ensures c.cell.ensures.cell in
    let value = value_read c.args.input.now r.found c.cell_name.result.now c.cell.result c.value_of-value.result c.value_of-value.ensures r.same_name r.same_cell in
    record {
      told = ap (tell_store c.args.input.now (drop (c.loop-place.place + 1) c.args.net.now.cells))
          (c.tell_value.ensures.told r.found r.at ∙ ap (λ v. tell_tokens r.found (value_tokens v) c.loop-place.words) value)
          ∙ sym (ap (λ xs. tell_store c.args.input.now xs c.loop-place.words) (drop-found c.args.net.now.cells c.loop-place.place r.found r.at))
          ∙ c.loop-place.invariant.told;
      words = c.tell_value.ensures.words;
    }

pub returns : goal.returns
returns c =
    let count = c.cells-place-end.ensures.count in
    let past = c.loop-place-test.false in
    let cells = c.cells-place-end.ensures.net.of.cells in
    let all : c.loop-place.words ≡ store_words c.args.net.now.cells c.args.input.now =
    sym (ap (λ xs. tell_store c.args.input.now xs c.loop-place.words) (drop_all c.loop-place.place c.args.net.now.cells (omega arith))) ∙ c.loop-place.invariant.told in
    record {
      told = all;
      words = c.loop-place.invariant.words;
      store = ap (store_in c.args.net.now.cells) all ∙ opened-store c.args.net.now.cells cells.order c.args.input.now c.requires cells.laid_out;
    }
