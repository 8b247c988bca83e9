use Rattle.std.proofs.Common.{◌≡◌, ◌+◌, ◌<◌, ◌≤◌, ℕ, Some, List, refl, sym, ap, ◌∙◌, subst, arith, ◌⊎◌, inl, inr, length}
use Rattle.std.specs.Prelude.{slice_get}
use Rattle.std.proofs.lemmas.Bool.{cases_eq}
use Rattle.std.proofs.lemmas.Option.{slice_get_within}
use Rattle.instant_net.specs.declared.parts.NetCell.{NetCell}
use Rattle.instant_net.specs.Readers.{stratum_of}
use Rattle.instant_net.specs.PartLists.{part_stratum, parts}
use Rattle.instant_net.specs.Nets.{Flat}
use Rattle.instant_net.proofs.PartOwners.{owner, owned}
use Rattle.instant_net.proofs.WordPlaces.{read_found, width}
use Rattle.instant_net.proofs.net.Net.part_stratum.Goals as goal
use Rattle.instant_net.proofs.net.Net.part_stratum.Goals.{else-first-part-via-then-first-part+else-part-first, else-first-part-via-else-first-part}

-- no cell before this place has the part
abbrev NoneHas : ℕ → List NetCell → ℕ → Type 0
NoneHas part cells place = (k : ℕ) (c : NetCell) → k < place → slice_get cells k ≡ Some c → c.first ≤ part → part < c.first + width c → ⊥

none_more : (part : ℕ) (cells : List NetCell) (place : ℕ) (d : NetCell) → NoneHas part cells place → slice_get cells place ≡ Some d → (d.first ≤ part → part < d.first + width d → ⊥) → NoneHas part cells (place + 1)
none_more part cells place d none at not k c h e low high = go (cases_eq k place)
  where
    go : (k ≡ place) ⊎ (k ≡ place → ⊥) → ⊥
    go (inl same) =
        let one : Some d ≡ Some c = sym at ∙ sym (ap (slice_get cells) same) ∙ e in
        let cell : d ≡ c = cc in
        not (subst (λ (x : NetCell). x.first ≤ part) (sym cell) low) (subst (λ (x : NetCell). part < x.first + width x) (sym cell) high)
    go (inr other) = none k c (omega arith) e low high

pub returns-then-part-first : goal.returns-then-part-first
returns-then-part-first c =
    let within = subst (λ (n : Flat). c.args.part < parts n.cells) (sym c.self.view_is) c.requires in
    let at = read_found c.self.inside.cells.items c.as_slice-cell-items.result.now c.loop-cell.cell-index c.cell-item.result c.as_slice-cell-items.ensures.value
    (subst (λ (xs : List NetCell). c.loop-cell.cell-index < length xs) c.as_slice-cell-items.ensures.value c.loop-cell-test.true) c.cell-item.is in
    let low = c.if-first-part.true in
    let high = c.if-part-first.true in
    let wide = c.width.ensures in
    sym (ap stratum_of (owned c.self.inside.cells.items c.self.invariant.of.cells.laid_out c.args.part c.loop-cell.cell-index c.cell-item.result within at low (omega arith)))
    ∙ ap (λ (n : Flat). part_stratum n.cells c.args.part) c.self.view_is

pub loop-cell-preserved : goal.loop-cell-preserved
loop-cell-preserved c =
    let at = read_found c.as_slice-cell-items.result.now c.as_slice-cell-items.result.now c.loop-cell.cell-index c.cell-item.result refl c.loop-cell-test.true c.cell-item.is in
    none_more c.args.part c.as_slice-cell-items.result.now c.loop-cell.cell-index c.cell-item.result c.loop-cell.invariant at (λ low high. elim c.else-first-part.branch [
      | else-first-part-via-then-first-part+else-part-first w ↦ (let past = w.if-part-first.false in let wide = w.width.ensures in omega arith)
      | else-first-part-via-else-first-part w ↦ (let past = w.if-first-part.false in omega arith)
    ])

pub returns : goal.returns
returns c =
    let within = subst (λ (n : Flat). c.args.part < parts n.cells) (sym c.self.view_is) c.requires in
    let o = owner c.self.inside.cells.items c.self.invariant.of.cells.laid_out c.args.part within in
    let at : slice_get c.as_slice-cell-items.result.now o.place ≡ Some o.cell = ap (λ (xs : List NetCell). slice_get xs o.place) c.as_slice-cell-items.ensures.value ∙ o.at in
    let there = slice_get_within c.as_slice-cell-items.result.now o.place o.cell at in
    let past = c.loop-cell-test.false in
    absurd (c.loop-cell.invariant o.place o.cell (omega arith) at o.low o.high)
