use Rattle.std.proofs.Common.{◌≡◌, ◌++◌, ℕ, List, sym, ap, ◌∙◌, subst, arith, take, append_assoc}
use Rattle.std.specs.Prelude.{replicate}
use Rattle.std.proofs.lemmas.List.{take_all}
use Rattle.token_system.specs.declared.cell.Cell.{Cell}
use Rattle.instant_net.specs.declared.parts.NetCell.{NetCell}
use Rattle.instant_net.specs.WordParts.{signal_words}
use Rattle.instant_net.specs.Words.{signals, empty_words, own_unknown, AreWords}
use Rattle.instant_net.proofs.KeptValues.{cell_read}
use Rattle.instant_net.proofs.WordPlaces.{other_empty}
use Rattle.instant_net.proofs.Openings.{empty-AreWords, other_empty-more}
use Rattle.instant_net.proofs.words.stores.untold.Goals as goal

pub loop-place-preserved : goal.loop-place-preserved
loop-place-preserved c =
    let r = cell_read c.args.net.now.cells c.loop-place.place c.cell.result c.cell.ensures.cell in
    let zeros : List ℕ = replicate (signal_words (signals c.args.net.now.cells)) 0 in
    c.in_ok-push_own.ensures
    ∙ ap (λ ws. ws ++ own_unknown c.cell.result.kind c.cell.result.lo c.cell.result.hi) c.loop-place.invariant
    ∙ ap (λ (x : Cell). (zeros ++ other_empty (take c.loop-place.place c.args.net.now.cells)) ++ own_unknown x.kind x.lo x.hi) (sym r.2)
    ∙ append_assoc zeros (other_empty (take c.loop-place.place c.args.net.now.cells)) (own_unknown r.0.cell.kind r.0.cell.lo r.0.cell.hi)
    ∙ ap (λ ws. zeros ++ ws) (sym (other_empty-more c.args.net.now.cells c.loop-place.place r.0 r.1))

all_told : (cells : List NetCell) (k : ℕ) (items : List ℕ) → items ≡ replicate (signal_words (signals cells)) 0 ++ other_empty (take k cells) → take k cells ≡ cells → items ≡ empty_words cells
all_told cells k items e all = e ∙ ap (λ xs. replicate (signal_words (signals cells)) 0 ++ other_empty xs) all

pub returns-clause-told : goal.returns-clause-told
returns-clause-told c =
    let count = c.cells-place-end.ensures.count in
    let past = c.loop-place-test.false in
    all_told c.args.net.now.cells c.loop-place.place c.loop-place.list.items c.loop-place.invariant (take_all c.loop-place.place c.args.net.now.cells (omega arith))

pub returns-clause-words : goal.returns-clause-words
returns-clause-words c =
    let count = c.cells-place-end.ensures.count in
    let past = c.loop-place-test.false in
    subst (AreWords c.args.net.now.cells)
    (sym (all_told c.args.net.now.cells c.loop-place.place c.loop-place.list.items c.loop-place.invariant (take_all c.loop-place.place c.args.net.now.cells (omega arith))))
    (empty-AreWords c.args.net.now.cells)
