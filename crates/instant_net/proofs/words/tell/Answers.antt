use Rattle.std.proofs.Common.{◌≡◌, ◌∷◌, ◌+◌, ◌<◌, length, get_or, drop, sym, ap, ◌∙◌, subst, add-one, drop-cons}
use Rattle.std.specs.Prelude.{slice_get}
use Rattle.std.proofs.lemmas.List.{drop_all}
use Rattle.token_system.specs.declared.cell.Token.TheVariants.{On}
use Rattle.instant_net.specs.declared.words.Told.{Told}
use Rattle.instant_net.specs.Readers.{leaf_tells_of}
use Rattle.instant_net.specs.Words.{AreWords, store_in, tell_atoms, tell_word, told_of}
use Rattle.instant_net.proofs.NetParts.{tells_fit, atom_read}
use Rattle.instant_net.proofs.TokenTells.{told_in_range, atom-AreWords, all_told}
use Rattle.instant_net.proofs.words.tell.Goals as goal

pub told-requires : goal.told-requires
told-requires c =
    atom_read c.args.net.now.cells _ c.tells-atom-items.result.now c.loop-atom.atom-index (record { cell = 0; token = On }) (tells_fit c.args.net.now c.tells-atom-items.ensures.net c.args.leaf) c.tells-atom-items.ensures.tells c.loop-atom-test.true

pub take-requires : goal.take-requires
take-requires c =
    let cells = c.tells-atom-items.ensures.net.of.cells in
    let fit = atom_read c.args.net.now.cells (leaf_tells_of (slice_get c.args.net.now.leaves c.args.leaf)) c.tells-atom-items.result.now c.loop-atom.atom-index (record { cell = 0; token = On }) (tells_fit c.args.net.now c.tells-atom-items.ensures.net c.args.leaf) c.tells-atom-items.ensures.tells c.loop-atom-test.true in
    subst (λ (t : Told). t.word < length c.loop-atom.words) (sym c.told.ensures)
    (told_in_range c.args.net.now.cells cells.laid_out cells.order c.loop-atom.words c.loop-atom.invariant.words (get_or c.tells-atom-items.result.now c.loop-atom.atom-index (record { cell = 0; token = On })) fit)

pub loop-atom-preserved : goal.loop-atom-preserved
loop-atom-preserved c =
    let cells = c.tells-atom-items.ensures.net.of.cells in
    let fit = atom_read c.args.net.now.cells (leaf_tells_of (slice_get c.args.net.now.leaves c.args.leaf)) c.tells-atom-items.result.now c.loop-atom.atom-index (record { cell = 0; token = On }) (tells_fit c.args.net.now c.tells-atom-items.ensures.net c.args.leaf) c.tells-atom-items.ensures.tells c.loop-atom-test.true in
    let step : c.take.new.self ≡ tell_word c.loop-atom.words (told_of c.args.net.now.cells (get_or c.tells-atom-items.result.now c.loop-atom.atom-index (record { cell = 0; token = On }))) = c.take.ensures ∙ ap (tell_word c.loop-atom.words) c.told.ensures in
    let front = drop-cons c.tells-atom-items.result.now c.loop-atom.atom-index (record { cell = 0; token = On }) c.loop-atom-test.true
    ∙ ap (λ n. get_or c.tells-atom-items.result.now c.loop-atom.atom-index (record { cell = 0; token = On }) ∷ drop n c.tells-atom-items.result.now) (sym (add-one c.loop-atom.atom-index)) in
    record {
      told = ap (tell_atoms c.args.net.now.cells (drop (c.loop-atom.atom-index + 1) c.tells-atom-items.result.now)) step
          ∙ sym (ap (λ xs. tell_atoms c.args.net.now.cells xs c.loop-atom.words) front)
          ∙ c.loop-atom.invariant.told;
      words = subst (AreWords c.args.net.now.cells) (sym step)
          (atom-AreWords c.args.net.now.cells cells.laid_out cells.order c.loop-atom.words c.loop-atom.invariant.words (get_or c.tells-atom-items.result.now c.loop-atom.atom-index (record { cell = 0; token = On })) fit);
    }

pub returns : goal.returns
returns c =
    let cells = c.tells-atom-items.ensures.net.of.cells in
    let told : c.loop-atom.words ≡ tell_atoms c.args.net.now.cells (leaf_tells_of (slice_get c.args.net.now.leaves c.args.leaf)) c.args.words.now =
    sym (ap (λ xs. tell_atoms c.args.net.now.cells xs c.loop-atom.words) (drop_all c.loop-atom.atom-index c.tells-atom-items.result.now c.loop-atom-test.false))
    ∙ c.loop-atom.invariant.told ∙ ap (λ xs. tell_atoms c.args.net.now.cells xs c.args.words.now) c.tells-atom-items.ensures.tells in
    record {
      told = told;
      words = c.loop-atom.invariant.words;
      store = ap (store_in c.args.net.now.cells) told
          ∙ (all_told c.args.net.now.cells cells.laid_out cells.order (leaf_tells_of (slice_get c.args.net.now.leaves c.args.leaf)) (tells_fit c.args.net.now c.tells-atom-items.ensures.net c.args.leaf) c.args.words.now c.requires.words).1;
    }
