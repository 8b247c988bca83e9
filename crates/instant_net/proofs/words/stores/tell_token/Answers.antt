use Rattle.std.proofs.Common.{◌<◌, length, sym, ap, ◌∙◌, subst}
use Rattle.instant_net.specs.declared.words.Told.{Told}
use Rattle.instant_net.specs.Words.{tell_word, atom_told, AreWords}
use Rattle.instant_net.proofs.TokenTells.{told_in_range, atom-AreWords}
use Rattle.instant_net.proofs.words.stores.tell_token.Goals as goal

pub take-requires : goal.take-requires
take-requires c =
    let cells = c.requires.net.of.cells in
    subst (λ (t : Told). t.word < length c.args.words.now) (sym c.told.ensures) (told_in_range c.args.net.now.cells cells.laid_out cells.order c.args.words.now c.requires.words (record { cell = c.args.cell; token = c.args.token }) c.requires.fits)

pub returns-clause-told : goal.returns-clause-told
returns-clause-told c = λ x at. c.take.ensures ∙ ap (tell_word c.args.words.now) (c.told.ensures ∙ ap (λ o. atom_told o c.args.token) at)

pub returns-clause-words : goal.returns-clause-words
returns-clause-words c =
    let cells = c.requires.net.of.cells in
    subst (AreWords c.args.net.now.cells) (sym (c.take.ensures ∙ ap (tell_word c.args.words.now) c.told.ensures))
    (atom-AreWords c.args.net.now.cells cells.laid_out cells.order c.args.words.now c.requires.words (record { cell = c.args.cell; token = c.args.token }) c.requires.fits)
