use Rattle.std.proofs.Common.{sym, ap, ◌∙◌}
use Rattle.token_system.specs.Values.{value_entails}
use Rattle.instant_net.specs.Words.{store_in}
use Rattle.instant_net.proofs.NetParts.{cell_there}
use Rattle.instant_net.proofs.AskWalks.{entails_one, of_one_kind}
use Rattle.instant_net.proofs.words.reading.has.Goals as goal

pub value-requires-clause-cell : goal.value-requires-clause-cell
value-requires-clause-cell c = cell_there c.args.net.now.cells c.args.atom c.requires.fits

pub entails-requires : goal.entails-requires
entails-requires c =
    let is = c.value.ensures.of_cell c.requires.fits.0 c.requires.fits.1 in
    record { kinds = of_one_kind c.args.net.now.cells c.args.atom c.value.result c.requires.fits is; proper = is.proper }

pub returns : goal.returns
returns c =
    c.entails.ensures.value ∙ ap (λ v. value_entails v c.args.atom.token) (c.value.ensures.in_store c.requires.fits.0 c.requires.fits.1)
    ∙ sym (entails_one c.args.net.now.cells (store_in c.args.net.now.cells c.args.words.now) c.args.atom c.requires.fits)
