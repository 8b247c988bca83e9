use Rattle.std.proofs.Common.{◌≡◌, ◌+◌, ◌<◌, sym, ap, ◌∙◌, subst}
use Rattle.std.specs.Prelude.{IsTrue}
use Rattle.token_system.specs.declared.cell.Kind.TheVariants.{Number}
use Rattle.token_system.specs.Tokens.{fits_kind}
use Rattle.instant_net.specs.declared.parts.NetCell.{NetCell}
use Rattle.instant_net.specs.Opened.{IsNet}
use Rattle.instant_net.specs.Words.{told_as, atom_told}
use Rattle.instant_net.proofs.WordPlaces.{index_found, next_small}
use Rattle.instant_net.proofs.net.Net.told.Goals as goal

pub told_as-requires-clause-fits : goal.told_as-requires-clause-fits
told_as-requires-clause-fits c =
    let found = index_found c.args.self.now.cells c.self.inside.cells.items c.args.atom.cell c.requires.0 c.index.result.now (ap (λ n. n.cells) c.self.view_is) c.requires.1 c.index.ensures in
    subst (λ (x : NetCell). IsTrue (fits_kind x.cell.kind c.args.atom.token)) (sym found) c.requires.2

pub told_as-requires-clause-small : goal.told_as-requires-clause-small
told_as-requires-clause-small c =
    let found = index_found c.args.self.now.cells c.self.inside.cells.items c.args.atom.cell c.requires.0 c.index.result.now (ap (λ n. n.cells) c.self.view_is) c.requires.1 c.index.ensures in
    let net = subst IsNet c.self.view_is c.self.invariant in
    subst (λ (x : NetCell). x.cell.kind ≡ Number → x.word + 1 < 4294967296) (sym found) (next_small c.args.self.now net c.args.atom.cell c.requires.0 c.requires.1)

pub returns : goal.returns
returns c =
    let found = index_found c.args.self.now.cells c.self.inside.cells.items c.args.atom.cell c.requires.0 c.index.result.now (ap (λ n. n.cells) c.self.view_is) c.requires.1 c.index.ensures in
    c.told_as.ensures ∙ ap (λ (x : NetCell). told_as x c.args.atom.token) found ∙ sym (ap (λ o. atom_told o c.args.atom.token) c.requires.1)
