use Rattle.std.proofs.Common.{rules}
use Rattle.std.proofs.lemmas.Fn.{always_returns_same}
use Rattle.token_system.specs.declared.name.CellName.{CellName}
use Rattle.token_system.specs.declared.name.CellName.TheVariants.{Local as LocalName}
use Rattle.token_system.specs.Names.{name_cmp}
use Rattle.instant_net.proofs.CellPlaces.{has-place, place-found, cannot_miss}
use Rattle.instant_net.proofs.walking.place_of.Goals as goal

pub unreachable-requires : goal.unreachable-requires
unreachable-requires c =
    let name : CellName = LocalName c.args.node c.args.births.now in
    let at = has-place c.args.cells.now name c.requires.there in
    let by_name = c.in-Err.ensures.position (λ x. name_cmp x.name name) (always_returns_same _ _ _ (λ a r f called. search rules)) in
    cannot_miss c.args.cells.now c.requires.order name at.0 at.1 c.in-Err.field-0 by_name

pub returns : goal.returns
returns c =
    let name : CellName = LocalName c.args.node c.args.births.now in
    let by_name = c.in-Ok.ensures.position (λ x. name_cmp x.name name) (always_returns_same _ _ _ (λ a r f called. search rules)) in
    place-found c.args.cells.now name c.in-Ok.place c.in-Ok.ensures.bound by_name
