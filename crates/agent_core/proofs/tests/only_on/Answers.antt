use Rattle.std.proofs.Common.{◌≡◌, List, get_or, sym, ap, ◌∙◌, subst}
use Rattle.std.proofs.lemmas.Option.{get_or_from_slice_get}
use Rattle.token_system.specs.declared.cell.Kind.{Kind}
use Rattle.token_system.specs.declared.cell.Token.TheVariants.{On}
use Rattle.token_system.specs.Tokens.{Fits, fits_kind}
use Rattle.agent_core.specs.declared.node.CellDecl.{CellDecl}
use Rattle.agent_core.specs.Names.{Names}
use Rattle.agent_core.specs.Stores.{IsStore}
use Rattle.agent_core.proofs.AskTests.{can_hold}
use Rattle.agent_core.proofs.Tellings.{empty-IsStore}
use Rattle.agent_core.proofs.Told.{told-Tells}
use Rattle.agent_core.proofs.tests.only_on.Goals as goal

pub tell-requires : goal.tell-requires
tell-requires c =
    let none : IsStore c.args.program.now c.new-store.result = subst (IsStore c.args.program.now) (sym c.new-store.ensures) (empty-IsStore c.args.program.now) in
    let same : c.index-cells-0.result ≡ c.requires.0 =
    c.index-cells-0.is ∙ ap (λ (xs : List CellDecl). get_or xs 0 c.index-cells-0.result) c.cells.ensures.all
    ∙ get_or_from_slice_get c.args.program.now.cells 0 c.requires.0 c.index-cells-0.result c.requires.2 in
    let named : Names c.args.program.now c.args.name c.index-cells-0.result = subst (Names c.args.program.now c.args.name) (sym same) c.requires.1 in
    let fits : Fits c.index-cells-0.result.cell On = subst (λ (d : CellDecl). Fits d.cell On) (sym same) (ap (λ (k : Kind). fits_kind k On) c.requires.3) in
    can_hold c.args.program.now c.new-store.result c.args.name c.index-cells-0.result On none named fits

pub returns : goal.returns
returns c =
    let none : IsStore c.args.program.now c.new-store.result = subst (IsStore c.args.program.now) (sym c.new-store.ensures) (empty-IsStore c.args.program.now) in
    let same : c.index-cells-0.result ≡ c.requires.0 =
    c.index-cells-0.is ∙ ap (λ (xs : List CellDecl). get_or xs 0 c.index-cells-0.result) c.cells.ensures.all
    ∙ get_or_from_slice_get c.args.program.now.cells 0 c.requires.0 c.index-cells-0.result c.requires.2 in
    let named : Names c.args.program.now c.args.name c.index-cells-0.result = subst (Names c.args.program.now c.args.name) (sym same) c.requires.1 in
    let fits : Fits c.index-cells-0.result.cell On = subst (λ (d : CellDecl). Fits d.cell On) (sym same) (ap (λ (k : Kind). fits_kind k On) c.requires.3) in
    subst (IsStore c.args.program.now) (sym c.in_ok-tell.ensures.ok) (told-Tells c.args.program.now c.new-store.result c.args.name c.index-cells-0.result On none named fits).store
