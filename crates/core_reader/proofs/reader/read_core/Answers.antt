use Rattle.std.proofs.Common.{◌≡◌, sym, ◌∙◌, arith, subst}
use Rattle.agent_core.specs.Programs.{CoreProgram}
use Rattle.tdcc_reader.specs.declared.fault.ReadFault.TheVariants as fault
use Rattle.tdcc_reader.specs.ParsedTexts.{surface_of}
use Rattle.tdcc_reader.proofs.Options.{err_to}
use Rattle.core_reader.specs.Readings.{AcceptsCore, IsCoreOf}
use Rattle.core_reader.proofs.CorePrograms.{forms_many, cells_many, surface_core, made_core, core_is_program}
use Rattle.core_reader.proofs.reader.read_core.Goals as goal

pub returns-in_err-parts-clause-complete : goal.returns-in_err-parts-clause-complete
returns-in_err-parts-clause-complete c = λ phrase accepts.
    let is = c.in_err-parts.ensures.complete phrase accepts.accepts in
    err_to c.from_residual.result (IsCoreOf phrase) _ (λ e. e ≡ fault.Memory) c.from_residual.ensures.1 (λ e h. h ∙ is)

pub returns-then-len-gt-MAX_NODES-clause-fault : goal.returns-then-len-gt-MAX_NODES-clause-fault
returns-then-len-gt-MAX_NODES-clause-fault c =
    let (phrase, accepts, is) = c.in_ok-parts.ensures.found in
    let many = forms_many phrase (surface_of c.in_ok-parts.parts) is in
    let h = c.if-len-gt-MAX_NODES.true in
    (phrase, accepts, omega (arith, c.len.ensures))

pub returns-then-len-gt-MAX_NODES-clause-complete : goal.returns-then-len-gt-MAX_NODES-clause-complete
returns-then-len-gt-MAX_NODES-clause-complete c = λ phrase accepts.
    let many = forms_many phrase (surface_of c.in_ok-parts.parts) (c.in_ok-parts.ensures.complete phrase accepts.accepts) in
    let few = accepts.few_nodes in
    let h = c.if-len-gt-MAX_NODES.true in
    absurd (omega (arith, c.len.ensures))

pub returns-then-len-gt-MAX_CELLS-clause-fault : goal.returns-then-len-gt-MAX_CELLS-clause-fault
returns-then-len-gt-MAX_CELLS-clause-fault c =
    let (phrase, accepts, is) = c.in_ok-parts.ensures.found in
    let nodes = forms_many phrase (surface_of c.in_ok-parts.parts) is in
    let cells = cells_many phrase (surface_of c.in_ok-parts.parts) is in
    let few = c.if-len-gt-MAX_NODES.false in
    let h = c.if-len-gt-MAX_CELLS.true in
    (phrase, accepts, omega (arith, c.len.ensures), omega (arith, c.len-2.ensures))

pub nodes_of-requires : goal.nodes_of-requires
nodes_of-requires c =
    let (phrase, accepts, is) = c.in_ok-parts.ensures.found in
    surface_core c.args.text.now phrase (surface_of c.in_ok-parts.parts) accepts is

pub unreachable-requires : goal.unreachable-requires
unreachable-requires c =
    let (phrase, accepts, is) = c.in_ok-parts.ensures.found in
    let nodes = forms_many phrase (surface_of c.in_ok-parts.parts) is in
    let cells = cells_many phrase (surface_of c.in_ok-parts.parts) is in
    let few_nodes = c.if-len-gt-MAX_NODES.false in
    let few_cells = c.if-len-gt-MAX_CELLS.false in
    let all : AcceptsCore c.args.text.now phrase = record { accepts = accepts; few_nodes = omega (arith, c.len.ensures); few_cells = omega (arith, c.len-2.ensures) } in
    let p : CoreProgram = record { cells = c.in_ok-parts.parts.cells.items; declared = c.in_ok-parts.parts.declared; nodes = c.in_ok-nodes.nodes.items } in
    let made : IsCoreOf phrase p = made_core c.args.text.now phrase (surface_of c.in_ok-parts.parts) c.in_ok-nodes.nodes.items accepts is c.in_ok-nodes.ensures in
    let h = c.in-None.ensures.exactly.1 (core_is_program c.args.text.now phrase p all made) in
    absurd (cc h)

pub returns-clause-found : goal.returns-clause-found
returns-clause-found c =
    let (phrase, accepts, is) = c.in_ok-parts.ensures.found in
    let nodes = forms_many phrase (surface_of c.in_ok-parts.parts) is in
    let cells = cells_many phrase (surface_of c.in_ok-parts.parts) is in
    let few_nodes = c.if-len-gt-MAX_NODES.false in
    let few_cells = c.if-len-gt-MAX_CELLS.false in (
      phrase,
      record { accepts = accepts; few_nodes = omega (arith, c.len.ensures); few_cells = omega (arith, c.len-2.ensures) },
      subst (IsCoreOf phrase) (sym c.in-Some.ensures.same) (made_core c.args.text.now phrase (surface_of c.in_ok-parts.parts) c.in_ok-nodes.nodes.items accepts is c.in_ok-nodes.ensures),
    )

pub returns-clause-complete : goal.returns-clause-complete
returns-clause-complete c = λ phrase accepts.
    subst (IsCoreOf phrase) (sym c.in-Some.ensures.same)
    (made_core c.args.text.now phrase (surface_of c.in_ok-parts.parts) c.in_ok-nodes.nodes.items accepts.accepts (c.in_ok-parts.ensures.complete phrase accepts.accepts) c.in_ok-nodes.ensures)
