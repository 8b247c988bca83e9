use Rattle.std.proofs.Common.{◌≡◌, ℕ, List, [], ◌++◌, false, true, length, take, ap, ◌∙◌, arith}
use Rattle.std.specs.Prelude.{reverse}
use Rattle.agent_core.specs.declared.node.CellDecl.{CellDecl}
use Rattle.expansion_laws.specs.Expanding.{symbolic_of}
use Rattle.expansion_laws.specs.SymbolicAgents.{symbolic_size}
use Rattle.expansion_laws.specs.Numbering.{bound_agent, cells_from}
use Rattle.derived_forms.specs.FlatNodes.{flat_nodes}
use Rattle.derived_forms.proofs.Expanded.{Expands, cells_few, drawn, expansion_made, emitted_many, its_forms, its_program, its_symbolic, its_tree, local_few, nodes_few, symbolic_large}
use Rattle.derived_forms.proofs.expansion.core_program.Goals as goal

pub returns-then-forms-gt-MAX_NODES-clause-fault : goal.returns-then-forms-gt-MAX_NODES-clause-fault
returns-then-forms-gt-MAX_NODES-clause-fault c =
    let is = c.forms-forms.ensures.surface in
    (its_symbolic c.args.surface.now is, drawn c.args.surface.now is, symbolic_large c.args.surface.now is (let many = c.if-forms-gt-MAX_NODES.true in let same = ap length c.forms-forms.ensures.all in omega arith))

pub returns-then-forms-gt-MAX_NODES-clause-complete : goal.returns-then-forms-gt-MAX_NODES-clause-complete
returns-then-forms-gt-MAX_NODES-clause-complete c = λ d symbolic few cells.
    let is = c.forms-forms.ensures.surface in
    let same = ap symbolic_size (c.sizes_law.ensures.one c.args.surface.now d (its_symbolic c.args.surface.now is) symbolic (drawn c.args.surface.now is)) in
    let large = symbolic_large c.args.surface.now is (let many = c.if-forms-gt-MAX_NODES.true in let e = ap length c.forms-forms.ensures.all in omega arith) in
    absurd (omega arith)

pub overflow_cast-cells : goal.overflow_cast-cells
overflow_cast-cells c =
    let few = cells_few c.args.surface.now c.forms-forms.ensures.surface (let within = c.if-forms-gt-MAX_NODES.false in let e = ap length c.forms-forms.ensures.all in omega arith) in
    let same = ap length c.cells-cells.ensures.all in
    omega arith

pub emit-requires : goal.emit-requires
emit-requires c =
    let few = cells_few c.args.surface.now c.forms-forms.ensures.surface (let within = c.if-forms-gt-MAX_NODES.false in let e = ap length c.forms-forms.ensures.all in omega arith) in
    let same = ap length c.cells-cells.ensures.all in
    let within = c.if-forms-gt-MAX_NODES.false in
    omega arith

pub returns-then-declared-len-gt-MAX_CELLS-clause-fault : goal.returns-then-declared-len-gt-MAX_CELLS-clause-fault
returns-then-declared-len-gt-MAX_CELLS-clause-fault c =
    let is = c.forms-forms.ensures.surface in
    let d = its_symbolic c.args.surface.now is in
    let emitted = c.in_ok-emitted.ensures.emitted (its_tree c.args.surface.now is) (c.forms-forms.ensures.all ∙ its_forms c.args.surface.now is) ∙ ap (λ (k : ℕ). flat_nodes (symbolic_of k 0 (its_tree c.args.surface.now is))) (ap length c.cells-cells.ensures.all) in
    let many = emitted_many c.in_ok-emitted.emitted.items d emitted in
    let room = c.in_ok-emitted.ensures.room in
    let news = ap length (c.in_ok-binders.ensures.binders d (ap reverse c.deref.ensures.value ∙ emitted)) in
    let long = c.len.ensures in
    let declared = c.declared-declared.ensures.number in
    let over = c.if-declared-len-gt-MAX_CELLS.true in
    (d, drawn c.args.surface.now is, omega arith, omega arith)

pub unreachable-requires : goal.unreachable-requires
unreachable-requires c =
    let x : Expands c.args.surface.now c.in_ok-emitted.emitted.items c.in_ok-binders.binders.items c.in_ok-cells.cells.items c.declared-declared.result c.in_ok-nodes.nodes.items = record {
      surface = c.forms-forms.ensures.surface;
      emitted_is = λ t e. c.in_ok-emitted.ensures.emitted t (c.forms-forms.ensures.all ∙ e) ∙ ap (λ (k : ℕ). flat_nodes (symbolic_of k 0 t)) (ap length c.cells-cells.ensures.all);
      binders_are = λ d e. c.in_ok-binders.ensures.binders d (ap reverse c.deref.ensures.value ∙ e);
      nodes_are = λ d e. c.in_ok-nodes.ensures (bound_agent [] c.declared-declared.result d) (c.in_ok-place_cells.ensures.placed d e);
      cells_are = c.in_ok-cells.ensures
          ∙ ap (λ (xs : List CellDecl). take c.declared-declared.result xs ++ cells_from xs c.declared-declared.result c.deref-2.result.now) c.cells-cells.ensures.all
          ∙ ap (λ (ms : List ℕ). take c.declared-declared.result c.args.surface.now.cells ++ cells_from c.args.surface.now.cells c.declared-declared.result ms) c.deref-2.ensures.value;
      declared_is = c.declared-declared.ensures.number;
      room = c.in_ok-emitted.ensures.room;
      few = (let many = c.len.ensures in let within = c.if-declared-len-gt-MAX_CELLS.false in omega arith);
    } in
    let few_nodes = nodes_few c.args.surface.now c.in_ok-emitted.emitted.items c.in_ok-binders.binders.items c.in_ok-cells.cells.items c.declared-declared.result c.in_ok-nodes.nodes.items x (c.sizes_law.ensures.nodes c.args.surface.now) in
    let few_cells = local_few c.args.surface.now c.in_ok-emitted.emitted.items c.in_ok-binders.binders.items c.in_ok-cells.cells.items c.declared-declared.result c.in_ok-nodes.nodes.items x (λ d p made. c.sizes_law.ensures.cells c.args.surface.now d p c.forms-forms.ensures.surface made) in
    let none : false ≡ true = c.in-None.ensures.exactly.1 (c.expansion_law.ensures.program c.args.surface.now (its_program c.args.surface.now c.in_ok-emitted.emitted.items c.in_ok-binders.binders.items c.in_ok-cells.cells.items c.declared-declared.result c.in_ok-nodes.nodes.items x) c.forms-forms.ensures.surface (expansion_made c.args.surface.now c.in_ok-emitted.emitted.items c.in_ok-binders.binders.items c.in_ok-cells.cells.items c.declared-declared.result c.in_ok-nodes.nodes.items x) few_nodes few_cells) in
    absurd (cc)
