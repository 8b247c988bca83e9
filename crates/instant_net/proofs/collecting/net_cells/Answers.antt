use Rattle.std.proofs.Common.{ap, ◌∙◌, arith, ◌++◌, length-append}
use Rattle.instant_net.specs.Programs.{root_leaves}
use Rattle.instant_net.specs.Collecting.{declared_names}
use Rattle.instant_net.proofs.Cells.{cells-are, length-declared, names-count, placed-names}
use Rattle.instant_net.proofs.FewNames.{cells-few}
use Rattle.instant_net.proofs.Covering.{cells-cover}
use Rattle.instant_net.proofs.collecting.net_cells.Goals as goal

pub lay_out-requires : goal.lay_out-requires
lay_out-requires c =
    let most = cells-few c.args.program.now c.args.t c.add_declared.ensures.program c.args.roots.now c.in_ok-names.names.keys c.requires.few c.in_ok-names.ensures.spoken c.len.ensures.ordered in
    let here = names-count c.add_locals.new.self.cells.items (declared_names c.args.program.now.declared ++ c.in_ok-names.names.keys)
    (c.in_ok-add_locals.ensures.names ∙ ap (λ xs. xs ++ c.in_ok-names.names.keys) c.in_ok-add_declared.ensures.names) in
    let both = length-append (declared_names c.args.program.now.declared) c.in_ok-names.names.keys in
    let all = length-declared c.args.program.now.declared in
    omega arith

pub returns-clause-cells : goal.returns-clause-cells
returns-clause-cells c =
    cells-are c.args.program.now c.args.levels.now (root_leaves c.args.program.now c.args.roots.now c.args.t) c.add_locals.new.self.cells.items c.lay_out.new.cells.items c.in_ok-names.names.keys c.add_declared.ensures.program
    c.in_ok-add_locals.ensures.row (c.in_ok-add_locals.ensures.names ∙ ap (λ xs. xs ++ c.in_ok-names.names.keys) c.in_ok-add_declared.ensures.names) c.in_ok-names.ensures.spoken c.in_ok-add_locals.ensures.order
    (cells-few c.args.program.now c.args.t c.add_declared.ensures.program c.args.roots.now c.in_ok-names.names.keys c.requires.few c.in_ok-names.ensures.spoken c.len.ensures.ordered) c.lay_out.ensures.laid_out c.lay_out.ensures.same

pub returns-clause-covered : goal.returns-clause-covered
returns-clause-covered c =
    cells-cover c.args.program.now c.args.t c.lay_out.new.cells.items c.in_ok-names.names.keys c.args.roots.now
    (placed-names c.add_locals.new.self.cells.items c.lay_out.new.cells.items c.lay_out.ensures.same ∙ c.in_ok-add_locals.ensures.names ∙ ap (λ xs. xs ++ c.in_ok-names.names.keys) c.in_ok-add_declared.ensures.names) c.in_ok-names.ensures.covered
