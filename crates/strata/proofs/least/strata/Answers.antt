-- The lists are those of the program, and the cells' part of their table is the program's.
use Rattle.std.proofs.Common.{sym, ◌∙◌, subst}
use Rattle.order_tables.specs.Bounds.{HasTable}
use Rattle.strata.proofs.Grounded.{program-inside}
use Rattle.strata.proofs.Results.{rows_are, list-within, found-case, no_first, has_table, table-is}
use Rattle.strata.proofs.least.strata.Goals as goal

pub bounds_of-requires-clause-inside : goal.bounds_of-requires-clause-inside
bounds_of-requires-clause-inside c = program-inside c.args.program.now c.cells-cells.ensures.program

pub reaching-requires-clause-within : goal.reaching-requires-clause-within
reaching-requires-clause-within c = list-within c.args.program.now c.cells-cells.ensures.program c.cells-cells.result.now c.nodes.result.now c.deref.result.now c.cells-cells.ensures.all c.nodes.ensures.all (c.deref.ensures.value ∙ c.in_ok-bounds.ensures)

pub least_table-requires-clause-within : goal.least_table-requires-clause-within
least_table-requires-clause-within c = list-within c.args.program.now c.cells-cells.ensures.program c.cells-cells.result.now c.nodes.result.now c.deref-3.result.now c.cells-cells.ensures.all c.nodes.ensures.all (c.deref-3.ensures.value ∙ c.in_ok-bounds.ensures)

pub returns-in-Some-clause-first : goal.returns-in-Some-clause-first
returns-in-Some-clause-first c =
    let are = rows_are c.args.program.now c.cells-cells.result.now c.nodes.result.now c.deref.result.now c.in_ok-rows.rows.items c.deref-2.result.now c.cells-cells.ensures.all c.nodes.ensures.all (c.deref.ensures.value ∙ c.in_ok-bounds.ensures) c.deref-2.ensures.value c.in_ok-rows.ensures in
    (found-case c.args.program.now c.cells-cells.ensures.program c.deref-2.result.now are c.in-Some.node c.in-Some.case (sym c.in-Some.is ∙ c.first_case.ensures)).0

pub returns-in-Some-clause-none : goal.returns-in-Some-clause-none
returns-in-Some-clause-none c =
    let are = rows_are c.args.program.now c.cells-cells.result.now c.nodes.result.now c.deref.result.now c.in_ok-rows.rows.items c.deref-2.result.now c.cells-cells.ensures.all c.nodes.ensures.all (c.deref.ensures.value ∙ c.in_ok-bounds.ensures) c.deref-2.ensures.value c.in_ok-rows.ensures in
    (found-case c.args.program.now c.cells-cells.ensures.program c.deref-2.result.now are c.in-Some.node c.in-Some.case (sym c.in-Some.is ∙ c.first_case.ensures)).1

pub least_table-requires-clause-some : goal.least_table-requires-clause-some
least_table-requires-clause-some c =
    let are = rows_are c.args.program.now c.cells-cells.result.now c.nodes.result.now c.deref.result.now c.in_ok-rows.rows.items c.deref-2.result.now c.cells-cells.ensures.all c.nodes.ensures.all (c.deref.ensures.value ∙ c.in_ok-bounds.ensures) c.deref-2.ensures.value c.in_ok-rows.ensures in
    subst HasTable (sym (c.deref-3.ensures.value ∙ c.in_ok-bounds.ensures)) (has_table c.args.program.now c.cells-cells.ensures.program c.deref-2.result.now are (sym c.in_default.is ∙ c.first_case.ensures))

pub returns-clause-complete : goal.returns-clause-complete
returns-clause-complete c =
    let are = rows_are c.args.program.now c.cells-cells.result.now c.nodes.result.now c.deref.result.now c.in_ok-rows.rows.items c.deref-2.result.now c.cells-cells.ensures.all c.nodes.ensures.all (c.deref.ensures.value ∙ c.in_ok-bounds.ensures) c.deref-2.ensures.value c.in_ok-rows.ensures in
    no_first c.args.program.now c.cells-cells.ensures.program c.deref-2.result.now are (sym c.in_default.is ∙ c.first_case.ensures)

pub make-requires : goal.make-requires
make-requires c =
    (table-is c.args.program.now c.cells-cells.ensures.program c.cells-cells.result.now c.nodes.result.now c.deref-3.result.now c.in_ok-table.table.items c.truncate.new.self.items c.cells-cells.ensures.all c.nodes.ensures.all
    (c.deref-3.ensures.value ∙ c.in_ok-bounds.ensures) c.in_ok-table.ensures.long c.in_ok-table.ensures.satisfies c.in_ok-table.ensures.least c.truncate.ensures.items).2

pub returns-clause-table : goal.returns-clause-table
returns-clause-table c =
    (table-is c.args.program.now c.cells-cells.ensures.program c.cells-cells.result.now c.nodes.result.now c.deref-3.result.now c.in_ok-table.table.items c.make.result c.cells-cells.ensures.all c.nodes.ensures.all
    (c.deref-3.ensures.value ∙ c.in_ok-bounds.ensures) c.in_ok-table.ensures.long c.in_ok-table.ensures.satisfies c.in_ok-table.ensures.least (c.make.ensures ∙ c.truncate.ensures.items)).0

pub returns-clause-least : goal.returns-clause-least
returns-clause-least c =
    (table-is c.args.program.now c.cells-cells.ensures.program c.cells-cells.result.now c.nodes.result.now c.deref-3.result.now c.in_ok-table.table.items c.make.result c.cells-cells.ensures.all c.nodes.ensures.all
    (c.deref-3.ensures.value ∙ c.in_ok-bounds.ensures) c.in_ok-table.ensures.long c.in_ok-table.ensures.satisfies c.in_ok-table.ensures.least (c.make.ensures ∙ c.truncate.ensures.items)).1
