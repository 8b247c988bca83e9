use Rattle.std.proofs.Common.{◌≡◌, ◌+◌, ◌++◌, drop, take}
use Rattle.std.specs.Slice.Iter.{iter_rest}
use Rattle.expansion_laws.specs.Numbering.{cells_from}
use Rattle.derived_forms.proofs.cells.number_cells.Given as goal

-- what is made stands in front of what is to be copied
abbrev pub invariant-loop-decl : goal.invariant-loop-decl
invariant-loop-decl l = l.made.items ++ take l.decl-iterator.n (iter_rest l.decl-iterator.iter) ≡ take l.declared l.cells

-- and in front of the cells of the binders to come
abbrev pub invariant-loop-binder : goal.invariant-loop-binder
invariant-loop-binder l = record {
  count : l.number ≡ l.declared + l.binder-index;
  put : l.made.items ++ cells_from l.cells l.number (drop l.binder-index l.binders) ≡ take l.declared l.cells ++ cells_from l.cells l.declared l.binders;
}
