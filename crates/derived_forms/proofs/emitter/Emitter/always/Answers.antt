use Rattle.std.proofs.Common.{suc, ◌+◌, ◌*◌, length, ap, arith}
use Rattle.expansion_laws.specs.SymbolicAgents.{symbolic_size}
use Rattle.derived_forms.specs.Emitters.{emitted_nodes}
use Rattle.derived_forms.proofs.Faults.{handed_on}
use Rattle.derived_forms.proofs.FlatLists.{length-flat_nodes}
use Rattle.derived_forms.proofs.emitter.Emitter.always.Goals as goal

pub returns-in_err-check_room-clause-fault : goal.returns-in_err-check_room-clause-fault
returns-in_err-check_room-clause-fault c = λ a rest e.
    let first = c.in_ok-body.ensures.first a rest e in
    let taken = ap length first.0 in
    let left = ap length first.1 in
    let long = length-flat_nodes a in
    let counted = c.len.ensures in
    handed_on c.from_residual-in_err-check_room.result c.in_err-check_room.field-0.0 (length (emitted_nodes c.take_first.new.self) + (2 * c.len.result + 2)) (suc (symbolic_size a + suc (symbolic_size a)) + length rest)
    c.from_residual-in_err-check_room.ensures.1 (omega arith) c.in_err-check_room.ensures.fault
