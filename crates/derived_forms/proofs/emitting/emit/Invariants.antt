use Rattle.std.proofs.Common.{◌≡◌, ◌≤◌, length, take}
use Rattle.tdcc_reader.specs.Trees.{Tree, form_listing}
use Rattle.derived_forms.specs.Emitters.{emitted_nodes}
use Rattle.derived_forms.proofs.EmittedSteps.{IsEmitted}
use Rattle.derived_forms.proofs.emitting.emit.Given as goal

-- the symbolic agents of the trees behind the forms that are left are emitted
abbrev pub invariant-loop-left : goal.invariant-loop-left
invariant-loop-left l = record {
  within : l.left ≤ length l.forms;
  room : length (emitted_nodes l.emitter) ≤ 4096;
  back : (t : Tree) → l.forms ≡ form_listing 0 t
      → IsEmitted l.cells t (take l.left l.forms) (emitted_nodes l.emitter);
}

abbrev pub decreases-loop-left : goal.decreases-loop-left
decreases-loop-left l = l.left
