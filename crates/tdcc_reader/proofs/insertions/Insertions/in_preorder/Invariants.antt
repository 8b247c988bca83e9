use Rattle.std.proofs.Common.{◌+◌, ◌*◌, length}
use Rattle.tdcc_reader.specs.Insertions.{PlacesInOrder}
use Rattle.tdcc_reader.proofs.insertions.Insertions.in_preorder.Given as goal

abbrev pub invariant-loop-back : goal.invariant-loop-back
invariant-loop-back l = PlacesInOrder l.fn.self.flat_forms l.left.items l.waiting.items l.back.items

abbrev pub decreases-loop-back : goal.decreases-loop-back
decreases-loop-back l = 2 * length l.left.items + length l.waiting.items
