use Rattle.std.proofs.Common.{◌≡◌, ◌-◌, vec_len}
use Rattle.tdcc_base.specs.Chunks.{pieces_left, source_calls}
use Rattle.tdcc_base.proofs.memory_source.MemSource.skip.Given as goal

abbrev pub invariant-loop-self : goal.invariant-loop-self
invariant-loop-self l = record {
  left : pieces_left l.self ≡ pieces_left l.fn.self;
  calls : source_calls l.self ≡ source_calls l.fn.self;
}

abbrev pub decreases-loop-self : goal.decreases-loop-self
decreases-loop-self l = vec_len l.self.pieces - l.self.place
