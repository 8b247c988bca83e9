use Rattle.std.proofs.Common.{Some, ap, ◌∙◌}
use Rattle.std.specs.List.{concat}
use Rattle.tdcc_base.specs.Chunks.{pieces_from}
use Rattle.tdcc_base.proofs.PieceSteps.{concat-skip_empty, pieces_from-zero}
use Rattle.tdcc_base.proofs.memory_source.MemSource.new.Goals as goal

pub returns-clause-bytes : goal.returns-clause-bytes
returns-clause-bytes c = ap Some (concat-skip_empty (pieces_from 0 c.args.pieces.items) ∙ ap concat (pieces_from-zero c.args.pieces.items))
