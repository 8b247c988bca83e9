use Rattle.denotation_laws.proofs.Tellings.{IsLeftToTell}
use Rattle.denotation_laws.proofs.asks.tell_all.Given as goal

abbrev pub invariant-loop-cell : goal.invariant-loop-cell
invariant-loop-cell l = IsLeftToTell l.program l.births l.cell-items l.fn.store l.cell-index l.store
