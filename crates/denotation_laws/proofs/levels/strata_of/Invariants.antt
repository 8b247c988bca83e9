use Rattle.std.proofs.Common.{ℕ, ◌<◌}
use Rattle.std.specs.Prelude.{slice_index}
use Rattle.denotation_laws.proofs.levels.strata_of.Given as goal

abbrev pub invariant-loop-cell : goal.invariant-loop-cell
invariant-loop-cell l = record { above : (c : ℕ) → c < l.cell → slice_index l.levels c < l.strata; few : l.strata < 1025 }
