use Rattle.std.proofs.Common.{◌≡◌, ◌≤◌, ◌-◌, length}
use Rattle.std.specs.Prelude.{IsNone, IsTrue}
use Rattle.tdcc_base.specs.Limits.{longest_line}
use Rattle.tdcc_base.specs.Waiting.{waiting, source_of, stop_of, limit_of, LinesReady, ReadsNoMoreAfterEnd, reference_of}
use Rattle.tdcc_tool.specs.declared.run_state.RunState.{RunState}
use Rattle.tdcc_tool.proofs.Readings.{ReadSoFar}
use Rattle.tdcc_tool.proofs.RunSteps.{Settings, IsOnWay}
use Rattle.tdcc_tool.proofs.trace.run_trace.Given as goal

abbrev pub settings_of : RunState → Settings
settings_of c = record { program = c.book.program; mode = c.mode; limits = c.limits }

abbrev pub invariant-lines : goal.invariant-lines
invariant-lines g l = record {
  same : reference_of l.lines ≡ reference_of l.fn.lines;
  ready : LinesReady g.S.Source.left l.lines;
  limit : limit_of l.lines ≡ longest_line;
  going_on : IsNone (stop_of l.lines);
  later : g.S.Source.faults (source_of l.fn.lines) ≤ g.S.Source.faults (source_of l.lines);
  steady : IsTrue (g.S.Source.steady (source_of l.fn.lines)) → IsTrue (g.S.Source.steady (source_of l.lines));
  stays : ReadsNoMoreAfterEnd l.fn.lines l.lines;
  reads : ReadSoFar (settings_of l.fn.start) g.S.Source.read_gives l.fn.lines.buffers.ahead (source_of l.fn.lines) l.lines.buffers.ahead (source_of l.lines) l.state;
  so_far : IsOnWay (settings_of l.fn.start) (waiting g.S.Source.left l.fn.lines) (waiting g.S.Source.left l.lines) l.state;
}

abbrev pub decreases-lines : goal.decreases-lines
decreases-lines g l = 65536 - length l.state.book.ins
