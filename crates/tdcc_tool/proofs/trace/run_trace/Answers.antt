use Rattle.std.proofs.Common.{List, ℕ, refl, ◌∙◌, subst, arith}
use Rattle.std.specs.Prelude.{Ok, Err}
use Rattle.tdcc_base.specs.declared.stops.LineEnd.TheVariants as line_ends
use Rattle.tdcc_base.specs.declared.stops.ReadStop.TheVariants as stops
use Rattle.tdcc_base.specs.Lines.{ReadsLine}
use Rattle.tdcc_base.specs.Reads.{ReadsForLine}
use Rattle.tdcc_base.specs.Waiting.{waiting, line_read, source_of}
use Rattle.tdcc_tool.specs.Steps.{AdvancesRun, StopsRun}
use Rattle.tdcc_tool.proofs.RunSteps.{progress-start, ended_whole, ended_at, ended_long, goes_on}
use Rattle.tdcc_tool.proofs.Readings.{reads-start, reads-more, reads-finish, stays_over}
use Rattle.tdcc_tool.proofs.trace.run_trace.Invariants.{settings_of}
use Rattle.tdcc_tool.proofs.trace.run_trace.Goals as goal

pub lines-init : goal.lines-init
lines-init g c = record {
  same = refl;
  ready = c.requires.ready;
  limit = c.requires.limit;
  going_on = c.requires.going_on;
  later = omega arith;
  steady = λ h. h;
  stays = λ e. (e, refl);
  reads = reads-start (settings_of c.args.start) g.S.Source.read_gives c.args.lines.now.buffers.ahead (source_of c.args.lines.now) c.args.start (record { program = refl; mode = refl; limits = refl }) c.requires.ins c.requires.follows;
  so_far = progress-start (settings_of c.args.start) (waiting g.S.Source.left c.args.lines.now) c.args.start (record { program = refl; mode = refl; limits = refl }) c.requires.ins c.requires.follows;
}

pub returns-in-Err-TooLong-clause-answer : goal.returns-in-Err-TooLong-clause-answer
returns-in-Err-TooLong-clause-answer g c =
    let h = subst (λ (k : ℕ). ReadsLine k (waiting g.S.Source.left c.lines.lines) (waiting g.S.Source.left c.read_line.new.self) (line_read c.read_line.new.self) (Err stops.TooLong))
    c.lines.invariant.limit ((rw c.in-Err-TooLong.field-0-is at c.in-Err-TooLong.ensures.line) c.lines.invariant.going_on) in
    let k = c.in_ok-finish-in-Err-TooLong.ensures in
    ended_long (settings_of c.args.start) (waiting g.S.Source.left c.args.lines.now) (waiting g.S.Source.left c.lines.lines) (waiting g.S.Source.left c.read_line.new.self) (line_read c.read_line.new.self) _ _ c.lines.state _
    c.lines.invariant.so_far h (record { status_is = k.status; out = k.out; err = k.err })

pub returns-in-Ok-End-clause-answer : goal.returns-in-Ok-End-clause-answer
returns-in-Ok-End-clause-answer g c =
    let h = subst (λ (k : ℕ). ReadsLine k (waiting g.S.Source.left c.lines.lines) (waiting g.S.Source.left c.read_line.new.self) (line_read c.read_line.new.self) (Ok line_ends.End))
    c.lines.invariant.limit ((rw c.in-Ok-End.field-0-is at c.in-Ok-End.ensures.line) c.lines.invariant.going_on) in
    let k = c.in_ok-finish-in-Ok-End.ensures in
    ended_whole (settings_of c.args.start) (waiting g.S.Source.left c.args.lines.now) (waiting g.S.Source.left c.lines.lines) (waiting g.S.Source.left c.read_line.new.self) (line_read c.read_line.new.self) _ _ c.lines.state _
    c.lines.invariant.so_far h (record { status_is = k.status; out = k.out; err = k.err })

pub returns-in-Some-clause-answer : goal.returns-in-Some-clause-answer
returns-in-Some-clause-answer g c =
    let h = subst (λ (k : ℕ). ReadsLine k (waiting g.S.Source.left c.lines.lines) (waiting g.S.Source.left c.read_line.new.self) (line_read c.read_line.new.self) (Ok line_ends.Line))
    c.lines.invariant.limit ((rw c.in-Ok-Line.field-0-is at c.in-Ok-Line.ensures.line) c.lines.invariant.going_on) in
    let at = rw c.in-Some.is at c.in_ok-end-in-Ok-Line.ensures in
    let k = c.in_ok-finish-in-Ok-Line.ensures in
    ended_at (settings_of c.args.start) (waiting g.S.Source.left c.args.lines.now) (waiting g.S.Source.left c.lines.lines) (waiting g.S.Source.left c.read_line.new.self) (line_read c.read_line.new.self) _ _ c.lines.state c.run_line.new.state c.in-Some.end _
    c.lines.invariant.so_far h (subst (λ (l : List ℕ). StopsRun c.lines.state c.run_line.new.state l c.in-Some.end) c.line.ensures at) (record { status_is = k.status; out = k.out; err = k.err })

pub lines-preserved : goal.lines-preserved
lines-preserved g c =
    let h = subst (λ (k : ℕ). ReadsLine k (waiting g.S.Source.left c.lines.lines) (waiting g.S.Source.left c.read_line.new.self) (line_read c.read_line.new.self) (Ok line_ends.Line))
    c.lines.invariant.limit ((rw c.in-Ok-Line.field-0-is at c.in-Ok-Line.ensures.line) c.lines.invariant.going_on) in
    let reads = subst (λ (k : ℕ). ReadsForLine g.S.Source.read_gives k (line_read c.read_line.new.self) (Ok line_ends.Line) c.lines.lines.buffers.ahead c.read_line.new.self.buffers.ahead (source_of c.lines.lines) (source_of c.read_line.new.self))
    c.lines.invariant.limit ((rw c.in-Ok-Line.field-0-is at c.in-Ok-Line.ensures.reads) c.lines.invariant.going_on) in
    let k : AdvancesRun c.lines.state c.run_line.new.state c.line.result.now = rw c.in_default.is at c.in_ok-end-in-Ok-Line.ensures in
    record {
      same = c.in-Ok-Line.ensures.same_reference ∙ c.lines.invariant.same;
      ready = c.in-Ok-Line.ensures.ready;
      limit = c.in-Ok-Line.ensures.limit ∙ c.lines.invariant.limit;
      going_on = c.in-Ok-Line.ensures.going_on;
      later = omega (arith, c.in-Ok-Line.ensures.faults_only_rise);
      stays = stays_over c.args.lines.now c.lines.lines c.read_line.new.self c.lines.invariant.stays c.in-Ok-Line.ensures.no_more;
      reads = reads-more (settings_of c.args.start) g.S.Source.read_gives c.args.lines.now.buffers.ahead (source_of c.args.lines.now) c.lines.lines.buffers.ahead c.read_line.new.self.buffers.ahead
          (source_of c.lines.lines) (source_of c.read_line.new.self) c.lines.state (line_read c.read_line.new.self) c.in-Ok-Line.ensures.no_more c.run_line.new.state
          (subst (λ (l : List ℕ). AdvancesRun c.lines.state c.run_line.new.state l) c.line.ensures k) c.lines.invariant.reads reads;
      steady = λ h. ((c.in-Ok-Line.ensures.steady c.lines.invariant.going_on) (c.lines.invariant.steady h)).0;
      so_far = goes_on (settings_of c.args.start) (waiting g.S.Source.left c.args.lines.now) (waiting g.S.Source.left c.lines.lines) (waiting g.S.Source.left c.read_line.new.self) (line_read c.read_line.new.self) c.lines.state c.run_line.new.state c.lines.invariant.so_far h
          (subst (λ (l : List ℕ). AdvancesRun c.lines.state c.run_line.new.state l) c.line.ensures k);
    }

pub returns-in-Err-Read-clause-no_more : goal.returns-in-Err-Read-clause-no_more
returns-in-Err-Read-clause-no_more g c = stays_over c.args.lines.now c.lines.lines c.read_line.new.self c.lines.invariant.stays c.in-Err-Read.ensures.no_more

pub returns-in_err-finish-in-Err-TooLong-clause-no_more : goal.returns-in_err-finish-in-Err-TooLong-clause-no_more
returns-in_err-finish-in-Err-TooLong-clause-no_more g c = stays_over c.args.lines.now c.lines.lines c.read_line.new.self c.lines.invariant.stays c.in-Err-TooLong.ensures.no_more

pub returns-in-Err-TooLong-clause-no_more : goal.returns-in-Err-TooLong-clause-no_more
returns-in-Err-TooLong-clause-no_more g c = stays_over c.args.lines.now c.lines.lines c.read_line.new.self c.lines.invariant.stays c.in-Err-TooLong.ensures.no_more

pub returns-in_err-finish-in-Ok-End-clause-no_more : goal.returns-in_err-finish-in-Ok-End-clause-no_more
returns-in_err-finish-in-Ok-End-clause-no_more g c = stays_over c.args.lines.now c.lines.lines c.read_line.new.self c.lines.invariant.stays c.in-Ok-End.ensures.no_more

pub returns-in-Ok-End-clause-no_more : goal.returns-in-Ok-End-clause-no_more
returns-in-Ok-End-clause-no_more g c = stays_over c.args.lines.now c.lines.lines c.read_line.new.self c.lines.invariant.stays c.in-Ok-End.ensures.no_more

pub returns-in_err-end-in-Ok-Line-clause-no_more : goal.returns-in_err-end-in-Ok-Line-clause-no_more
returns-in_err-end-in-Ok-Line-clause-no_more g c = stays_over c.args.lines.now c.lines.lines c.read_line.new.self c.lines.invariant.stays c.in-Ok-Line.ensures.no_more

pub returns-in_err-finish-in-Ok-Line-clause-no_more : goal.returns-in_err-finish-in-Ok-Line-clause-no_more
returns-in_err-finish-in-Ok-Line-clause-no_more g c = stays_over c.args.lines.now c.lines.lines c.read_line.new.self c.lines.invariant.stays c.in-Ok-Line.ensures.no_more

pub returns-in-Some-clause-no_more : goal.returns-in-Some-clause-no_more
returns-in-Some-clause-no_more g c = stays_over c.args.lines.now c.lines.lines c.read_line.new.self c.lines.invariant.stays c.in-Ok-Line.ensures.no_more

pub returns-in-Err-Read-clause-reads : goal.returns-in-Err-Read-clause-reads
returns-in-Err-Read-clause-reads g c _ =
    let reads = subst (λ (k : ℕ). ReadsForLine g.S.Source.read_gives k (line_read c.read_line.new.self) (Err stops.Read) c.lines.lines.buffers.ahead c.read_line.new.self.buffers.ahead (source_of c.lines.lines) (source_of c.read_line.new.self))
    c.lines.invariant.limit ((rw c.in-Err-Read.field-0-is at c.in-Err-Read.ensures.reads) c.lines.invariant.going_on) in
    reads-finish (settings_of c.args.start) g.S.Source.read_gives c.args.lines.now.buffers.ahead (source_of c.args.lines.now) c.lines.lines.buffers.ahead c.read_line.new.self.buffers.ahead
    (source_of c.lines.lines) (source_of c.read_line.new.self) c.lines.state (line_read c.read_line.new.self) c.in-Err-Read.ensures.no_more (Err stops.Read) c.lines.invariant.reads reads

pub returns-in-Err-TooLong-clause-reads : goal.returns-in-Err-TooLong-clause-reads
returns-in-Err-TooLong-clause-reads g c _ =
    let reads = subst (λ (k : ℕ). ReadsForLine g.S.Source.read_gives k (line_read c.read_line.new.self) (Err stops.TooLong) c.lines.lines.buffers.ahead c.read_line.new.self.buffers.ahead (source_of c.lines.lines) (source_of c.read_line.new.self))
    c.lines.invariant.limit ((rw c.in-Err-TooLong.field-0-is at c.in-Err-TooLong.ensures.reads) c.lines.invariant.going_on) in
    reads-finish (settings_of c.args.start) g.S.Source.read_gives c.args.lines.now.buffers.ahead (source_of c.args.lines.now) c.lines.lines.buffers.ahead c.read_line.new.self.buffers.ahead
    (source_of c.lines.lines) (source_of c.read_line.new.self) c.lines.state (line_read c.read_line.new.self) c.in-Err-TooLong.ensures.no_more (Err stops.TooLong) c.lines.invariant.reads reads

pub returns-in-Ok-End-clause-reads : goal.returns-in-Ok-End-clause-reads
returns-in-Ok-End-clause-reads g c _ =
    let reads = subst (λ (k : ℕ). ReadsForLine g.S.Source.read_gives k (line_read c.read_line.new.self) (Ok line_ends.End) c.lines.lines.buffers.ahead c.read_line.new.self.buffers.ahead (source_of c.lines.lines) (source_of c.read_line.new.self))
    c.lines.invariant.limit ((rw c.in-Ok-End.field-0-is at c.in-Ok-End.ensures.reads) c.lines.invariant.going_on) in
    reads-finish (settings_of c.args.start) g.S.Source.read_gives c.args.lines.now.buffers.ahead (source_of c.args.lines.now) c.lines.lines.buffers.ahead c.read_line.new.self.buffers.ahead
    (source_of c.lines.lines) (source_of c.read_line.new.self) c.lines.state (line_read c.read_line.new.self) c.in-Ok-End.ensures.no_more (Ok line_ends.End) c.lines.invariant.reads reads

pub returns-in-Some-clause-reads : goal.returns-in-Some-clause-reads
returns-in-Some-clause-reads g c _ =
    let reads = subst (λ (k : ℕ). ReadsForLine g.S.Source.read_gives k (line_read c.read_line.new.self) (Ok line_ends.Line) c.lines.lines.buffers.ahead c.read_line.new.self.buffers.ahead (source_of c.lines.lines) (source_of c.read_line.new.self))
    c.lines.invariant.limit ((rw c.in-Ok-Line.field-0-is at c.in-Ok-Line.ensures.reads) c.lines.invariant.going_on) in
    reads-finish (settings_of c.args.start) g.S.Source.read_gives c.args.lines.now.buffers.ahead (source_of c.args.lines.now) c.lines.lines.buffers.ahead c.read_line.new.self.buffers.ahead
    (source_of c.lines.lines) (source_of c.read_line.new.self) c.lines.state (line_read c.read_line.new.self) c.in-Ok-Line.ensures.no_more (Ok line_ends.Line) c.lines.invariant.reads reads
