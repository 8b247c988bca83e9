use Rattle.std.proofs.Common.{◌≡◌, ◌≤◌, ◌-◌, length}
use Rattle.std.specs.Prelude.{IsTrue}
use Rattle.std.specs.Io.KnownBytes.{Consumes}
use Rattle.tdcc_base.specs.Limits.{longest_text}
use Rattle.tdcc_base.specs.Texts.{IsTextSoFar}
use Rattle.tdcc_base.specs.Unread.{pending, unread, IsReady, StaysEnded}
use Rattle.tdcc_base.proofs.ReadSteps.{HasRead}
use Rattle.tdcc_base.proofs.TextEnds.{IsTextFront}
use Rattle.tdcc_base.proofs.buffers.Buffers.finish_text.Given as goal

abbrev pub invariant-lines : goal.invariant-lines
invariant-lines g l = record {
  ready : IsReady g.S.Source.left l.self.ahead l.source;
  taken : Consumes (unread g.S.Source.left l.fn.self.ahead l.fn.source) (unread g.S.Source.left l.self.ahead l.source) l.self.text.items;
  front : IsTextFront l.self.text.items;
  few : length l.self.text.items ≤ longest_text;
  stays : StaysEnded l.fn.self.ahead l.self.ahead l.fn.source l.source;
  same : g.S.Source.faults l.source ≡ g.S.Source.faults l.fn.source;
  reads : HasRead g.S.Source.read_gives IsTextSoFar (pending l.fn.self.ahead) l.self.text.items (pending l.self.ahead) l.fn.source l.source;
  ended : l.self.ahead.ended ≡ l.fn.self.ahead.ended;
  steady : IsTrue (g.S.Source.steady l.fn.source) → IsTrue (g.S.Source.steady l.source);
  stop : l.self.stop ≡ l.fn.self.stop;
  limit : l.self.limit ≡ l.fn.self.limit;
}

abbrev pub decreases-lines : goal.decreases-lines
decreases-lines g l = longest_text - length l.self.text.items
