use Rattle.std.proofs.Common.{◌≡◌, ◌≤◌, ◌-◌}
use Rattle.std.specs.Prelude.{length, vec_len, vec_capacity, IsTrue}
use Rattle.tdcc_base.specs.Unread.{unread, IsReady, IsOver, StaysEnded}
use Rattle.tdcc_base.proofs.LineSteps.{TakesFront}
use Rattle.tdcc_base.proofs.ReadSteps.{LineSoFar}
use Rattle.tdcc_base.proofs.read_ahead.ReadAhead.append_line.Given as goal

abbrev pub invariant-bytes : goal.invariant-bytes
invariant-bytes g l = record {
  ready : IsReady g.S.Source.left l.self l.source;
  front : TakesFront (unread g.S.Source.left l.fn.self l.fn.source) (unread g.S.Source.left l.self l.source) l.fn.into.items l.into.items;
  within : vec_len l.into ≤ l.limit;
  room : l.limit ≤ vec_capacity l.into;
  stays : StaysEnded l.fn.self l.self l.fn.source l.source;
  over : IsOver l.fn.self → (l.self ≡ l.fn.self) × (l.into.items ≡ l.fn.into.items);
  same : g.S.Source.faults l.source ≡ g.S.Source.faults l.fn.source;
  reads : LineSoFar g.S.Source.read_gives (l.limit - length l.fn.into.items) l.fn.self l.self l.fn.into.items l.into.items l.fn.source l.source;
  steady : IsTrue (g.S.Source.steady l.fn.source) → IsTrue (g.S.Source.steady l.source);
}

abbrev pub decreases-bytes : goal.decreases-bytes
decreases-bytes g l = l.limit - vec_len l.into
