use Rattle.std.proofs.Common.{rules, ◌≡◌, ◌<◌, ◌+◌, ◌-◌, ◌∷◌, [], length, ap, ◌∙◌, sym, arith, length-append}
use Rattle.std.specs.Prelude.{Ok, vec_len}
use Rattle.tdcc_base.specs.Unread.{unread}
use Rattle.tdcc_base.proofs.LineSteps.{TakesFront-byte, at_limit}
use Rattle.tdcc_base.proofs.ReadSteps.{line_byte, feed_ends, limit_ends, fault_ends}
use Rattle.tdcc_base.proofs.read_ahead.ReadAhead.append_line.Goals as goal

pub returns-in-Err-clause-reads : goal.returns-in-Err-clause-reads
returns-in-Err-clause-reads g c =
    fault_ends g.S.Source.read_gives (c.args.limit - length c.args.into.now.items) c.args.self.now c.bytes.self c.args.into.now.items c.bytes.into.items c.args.source.now c.bytes.source c.bytes.invariant.reads
    c.next.new.self c.next.new.source c.in-Err.field-0 c.args.limit c.in-Err.ensures.reads

pub returns-then-byte-eq10-clause-reads : goal.returns-then-byte-eq10-clause-reads
returns-then-byte-eq10-clause-reads g c =
    feed_ends g.S.Source.read_gives (c.args.limit - length c.args.into.now.items) c.args.self.now c.bytes.self c.args.into.now.items c.bytes.into.items c.args.source.now c.bytes.source c.bytes.invariant.reads
    c.next.new.self c.next.new.source (Ok c.in-Ok-Some.field-0) c.in-Ok-Some.byte c.args.limit (ap Ok c.in-Ok-Some.field-0-is) c.if-byte-eq10.true c.in-Ok-Some.ensures.reads

pub returns-then-len-limit-clause-line : goal.returns-then-len-limit-clause-line
returns-then-len-limit-clause-line g c =
    let full : length c.bytes.into.items ≡ c.args.limit = sym (c.len.ensures ∙ c.bytes.into.ok.0) ∙ c.if-len-limit.true in
    at_limit (unread g.S.Source.left c.args.self.now c.args.source.now) (unread g.S.Source.left c.bytes.self c.bytes.source) (unread g.S.Source.left c.next.new.self c.next.new.source)
    c.args.into.now.items c.bytes.into.items c.args.limit c.bytes.invariant.front c.in-Ok-Some.byte c.if-byte-eq10.false (rw c.in-Ok-Some.field-0-is at c.in-Ok-Some.ensures.gave) full

pub returns-then-len-limit-clause-reads : goal.returns-then-len-limit-clause-reads
returns-then-len-limit-clause-reads g c =
    let full : length c.bytes.into.items ≡ c.args.limit = sym (c.len.ensures ∙ c.bytes.into.ok.0) ∙ c.if-len-limit.true in
    limit_ends g.S.Source.read_gives (c.args.limit - length c.args.into.now.items) c.args.self.now c.bytes.self c.args.into.now.items c.bytes.into.items c.args.source.now c.bytes.source c.bytes.invariant.reads
    c.next.new.self c.next.new.source (Ok c.in-Ok-Some.field-0) c.in-Ok-Some.byte c.args.limit (ap Ok c.in-Ok-Some.field-0-is) c.if-byte-eq10.false full c.in-Ok-Some.ensures.reads

pub bytes-preserved : goal.bytes-preserved
bytes-preserved g c =
    let at : length c.bytes.into.items ≡ vec_len c.bytes.into = sym c.bytes.into.ok.0 in
    let more : length c.push_within.new.bytes.items ≡ length c.bytes.into.items + 1 = ap length c.push_within.ensures.items ∙ length-append c.bytes.into.items (c.in-Ok-Some.byte ∷ []) in
    let some : length c.bytes.into.items < length c.args.into.now.items + (c.args.limit - length c.args.into.now.items) =
    omega (arith, c.if-len-limit.false, c.len.ensures, c.bytes.invariant.within, at, c.requires.within, c.args.into.now.ok.0) in
    record {
      ready = c.in-Ok-Some.ensures.ready;
      front = TakesFront-byte (unread g.S.Source.left c.args.self.now c.args.source.now) (unread g.S.Source.left c.bytes.self c.bytes.source) (unread g.S.Source.left c.next.new.self c.next.new.source)
          c.args.into.now.items c.bytes.into.items c.push_within.new.bytes.items c.in-Ok-Some.byte c.bytes.invariant.front (rw c.in-Ok-Some.field-0-is at c.in-Ok-Some.ensures.gave) c.if-byte-eq10.false c.push_within.ensures.items;
      within = omega (arith, c.if-len-limit.false, c.len.ensures, c.bytes.invariant.within, at, more, c.push_within.new.bytes.ok.0);
      room = search rules;
      stays = search rules;
      over = search rules;
      same = search rules;
      reads = line_byte g.S.Source.read_gives (c.args.limit - length c.args.into.now.items) c.args.self.now c.bytes.self c.args.into.now.items c.bytes.into.items c.args.source.now c.bytes.source c.bytes.invariant.reads
          c.next.new.self c.push_within.new.bytes.items c.next.new.source (Ok c.in-Ok-Some.field-0) c.in-Ok-Some.byte (ap Ok c.in-Ok-Some.field-0-is) (search rules) c.in-Ok-Some.ensures.reads c.if-byte-eq10.false some c.push_within.ensures.items;
      steady = search rules;
    }
