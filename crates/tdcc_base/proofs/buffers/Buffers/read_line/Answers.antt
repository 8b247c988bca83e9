use Rattle.std.proofs.Common.{◌-◌, ◌≤◌, ℕ, List, [], length, refl, ap, ◌∙◌, arith}
use Rattle.std.specs.Prelude.{Ok, Err}
use Rattle.tdcc_base.specs.Lines.{IsOpenLine}
use Rattle.tdcc_base.specs.Unread.{pending, unread}
use Rattle.tdcc_base.specs.declared.read_ahead.LineBreak.TheVariants as breaks
use Rattle.tdcc_base.specs.declared.stops.LineEnd.TheVariants as ends
use Rattle.tdcc_base.proofs.Known.{some_items}
use Rattle.tdcc_base.proofs.LineSteps.{retell}
use Rattle.tdcc_base.proofs.FirstLines.{line_at_feed, line_at_end, line_stop}
use Rattle.tdcc_base.proofs.ReadSteps.{front_no_feed, no_read}
use Rattle.tdcc_base.proofs.TextReads.{line_reads, line_feed, line_over}
use Rattle.tdcc_base.proofs.buffers.Buffers.read_line.Goals as goal

pub returns-in-Ok-Feed-clause-line : goal.returns-in-Ok-Feed-clause-line
returns-in-Ok-Feed-clause-line g c =
    let old = unread g.S.Source.left c.args.self.now.ahead c.args.source.now in
    let new = unread g.S.Source.left c.append_line.new.self c.append_line.new.source in
    let after : List ℕ = c.append_line.new.into.items in
    let short : length after ≤ c.args.self.now.limit = omega (arith, c.append_line.ensures.within, c.append_line.new.into.ok.0) in
    let told = retell old new c.clear.new.self.items [] after c.args.self.now.limit c.append_line.result (Ok breaks.Feed) c.clear.ensures.items (c.in-Ok-Feed.is ∙ ap Ok c.in-Ok-Feed.field-0-is) c.append_line.ensures.line in
    λ _. line_at_feed old new after c.args.self.now.limit told short

pub returns-in-Ok-End-2-clause-line : goal.returns-in-Ok-End-2-clause-line
returns-in-Ok-End-2-clause-line g c =
    let old = unread g.S.Source.left c.args.self.now.ahead c.args.source.now in
    let new = unread g.S.Source.left c.append_line.new.self c.append_line.new.source in
    let after : List ℕ = c.append_line.new.into.items in
    let short : length after ≤ c.args.self.now.limit = omega (arith, c.append_line.ensures.within, c.append_line.new.into.ok.0) in
    let told = retell old new c.clear.new.self.items [] after c.args.self.now.limit c.append_line.result (Ok breaks.End) c.clear.ensures.items (c.in-Ok-End.is ∙ ap Ok c.in-Ok-End.field-0-is) c.append_line.ensures.line in
    λ _. line_at_end old new after c.args.self.now.limit told (some_items c.append_line.new.into c.if-is_empty.ensures) short

pub returns-in-Err-clause-line : goal.returns-in-Err-clause-line
returns-in-Err-clause-line g c =
    let old = unread g.S.Source.left c.args.self.now.ahead c.args.source.now in
    let new = unread g.S.Source.left c.append_line.new.self c.append_line.new.source in
    let after : List ℕ = c.append_line.new.into.items in
    let told = retell old new c.clear.new.self.items [] after c.args.self.now.limit c.append_line.result (Err c.in-Err.stop) c.clear.ensures.items c.in-Err.is c.append_line.ensures.line in
    λ _. line_stop old new after c.args.self.now.limit c.in-Err.stop told

pub returns-in-Ok-Feed-clause-reads : goal.returns-in-Ok-Feed-clause-reads
returns-in-Ok-Feed-clause-reads g c =
    let after : List ℕ = c.append_line.new.into.items in
    let short : length after ≤ c.args.self.now.limit = omega (arith, c.append_line.ensures.within, c.append_line.new.into.ok.0) in
    λ _. line_reads g.S.Source.read_gives c.args.self.now.limit c.args.self.now.ahead c.append_line.new.self c.clear.new.self.items after c.append_line.result (Ok breaks.Feed) (Ok ends.Line) c.args.source.now c.append_line.new.source
    c.clear.ensures.items (c.in-Ok-Feed.is ∙ ap Ok c.in-Ok-Feed.field-0-is) refl (λ o n a. line_at_feed o n after c.args.self.now.limit a short)
    (λ bytes left a. line_feed bytes left after c.args.self.now.limit c.append_line.new.self.ended a) c.append_line.ensures.reads

pub returns-in-Ok-Feed-clause-held : goal.returns-in-Ok-Feed-clause-held
returns-in-Ok-Feed-clause-held g c =
    λ _ some. no_read g.S.Source.read_gives (IsOpenLine (c.args.self.now.limit - length c.clear.new.self.items)) _ c.args.self.now.ahead c.append_line.new.self _ c.args.source.now c.append_line.new.source
    (λ bytes o. some (front_no_feed (pending c.args.self.now.ahead) bytes o.no_feed)) c.append_line.ensures.reads

pub returns-in-Ok-End-2-clause-reads : goal.returns-in-Ok-End-2-clause-reads
returns-in-Ok-End-2-clause-reads g c =
    let after : List ℕ = c.append_line.new.into.items in
    let short : length after ≤ c.args.self.now.limit = omega (arith, c.append_line.ensures.within, c.append_line.new.into.ok.0) in
    λ _. line_reads g.S.Source.read_gives c.args.self.now.limit c.args.self.now.ahead c.append_line.new.self c.clear.new.self.items after c.append_line.result (Ok breaks.End) (Ok ends.Line) c.args.source.now c.append_line.new.source
    c.clear.ensures.items (c.in-Ok-End.is ∙ ap Ok c.in-Ok-End.field-0-is) refl (λ o n a. line_at_end o n after c.args.self.now.limit a (some_items c.append_line.new.into c.if-is_empty.ensures) short)
    (λ bytes left a. line_over bytes left after c.append_line.new.self.ended (c.append_line.ensures.end (c.in-Ok-End.is ∙ ap Ok c.in-Ok-End.field-0-is)).ended) c.append_line.ensures.reads

pub returns-in-Ok-End-2-clause-held : goal.returns-in-Ok-End-2-clause-held
returns-in-Ok-End-2-clause-held g c =
    λ _ some. no_read g.S.Source.read_gives (IsOpenLine (c.args.self.now.limit - length c.clear.new.self.items)) _ c.args.self.now.ahead c.append_line.new.self _ c.args.source.now c.append_line.new.source
    (λ bytes o. some (front_no_feed (pending c.args.self.now.ahead) bytes o.no_feed)) c.append_line.ensures.reads

pub returns-in-Err-clause-reads : goal.returns-in-Err-clause-reads
returns-in-Err-clause-reads g c =
    let after : List ℕ = c.append_line.new.into.items in
    λ _. line_reads g.S.Source.read_gives c.args.self.now.limit c.args.self.now.ahead c.append_line.new.self c.clear.new.self.items after c.append_line.result (Err c.in-Err.stop) (Err c.in-Err.stop) c.args.source.now c.append_line.new.source
    c.clear.ensures.items c.in-Err.is refl (λ o n a. line_stop o n after c.args.self.now.limit c.in-Err.stop a) (λ bytes left a. tt) c.append_line.ensures.reads

pub returns-in-Err-clause-held : goal.returns-in-Err-clause-held
returns-in-Err-clause-held g c =
    λ _ some. no_read g.S.Source.read_gives (IsOpenLine (c.args.self.now.limit - length c.clear.new.self.items)) _ c.args.self.now.ahead c.append_line.new.self _ c.args.source.now c.append_line.new.source
    (λ bytes o. some (front_no_feed (pending c.args.self.now.ahead) bytes o.no_feed)) c.append_line.ensures.reads
