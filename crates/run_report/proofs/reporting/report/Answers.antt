use Rattle.std.proofs.Common.{ap, ◌∙◌, arith}
use Rattle.token_system.specs.Stores.{StoreMap}
use Rattle.instant_net.specs.Words.{store_in}
use Rattle.run_report.specs.declared.counts.Report.{Report}
use Rattle.run_report.proofs.AskCounts.{counts-unreached, counts-reached, report-is}
use Rattle.run_report.proofs.reporting.report.Goals as goal
use Rattle.run_report.proofs.reporting.report.Goals.{then-reaches, else-reaches}

pub loop-guard-preserved : goal.loop-guard-preserved
loop-guard-preserved c =
    let net = c.args.net.now in
    let w : StoreMap = store_in c.args.net.now.cells c.args.words.now in
    let i = c.loop-guard.guard in
    let before = c.loop-guard.counts in
    let after = c.if-reaches.counts in
    let so = c.loop-guard.invariant in
    elim c.if-reaches.branch [
      | then-reaches v ↦
          let said = v.count.ensures in
          record {
            asks = counts-reached net w i (omega arith) c.reaches.result c.reaches.ensures v.if-reaches.true v.is_else.result v.holds.result v.is_else.ensures v.holds.ensures before after
                (ap (λ (x : Report). x.confirmed) v.counts-is ∙ said.confirmed) (ap (λ (x : Report). x.refuted) v.counts-is ∙ said.refuted) (ap (λ (x : Report). x.parked) v.counts-is ∙ said.parked) so.asks;
            ran = ap (λ (x : Report). x.ran) v.counts-is ∙ said.ran ∙ so.ran;
            next = ap (λ (x : Report). x.next) v.counts-is ∙ said.next ∙ so.next;
          }
      | else-reaches v ↦ record {
        asks = counts-unreached net w i (omega arith) c.reaches.result c.reaches.ensures v.if-reaches.false before after v.counts-is so.asks;
        ran = ap (λ (x : Report). x.ran) v.counts-is ∙ so.ran;
        next = ap (λ (x : Report). x.next) v.counts-is ∙ so.next;
      }
    ]

pub returns : goal.returns
returns c = λ p table rs t of.
    let net = c.args.net.now in
    let w : StoreMap = store_in c.args.net.now.cells c.args.words.now in
    let so = c.loop-guard.invariant in
    report-is net w c.loop-guard.counts c.loop-guard.guard (omega arith) so.asks p table rs t c.args.next of (so.ran ∙ c.ran.ensures.counts p table rs t of) so.next
