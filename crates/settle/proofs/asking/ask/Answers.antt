use Rattle.std.proofs.Common.{sym, ◌∙◌}
use Rattle.settle.proofs.Noting.{notes-woken}
use Rattle.settle.proofs.asking.ask.Goals as goal

pub returns-then-ask_holds-clause-notes : goal.returns-then-ask_holds-clause-notes
returns-then-ask_holds-clause-notes g c =
    notes-woken c.args.net.now c.args.words.now c.args.asks.now c.wake.new.self c.args.guard c.requires.guard c.requires.asks (sym c.is_held.ensures ∙ c.if-not-is_held.true) (sym c.ask_holds.ensures.held ∙ c.if-ask_holds.true)
    c.wake.ensures.held c.wake.ensures.due
