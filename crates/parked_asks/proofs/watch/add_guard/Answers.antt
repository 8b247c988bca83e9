use Rattle.std.proofs.Common.{◌+◌, ◌∙◌, ℕ, List, take, sym, subst, arith}
use Rattle.token_system.specs.declared.cell.Token.TheVariants.{On}
use Rattle.instant_net.specs.declared.parts.Atom.{Atom}
use Rattle.instant_net.proofs.NetParts.{ask_fits, atom_read, cell_there}
use Rattle.parked_asks.specs.Watches.{asks_for, AddsAt}
use Rattle.parked_asks.proofs.Adds.{adds-again, adds-fresh, adds-all}
use Rattle.parked_asks.proofs.watch.add_guard.Goals as goal
use Rattle.parked_asks.proofs.watch.add_guard.Goals.{then-not-is_asked_for+in_ok-push, else-not-is_asked_for}

pub push-requires : goal.push-requires
push-requires c =
    let there = cell_there c.args.net.now.cells _ (atom_read c.args.net.now.cells _ c.ask-ask.result.now c.loop-place.place (record { cell = 0; token = On }) (ask_fits c.args.net.now c.ask-ask.ensures.net c.args.guard) c.ask-ask.ensures.ask c.loop-place-test.true) in
    let keys = c.requires.keys in
    let same = c.loop-place.invariant.keys in
    omega arith

pub loop-place-preserved : goal.loop-place-preserved
loop-place-preserved c =
    let there = cell_there c.args.net.now.cells _ (atom_read c.args.net.now.cells _ c.ask-ask.result.now c.loop-place.place (record { cell = 0; token = On }) (ask_fits c.args.net.now c.ask-ask.ensures.net c.args.guard) c.ask-ask.ensures.ask c.loop-place-test.true) in
    let keys = c.requires.keys in
    elim c.if-not-is_asked_for.branch [
      | then-not-is_asked_for+in_ok-push w ↦
          subst (λ (after : List (List ℕ)). AddsAt (λ cell. asks_for cell (take (c.loop-place.place + 1) c.ask-ask.result.now)) c.args.guard c.args.index.now after) (sym (w.index-is ∙ w.in_ok-push.ensures))
          (adds-fresh c.ask-ask.result.now c.loop-place.place (record { cell = 0; token = On }) c.loop-place-test.true c.args.guard c.args.index.now c.loop-place.index (omega arith) (sym c.is_asked_for.ensures ∙ w.if-not-is_asked_for.true) c.loop-place.invariant)
      | else-not-is_asked_for w ↦
          subst (λ (after : List (List ℕ)). AddsAt (λ cell. asks_for cell (take (c.loop-place.place + 1) c.ask-ask.result.now)) c.args.guard c.args.index.now after) (sym w.index-is)
          (adds-again c.ask-ask.result.now c.loop-place.place (record { cell = 0; token = On }) c.loop-place-test.true c.args.guard c.args.index.now c.loop-place.index (sym c.is_asked_for.ensures ∙ w.if-not-is_asked_for.false) c.loop-place.invariant)
    ]

pub returns : goal.returns
returns c =
    subst (λ (ask : List Atom). AddsAt (λ cell. asks_for cell ask) c.args.guard c.args.index.now c.loop-place.index) c.ask-ask.ensures.ask
    (adds-all c.ask-ask.result.now c.loop-place.place c.args.guard c.args.index.now c.loop-place.index c.loop-place-test.false c.loop-place.invariant)
