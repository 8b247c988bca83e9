use Rattle.std.proofs.Common.{◌≡◌, ◌⊎◌, inl, inr, ◌+◌, ℕ, List, take, ap, ◌∙◌, sym, subst, arith}
use Rattle.std.specs.Prelude.{Contains, IsTrue, slice_get}
use Rattle.std.proofs.lemmas.List.{take_more, take_all}
use Rattle.std.proofs.lemmas.List.Elements.{Contains-push_cases}
use Rattle.token_system.specs.declared.cell.Token.TheVariants.{On}
use Rattle.instant_net.specs.declared.parts.Atom.{Atom}
use Rattle.instant_net.specs.Readers.{leaf_tells_of}
use Rattle.instant_net.proofs.NetParts.{tells_fit, atom_read, cell_there}
use Rattle.parked_asks.specs.Held.{is_noted}
use Rattle.parked_asks.specs.Watches.{watchers}
use Rattle.settle.specs.Asking.{is_held}
use Rattle.settle.proofs.Evaluating.{watching-next, watching-all}
use Rattle.settle.proofs.Noting.{notes-then, noted-next}
use Rattle.settle.proofs.asking.ask_again.Goals as goal

pub ask_watchers-requires-clause-cell : goal.ask_watchers-requires-clause-cell
ask_watchers-requires-clause-cell g c =
    cell_there c.args.net.now.cells _
    (atom_read c.args.net.now.cells _ c.tells-atom-items.result.now c.loop-atom.atom-index (record { cell = 0; token = On }) (tells_fit c.args.net.now c.tells-atom-items.ensures.net c.args.leaf) c.tells-atom-items.ensures.tells c.loop-atom-test.true)

pub loop-atom-preserved : goal.loop-atom-preserved
loop-atom-preserved g c =
    let more = watching-next c.args.net.now c.tells-atom-items.result.now c.loop-atom.atom-index (record { cell = 0; token = On }) c.loop-atom-test.true in
    let before = c.loop-atom.invariant.count in
    let now = c.ask_watchers.ensures.steps in
    record {
      watch = c.ask_watchers.ensures.watch;
      notes = notes-then c.args.net.now c.args.words.now c.args.watch.now.asks c.loop-atom.watch.asks c.ask_watchers.new.watch.asks c.loop-atom.invariant.notes c.ask_watchers.ensures.notes;
      held = noted-next c.args.net.now c.args.words.now c.tells-atom-items.result.now c.loop-atom.atom-index (record { cell = 0; token = On }) c.loop-atom-test.true c.loop-atom.watch.asks c.ask_watchers.new.watch.asks c.ask_watchers.ensures.notes
          c.loop-atom.invariant.held c.ask_watchers.ensures.held;
      count = omega arith;
    }

pub returns-clause-held : goal.returns-clause-held
returns-clause-held g c =
    subst (λ (atoms : List Atom). (a : Atom) (k : ℕ) → Contains atoms a → Contains (watchers c.args.net.now a.cell) k → IsTrue (is_held c.args.net.now c.args.words.now k) → IsTrue (is_noted c.loop-atom.watch.asks.held k))
    (take_all c.loop-atom.atom-index c.tells-atom-items.result.now c.loop-atom-test.false ∙ c.tells-atom-items.ensures.tells) c.loop-atom.invariant.held
