use Rattle.std.proofs.Common.{◌+◌, ◌≤◌, ◌<◌, ℕ, length, take, get_or}
use Rattle.std.specs.Prelude.{Contains, IsTrue, slice_get}
use Rattle.token_system.specs.declared.cell.Token.TheVariants.{On}
use Rattle.instant_net.specs.declared.parts.Atom.{Atom}
use Rattle.parked_asks.specs.Held.{is_noted}
use Rattle.parked_asks.specs.Watches.{watchers, IsWatchOf}
use Rattle.settle.specs.Asking.{is_held, NotesMore}
use Rattle.settle.specs.Evaluations.{watch_count}
use Rattle.settle.proofs.asking.ask_again.Given as goal

abbrev pub invariant-loop-atom : goal.invariant-loop-atom
invariant-loop-atom g l = record {
  watch : IsWatchOf l.net l.watch;
  notes : NotesMore l.net l.words l.fn.watch.asks l.watch.asks;
  held : (a : Atom) (k : ℕ) → Contains (take l.atom-index l.atom-items) a → Contains (watchers l.net a.cell) k → IsTrue (is_held l.net l.words k) → IsTrue (is_noted l.watch.asks.held k);
  count : l.steps ≤ l.fn.steps + watch_count l.net (take l.atom-index l.atom-items);
}
