use Rattle.std.proofs.Common.{◌≡◌, ◌<◌, All, length}
use Rattle.settle.proofs.tests.rising_levels.Given as goal

abbrev pub invariant-loop-level : goal.invariant-loop-level
invariant-loop-level l = record {
  long : length l.list.items ≡ l.level;
  small : All (λ n. n < 1024) l.list.items;
}
