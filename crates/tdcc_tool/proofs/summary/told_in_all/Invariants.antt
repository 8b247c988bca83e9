use Rattle.std.proofs.Common.{◌≡◌, ◌≤◌, ◌*◌, take, length}
use Rattle.std.specs.Prelude.{filter}
use Rattle.std.specs.List.{range_with_len, sum_by}
use Rattle.tdcc_tool.specs.RunTexts.{is_told}
use Rattle.tdcc_tool.proofs.summary.told_in_all.Given as goal

abbrev pub invariant-loop-store : goal.invariant-loop-store
invariant-loop-store l = record {
  sum : l.told ≡ sum_by (λ v. length (filter (is_told v) (range_with_len 0 l.declared))) (take l.store-index l.stores);
  few : l.told ≤ l.store-index * 4294967296;
}
