use Rattle.std.proofs.Common.{◌≡◌, ◌≤◌, ◌*◌, sum_by}
use Rattle.std.specs.List.{range_with_len}
use Rattle.duct_load.specs.Summary.{pairs_in_size}
use Rattle.duct_load.proofs.summary.pairs_of_section.Given as goal

-- how many pairs are there in the sizes so far
abbrev pub invariant-loop-k : goal.invariant-loop-k
invariant-loop-k l = record {
  count : l.count ≡ sum_by (pairs_in_size l.net l.s) (range_with_len 0 l.k);
  few : l.count ≤ 24 * l.k;
}
