use Rattle.std.proofs.Common.{◌≡◌, ◌≤◌, ◌*◌, sum_by}
use Rattle.std.specs.List.{range_with_len}
use Rattle.duct_load.specs.Summary.{pairs_of_section}
use Rattle.duct_load.proofs.summary.pair_count.Given as goal

-- how many pairs are there in the sections so far
abbrev pub invariant-loop-s : goal.invariant-loop-s
invariant-loop-s l = record {
  count : l.count ≡ sum_by (pairs_of_section l.net) (range_with_len 0 l.s);
  few : l.count ≤ 576 * l.s;
}
