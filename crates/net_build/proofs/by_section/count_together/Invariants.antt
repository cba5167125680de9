use Rattle.std.proofs.Common.{◌≡◌, map, take, sum_by}
use Rattle.net_build.specs.Refusals.{counts_from, count_of}
use Rattle.net_build.proofs.by_section.count_together.Given as goal

-- the counts so far
abbrev pub invariant-loop-i : goal.invariant-loop-i
invariant-loop-i g l =
    l.refusals.items ≡ counts_from (λ i. sum_by (count_of i) l.fn.sections) 0 (map g.R.SizeRule.label (take l.i l.rules.items))
