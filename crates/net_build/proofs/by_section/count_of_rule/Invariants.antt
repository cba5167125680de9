use Rattle.std.proofs.Common.{◌≡◌, take, sum_by}
use Rattle.net_build.specs.Refusals.{count_of}
use Rattle.net_build.proofs.by_section.count_of_rule.Given as goal

-- the count so far
abbrev pub invariant-loop-section : goal.invariant-loop-section
invariant-loop-section l = l.count ≡ sum_by (count_of l.i) (take l.section-index l.sections)
