use Rattle.std.proofs.Common.{arith}
use Rattle.pareto_front.proofs.Summed.{last_sum-fits, next_here, no_point, part_within}
use Rattle.pareto_front.proofs.SummedStart.{IsSummed-start}
use Rattle.pareto_front.proofs.SummedOn.{reach_both, reach_left, reach_right, right_at_end, left_at_end, push_both, push_left, push_right, fewer_left}
use Rattle.pareto_front.proofs.sums.both_points.Goals as goal

pub last_costs-requires-clause-fits : goal.last_costs-requires-clause-fits
last_costs-requires-clause-fits c = last_sum-fits _ _ c.requires.fits c.max-need.result _ _ c.points_within-i.ensures.read c.points_within-j.ensures.read

pub loop-i-init : goal.loop-i-init
loop-i-init c = rw (c.in_ok-push.ensures.items, c.in_ok-points.ensures.items) (
    IsSummed-start c.args.a.now c.args.b.now c.in-Some-Some.first.now c.in-Some-Some.other.now c.max-need.result _ _ c.last_costs.result
    c.requires.a_front c.requires.b_front c.in-Some-Some.ensures.value c.in-Some-Some.ensures'.value c.max-need.ensures
    c.points_within-i.ensures.read c.points_within-j.ensures.read
    (part_within _ c.args.a.now c.points_within-i.ensures.part) (part_within _ c.args.b.now c.points_within-j.ensures.part) c.last_costs.ensures)

pub read_past-i-requires-clause-before : goal.read_past-i-requires-clause-before
read_past-i-requires-clause-before c = (reach_both _ _ _ _ _ c.loop-i.invariant c.min-need.result c.loop-i-test.true c.if-j-b.true c.min-need.ensures).left

pub read_past-j-requires-clause-before : goal.read_past-j-requires-clause-before
read_past-j-requires-clause-before c = (reach_both _ _ _ _ _ c.loop-i.invariant c.min-need.result c.loop-i-test.true c.if-j-b.true c.min-need.ensures).right

pub last_costs-requires-in-loop-i-clause-fits : goal.last_costs-requires-in-loop-i-clause-fits
last_costs-requires-in-loop-i-clause-fits c = last_sum-fits _ _ c.requires.fits c.min-need.result _ _ c.read_past-i.ensures.past c.read_past-j.ensures.past

pub loop-i-preserved : goal.loop-i-preserved
loop-i-preserved c = rw c.in_ok-push-2.ensures.items (
    push_both _ _ _ _ _ c.loop-i.invariant c.min-need.result _ _ _ c.loop-i-test.true c.if-j-b.true c.min-need.ensures
    c.read_past-i.ensures.past c.read_past-j.ensures.past c.read_past-i.ensures.forward c.read_past-j.ensures.forward c.read_past-i.ensures.bound c.read_past-j.ensures.bound c.last_costs-in-loop-i.ensures)

pub loop-i-smaller : goal.loop-i-smaller
loop-i-smaller c = fewer_left _ _ _ _ _ _ _ (reach_both _ _ _ _ _ c.loop-i.invariant c.min-need.result c.loop-i-test.true c.if-j-b.true c.min-need.ensures) c.read_past-i.ensures.onward c.read_past-j.ensures.onward c.read_past-i.ensures.forward c.read_past-j.ensures.forward c.read_past-i.ensures.bound c.read_past-j.ensures.bound

pub read_past-i-requires-in-loop-i-2-clause-before : goal.read_past-i-requires-in-loop-i-2-clause-before
read_past-i-requires-in-loop-i-2-clause-before c = (reach_left _ _ _ _ _ c.loop-i-2.invariant.0 c.loop-i-2-test.true (c.loop-i-2.invariant.1 c.loop-i-2-test.true)).left

pub last_costs-requires-in-loop-i-2-clause-fits : goal.last_costs-requires-in-loop-i-2-clause-fits
last_costs-requires-in-loop-i-2-clause-fits c = last_sum-fits _ _ c.requires.fits _ _ _ c.read_past-i-in-loop-i-2.ensures.past (right_at_end _ _ _ _ _ c.loop-i-2.invariant.0 c.loop-i-2-test.true (c.loop-i-2.invariant.1 c.loop-i-2-test.true))

pub loop-i-2-preserved : goal.loop-i-2-preserved
loop-i-2-preserved c = (
  rw c.in_ok-push-3.ensures.items (
      push_left _ _ _ _ _ c.loop-i-2.invariant.0 _ _ c.loop-i-2-test.true (c.loop-i-2.invariant.1 c.loop-i-2-test.true) c.read_past-i-in-loop-i-2.ensures.past c.read_past-i-in-loop-i-2.ensures.forward c.read_past-i-in-loop-i-2.ensures.bound c.last_costs-in-loop-i-2.ensures),
  λ further. c.loop-i-2.invariant.1 c.loop-i-2-test.true,
)

pub loop-i-2-smaller : goal.loop-i-2-smaller
loop-i-2-smaller c = let on = c.read_past-i-in-loop-i-2.ensures.onward (next_here _ _ no_point c.loop-i-2-test.true) in omega arith

pub read_past-j-requires-in-loop-j-clause-before : goal.read_past-j-requires-in-loop-j-clause-before
read_past-j-requires-in-loop-j-clause-before c = (reach_right _ _ _ _ _ c.loop-j.invariant.0 c.loop-j.invariant.1 c.loop-j-test.true).right

pub last_costs-requires-in-loop-j-clause-fits : goal.last_costs-requires-in-loop-j-clause-fits
last_costs-requires-in-loop-j-clause-fits c = last_sum-fits _ _ c.requires.fits _ _ _ (left_at_end _ _ _ _ _ c.loop-j.invariant.0 c.loop-j.invariant.1 c.loop-j-test.true) c.read_past-j-in-loop-j.ensures.past

pub loop-j-preserved : goal.loop-j-preserved
loop-j-preserved c = (
  rw c.in_ok-push-4.ensures.items (
      push_right _ _ _ _ _ c.loop-j.invariant.0 _ _ c.loop-j.invariant.1 c.loop-j-test.true c.read_past-j-in-loop-j.ensures.past c.read_past-j-in-loop-j.ensures.forward c.read_past-j-in-loop-j.ensures.bound c.last_costs-in-loop-j.ensures),
  c.loop-j.invariant.1,
)

pub loop-j-smaller : goal.loop-j-smaller
loop-j-smaller c = let on = c.read_past-j-in-loop-j.ensures.onward (next_here _ _ no_point c.loop-j-test.true) in omega arith
