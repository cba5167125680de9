use Rattle.std.proofs.Common.{◌≡◌, Some, subst}
use Rattle.pareto_front.specs.declared.sweep.Step.{Step}
use Rattle.duct_units.specs.Prices.{lesser}
use Rattle.pareto_front.specs.Sweep.{next_need, Progress, Steps}
use Rattle.pareto_front.specs.SweepFields.{progress_of}
use Rattle.pareto_front.proofs.Even.{IsEven-reaches}
use Rattle.pareto_front.proofs.sweep.Sweep.next.Goals as goal

pub last_within-requires-clause-next : goal.last_within-requires-clause-next
last_within-requires-clause-next c =
    let at : Progress = progress_of c.self.inside.left c.self.inside.right in
    let least : lesser (next_need at.left at.left_read) (next_need at.right at.right_read) ≡ Some c.in_ok-need.need =
    cc (c.in_ok-need.ensures) in
    (IsEven-reaches at c.in_ok-need.need c.self.invariant least).left

pub last_within-requires-2-clause-next : goal.last_within-requires-2-clause-next
last_within-requires-2-clause-next c =
    let at : Progress = progress_of c.self.inside.left c.self.inside.right in
    let least : lesser (next_need at.left at.left_read) (next_need at.right at.right_read) ≡ Some c.in_ok-need.need =
    cc (c.in_ok-need.ensures) in
    (IsEven-reaches at c.in_ok-need.need c.self.invariant least).right

pub returns-clause-some : goal.returns-clause-some
returns-clause-some c =
    let at : Progress = progress_of c.self.inside.left c.self.inside.right in
    let least : lesser (next_need at.left at.left_read) (next_need at.right at.right_read) ≡ Some c.in_ok-need.need =
    cc (c.in_ok-need.ensures) in
    let reached = IsEven-reaches at c.in_ok-need.need c.self.invariant least in
    let new : Progress = progress_of c.last_within.new.self c.last_within-2.new.self in
    let step : Step = record { need = c.in_ok-need.need; left = c.last_within.result; right = c.last_within-2.result } in
    subst (λ old. Steps old new step) c.self.view_is
    (record {
      left_front = c.self.invariant.left_front;
      right_front = c.self.invariant.right_front;
      same_left = c.last_within.ensures.points;
      same_right = c.last_within-2.ensures.points;
      reached = reached.one;
      left_before = reached.left;
      right_before = reached.right;
      left_after = c.last_within.ensures.read;
      right_after = c.last_within-2.ensures.read;
      left_price = c.last_within.ensures.cost;
      right_price = c.last_within-2.ensures.cost;
    })
