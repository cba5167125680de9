-- A sweep over the needs of two fronts, in rising order.
--   cost_of offer              the cost of a point that is offered, if it is there
--   next_need points i         the need of the point at i, if there is one
--   last_cost points           the cost of the last point, if there is one
--   NeedsBelow need points     every need is below this one
--   NeedsFrom need points      no need is below this one
--   IsReadTo need points i     the first i points need less than this, and the others don't
--   Progress                   the points of both fronts, and how many of each are read
--   points_left progress       how many points of both are left to read
--   IsReached need progress    one of the fronts has its next point at this need
--   IsEven progress            both are fronts, and both are read up to one need
--   Steps old new step         the sweep goes to the next need of the two, with what both offer there
--   lesser_offer               the lesser of the costs that a step offers
use Rattle.std.specs.Prelude.{◌≡◌, ℕ, ◌+◌, ◌-◌, ◌<◌, ◌≤◌, ◌⊎◌, List, Option, Some}
use Rattle.std.specs.Prelude.{length, slice_get, take, drop, All}
use Rattle.std.specs.Option.{option_map}
use Rattle.pareto_front.specs.declared.point.Point.{Point}
use Rattle.pareto_front.specs.declared.sweep.Step.{Step}
use Rattle.duct_units.specs.Prices.{lesser}
use Rattle.pareto_front.specs.Front.{IsFront, cheapest}

-- the points of both fronts, and how many of each are read
pub record Progress : Type 0 where
  pub left : List Point
  pub right : List Point
  pub left_read : ℕ
  pub right_read : ℕ

-- the cost of a point that is offered
abbrev pub cost_of : Option Point → Option ℕ
cost_of offer = option_map (λ point. point.cost) offer

-- the cost of the last point
abbrev pub last_cost : List Point → Option ℕ
last_cost points = cost_of (slice_get points (length points - 1))

-- the lesser of the costs that both fronts offer
abbrev pub lesser_offer : Step → Option ℕ
lesser_offer step = lesser (cost_of step.left) (cost_of step.right)

-- the need of the next point, where i are read
abbrev pub next_need : List Point → ℕ → Option ℕ
next_need points i = option_map (λ point. point.need) (slice_get points i)

-- how many points of both are left to read
abbrev pub points_left : Progress → ℕ
points_left at = (length at.left - at.left_read) + (length at.right - at.right_read)

-- every need is below this one
abbrev pub NeedsBelow : ℕ → List Point → Type 0
NeedsBelow need points = All (λ point. point.need < need) points

-- no need is below this one
abbrev pub NeedsFrom : ℕ → List Point → Type 0
NeedsFrom need points = All (λ point. need ≤ point.need) points

-- the first i points are those that need less than this
pub record IsReadTo (need : ℕ) (points : List Point) (i : ℕ) : Type 0 where
  pub read : NeedsBelow need (take i points)
  pub rest : NeedsFrom need (drop i points)

-- both are fronts, and both are read up to one need
pub record IsEven (at : Progress) : Type 0 where
  pub need : ℕ
  pub left_front : IsFront at.left
  pub right_front : IsFront at.right
  pub left : IsReadTo need at.left at.left_read
  pub right : IsReadTo need at.right at.right_read

-- one of the fronts has its next point at this need
abbrev pub IsReached : ℕ → Progress → Type 0
IsReached need at =
    (next_need at.left at.left_read ≡ Some need) ⊎ (next_need at.right at.right_read ≡ Some need)

-- the sweep goes from the next need to just past it, and offers what both fronts cost there
pub record Steps (old new : Progress) (step : Step) : Type 0 where
  pub left_front : IsFront old.left
  pub right_front : IsFront old.right
  pub same_left : new.left ≡ old.left
  pub same_right : new.right ≡ old.right
  pub reached : IsReached step.need old
  pub left_before : IsReadTo step.need old.left old.left_read
  pub right_before : IsReadTo step.need old.right old.right_read
  pub left_after : IsReadTo (step.need + 1) new.left new.left_read
  pub right_after : IsReadTo (step.need + 1) new.right new.right_read
  pub left_price : cost_of step.left ≡ cheapest old.left step.need
  pub right_price : cost_of step.right ≡ cheapest old.right step.need
