-- Points that are laid in any order, and what they cost at least. Needs and budgets are in dPa, costs in cents.
--   least_among points budget   the least cost of a point whose need is within the budget, or none
--   Laying                      the greatest need that is laid, and the points that are
use Rattle.std.specs.Prelude.{ℕ, List, [], ◌∷◌, Option, None}
use Rattle.duct_units.specs.Prices.{lesser}
use Rattle.pareto_front.specs.declared.point.Point.{Point}
use Rattle.pareto_front.specs.Front.{price_of}

-- the least cost of a point whose need is within the budget
abbrev pub least_among : List Point → ℕ → Option ℕ
least_among [] budget = None
least_among (point ∷ points) budget = lesser (price_of point budget) (least_among points budget)

-- the greatest need that is laid, and the points that are
pub record Laying : Type 0 where
  pub cap : ℕ
  pub points : List Point
