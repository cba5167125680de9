-- What fronts cost together, where all of them share one budget. Budgets are in dPa, costs in cents.
--   together fronts budget      what all fronts cost together within the budget, or none; 0 of no front
--   greatest_cost front         the greatest cost of a point, 0 of no point
--   greatest_together fronts    the sum of the greatest costs of all fronts
--   IsBoth first second both    the two fronts in one
--   IsTotal fronts total        the front of what these fronts cost together
--   CostsAlike old new          the new fronts cost together what the old ones do, and keep to the same bounds
use Rattle.std.specs.Prelude.{◌≡◌, ℕ, ◌+◌, ◌≤◌, List, [], ◌∷◌, Option, Some, All, sum_by, max}
use Rattle.pareto_front.specs.declared.point.Point.{Point}
use Rattle.duct_units.specs.Prices.{both_of}
use Rattle.pareto_front.specs.Front.{NeedsWithin, CostsWithin, cheapest}

-- what all fronts cost together within the budget
abbrev pub together : List (List Point) → ℕ → Option ℕ
together [] budget = Some 0
together (front ∷ fronts) budget = both_of (cheapest front budget) (together fronts budget)

-- the greatest cost of a point, 0 of no point
abbrev pub greatest_cost : List Point → ℕ
greatest_cost [] = 0
greatest_cost (point ∷ points) = max point.cost (greatest_cost points)

-- the sum of the greatest costs of all fronts
abbrev pub greatest_together : List (List Point) → ℕ
greatest_together fronts = sum_by greatest_cost fronts

-- the two fronts in one, with needs and costs in the bounds of both
pub record IsBoth (first second both : List Point) : Type 0 where
  pub value : (budget : ℕ) → cheapest both budget ≡ both_of (cheapest first budget) (cheapest second budget)
  pub needs : (most : ℕ) → NeedsWithin most first → NeedsWithin most second → NeedsWithin most both
  pub costs : (x y : ℕ) → CostsWithin x first → CostsWithin y second → CostsWithin (x + y) both

-- the front of what these fronts cost together, with needs and costs in their bounds
pub record IsTotal (fronts : List (List Point)) (total : List Point) : Type 0 where
  pub value : (budget : ℕ) → cheapest total budget ≡ together fronts budget
  pub needs : (most : ℕ) → All (NeedsWithin most) fronts → NeedsWithin most total
  pub costs : CostsWithin (greatest_together fronts) total

-- the new fronts cost together what the old ones do at every budget, and keep to the same bounds
pub record CostsAlike (old new : List (List Point)) : Type 0 where
  pub value : (budget : ℕ) → together new budget ≡ together old budget
  pub needs : (most : ℕ) → All (NeedsWithin most) old → All (NeedsWithin most) new
  pub costs : greatest_together new ≤ greatest_together old
