-- What is kept of prices that come in the order of their needs. Needs are in dPa, costs and prices in cents.
--   is_no_cheaper cost last          the cost is at least the last one so far; never where there is none
--   with_cheaper need price points   the points, and at the end the one of the price where it is below the last cost
use Rattle.std.specs.Prelude.{ℕ, Bool, false, List, [], ◌∷◌, ◌++◌, Option, Some, None, nat_le, if◌then◌else◌}
use Rattle.pareto_front.specs.declared.point.Point.{Point}
use Rattle.pareto_front.specs.Sweep.{last_cost}

-- the cost is at least the last one so far
abbrev pub is_no_cheaper : ℕ → Option ℕ → Bool
is_no_cheaper cost None = false
is_no_cheaper cost (Some last) = nat_le last cost

-- the points, and at their end the one of the price at the need, where it is below the last cost so far
abbrev pub with_cheaper : ℕ → Option ℕ → List Point → List Point
with_cheaper need None points = points
with_cheaper need (Some cost) points =
    if is_no_cheaper cost (last_cost points) then points else points ++ record { need = need; cost = cost } ∷ []
