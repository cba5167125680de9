-- The least price at each need, by need. ABSENT stands for a need at which there is none.
--   shown price                    the price, or none for ABSENT
--   with_price price need points   the points with the one of the price before them, if it is there
--   points_from need prices        a point for each price that is there, where the first price is at this need
--   AreAbsent prices               no price is there
--   AreBetween from until prices   no price is there at a need below from, and none from until on
use Rattle.std.specs.Prelude.{ℕ, ◌+◌, ◌≤◌, List, [], ◌∷◌, Option, Some, None, length, take, drop, All}
use Rattle.std.specs.Prelude.{nat_lt, if◌then◌else◌}
use Rattle.pareto_front.specs.declared.point.Point.{Point}
use Rattle.pareto_front.specs.declared.least_prices.TheConstants.{ABSENT}

-- the price, or none for ABSENT
abbrev pub shown : ℕ → Option ℕ
shown price = if nat_lt price ABSENT then Some price else None

-- the points with the one of the price at the need before them, if it is there
abbrev pub with_price : Option ℕ → ℕ → List Point → List Point
with_price None need points = points
with_price (Some price) need points = record { need = need; cost = price } ∷ points

-- a point for each price that is there, where the first price is at this need
abbrev pub points_from : ℕ → List ℕ → List Point
points_from need [] = []
points_from need (price ∷ prices) = with_price (shown price) need (points_from (need + 1) prices)

-- no price is there
abbrev pub AreAbsent : List ℕ → Type 0
AreAbsent prices = All (λ price. ABSENT ≤ price) prices

-- no price is there at a need below from, and none from until on; neither is past the last need
pub record AreBetween (from until : ℕ) (prices : List ℕ) : Type 0 where
  pub starts : from ≤ length prices
  pub ends : until ≤ length prices
  pub before : AreAbsent (take from prices)
  pub after : AreAbsent (drop until prices)
