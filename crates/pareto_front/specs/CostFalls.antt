-- Fronts added up by need: the first point of their sum, and what the cost falls by at each need. Needs are in dPa,
-- costs and falls in cents.
--   falls_to need falls              what the cost falls by at all needs up to this one
--   with_fall fall point points      the points with this one before them, if the cost falls there
--   points_after need cost falls     a point for each fall, where the first one is at this need, and the cost before it
--   points_of first falls            the first point, and one at each later need at which the cost falls
--   AreFalls first falls             the first point has its place, and what is later falls by no more than it costs
--   fronts_with parts sum            the parts, and at the end the sum of others, if there is one
use Rattle.std.specs.Prelude.{ℕ, ◌+◌, ◌-◌, ◌<◌, ◌≤◌, List, [], ◌∷◌, ◌++◌, Option, Some, None, length, take, drop, sum}
use Rattle.std.specs.Prelude.{nat_lt, if◌then◌else◌}
use Rattle.pareto_front.specs.declared.point.Point.{Point}

-- what the cost falls by at all needs up to this one
abbrev pub falls_to : ℕ → List ℕ → ℕ
falls_to need falls = sum (take (need + 1) falls)

-- the points with this one before them, if the cost falls there
abbrev pub with_fall : ℕ → Point → List Point → List Point
with_fall fall point points = if nat_lt 0 fall then point ∷ points else points

-- a point for each fall, where the first one is at this need, and the cost before it
abbrev pub points_after : ℕ → ℕ → List ℕ → List Point
points_after need cost [] = []
points_after need cost (fall ∷ falls) =
    with_fall fall (record { need = need; cost = cost - fall }) (points_after (need + 1) (cost - fall) falls)

-- the first point, and one at each later need at which the cost falls
abbrev pub points_of : Point → List ℕ → List Point
points_of first falls = first ∷ points_after (first.need + 1) first.cost (drop (first.need + 1) falls)

-- the first point has its place, and what is at later needs falls by no more than it costs
pub record AreFalls (first : Point) (falls : List ℕ) : Type 0 where
  pub in_range : first.need < length falls
  pub within : sum falls ≤ first.cost + falls_to first.need falls

-- the parts, and at the end the sum of others, if there is one
abbrev pub fronts_with : List (List Point) → Option (List Point) → List (List Point)
fronts_with parts None = parts
fronts_with parts (Some sum) = parts ++ sum ∷ []
