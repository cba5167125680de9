-- What a front stands for. Needs, losses and budgets are in dPa, costs and prices in cents.
--   IsFront points                    needs strictly rise and costs strictly fall; the empty list is a front
--   cheapest front budget             the cost of the last point whose need is within the budget, or none
--   IsBelowFirst budget front         the budget is below the first need, or the front is empty
--   moved_by loss price point         the point that needs the loss more and costs the price more
--   shifted front loss price budget   the cheapest at the budget less the loss, plus the price, or none
--   CostsNoMore new old               the new cost is at most the old one, or there is no old one
--   NeedsWithin most front            no need of the front is above this
--   CostsWithin most front            no cost of the front is above this
use Rattle.std.specs.Prelude.{ℕ, ◌+◌, ◌-◌, ◌<◌, ◌≤◌, List, [], ◌∷◌, Option, Some, None}
use Rattle.std.specs.Prelude.{nat_le, if◌then◌else◌, IsSomeAnd, All, ⊤}
use Rattle.std.specs.Option.{option_or, option_map, ForSome}
use Rattle.pareto_front.specs.declared.point.Point.{Point}

-- the point needs less and costs more than the next one, if there is one
abbrev pub IsBefore : Point → List Point → Type 0
IsBefore point [] = ⊤
IsBefore point (next ∷ later) = (point.need < next.need) × (next.cost < point.cost)

-- each point needs less and costs more than the next one
abbrev pub IsFront : List Point → Type 0
IsFront [] = ⊤
IsFront (point ∷ later) = IsBefore point later × IsFront later

-- the cost of the point, if its need is within the budget
abbrev pub price_of : Point → ℕ → Option ℕ
price_of point budget = if nat_le point.need budget then Some point.cost else None

-- the cost of the last point whose need is within the budget
abbrev pub cheapest : List Point → ℕ → Option ℕ
cheapest [] budget = None
cheapest (point ∷ later) budget = option_or (cheapest later budget) (price_of point budget)

-- the budget is below the first need, or there is none
abbrev pub IsBelowFirst : ℕ → List Point → Type 0
IsBelowFirst budget [] = ⊤
IsBelowFirst budget (first ∷ later) = budget < first.need

-- the point that needs the loss more and costs the price more
abbrev pub moved_by : ℕ → ℕ → Point → Point
moved_by loss price point = record { need = point.need + loss; cost = point.cost + price }

-- the cost with the price added, if there is one
abbrev pub plus : ℕ → Option ℕ → Option ℕ
plus price cost = option_map (λ c. c + price) cost

-- the cheapest of what needs the loss more and costs the price more
abbrev pub shifted : List Point → ℕ → ℕ → ℕ → Option ℕ
shifted front loss price budget =
    if nat_le loss budget then plus price (cheapest front (budget - loss)) else None

-- the new cost is at most the old one, if there is an old one
abbrev pub CostsNoMore : Option ℕ → Option ℕ → Type 0
CostsNoMore new old = ForSome old (λ was. IsSomeAnd new (λ is. is ≤ was))

-- no need is above this
abbrev pub NeedsWithin : ℕ → List Point → Type 0
NeedsWithin most front = All (λ point. point.need ≤ most) front

-- no cost is above this
abbrev pub CostsWithin : ℕ → List Point → Type 0
CostsWithin most front = All (λ point. point.cost ≤ most) front
