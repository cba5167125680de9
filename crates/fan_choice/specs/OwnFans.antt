-- A fan on each side: the return side's own fan doesn't depend on the other, so it is found once.
--   last_within points budget              the last point whose need is within the budget, or none
--   return_offer number fan back           a return fan with the cheapest that its pressure buys, if anything
--   best_return net back                   the first cheapest of these
--   beside number fan point own            the fan with the point for the supply side, beside the own fan of the other
--   best_beside number fan supply own      the same with the last point within the fan's pressure
--   best_of number fan supply back own     the best of one fan: it is shared, or stands beside the return side's own
use Rattle.std.specs.Prelude.{ℕ, ◌+◌, List, [], ◌∷◌, length, Option, Some, None, nat_le, if◌then◌else◌}
use Rattle.std.specs.Option.{option_and_then, option_map, option_or}
use Rattle.duct_definitions.specs.declared.design.NetFan.{NetFan}
use Rattle.duct_definitions.specs.Network.{Network, return_fan_at}
use Rattle.pareto_front.specs.declared.point.Point.{Point}
use Rattle.fan_choice.specs.declared.choice.Choice.{Choice}
use Rattle.fan_choice.specs.declared.own_fans.ReturnOffer.{ReturnOffer}
use Rattle.fan_choice.specs.FirstCheapest.{cheaper, first_cheapest}
use Rattle.fan_choice.specs.Sharing.{best_shared}

-- the point, where its need is within the budget
abbrev pub if_within : Point → ℕ → Option Point
if_within point budget = if nat_le point.need budget then Some point else None

-- the last point whose need is within the budget
abbrev pub last_within : List Point → ℕ → Option Point
last_within [] budget = None
last_within (point ∷ later) budget = option_or (last_within later budget) (if_within point budget)

-- a return fan with the cheapest that its pressure buys
abbrev pub return_offer : ℕ → NetFan → List Point → Option ReturnOffer
return_offer number fan back =
    option_map (λ point. record { number = number; pressure = fan.pressure; cost = fan.cost + point.cost })
    (last_within back fan.pressure)

-- the offer of the network's return fan j
abbrev pub return_offers : Network → List Point → ℕ → Option ReturnOffer
return_offers net back j = return_offer j (return_fan_at net j) back

-- the first cheapest return fan with what its pressure buys
abbrev pub best_return : Network → List Point → Option ReturnOffer
best_return net back = first_cheapest (λ offer. offer.cost) (return_offers net back) (length net.return_fans)

-- the fan with the point for the supply side, beside the return side's own fan
abbrev pub beside : ℕ → NetFan → ReturnOffer → Point → Choice
beside number fan own point = record {
  fan = number;
  back = Some own.number;
  cost = fan.cost + (point.cost + own.cost);
  supply_budget = point.need;
  return_budget = own.pressure;
}

-- the same with the last supply point within the fan's pressure
abbrev pub best_beside : ℕ → NetFan → List Point → Option ReturnOffer → Option Choice
best_beside number fan supply own =
    option_and_then (λ offer. option_map (beside number fan offer) (last_within supply fan.pressure)) own

-- the cheaper of the best share of one fan and of the fan beside the return side's own; of equal ones the share
abbrev pub best_of : ℕ → NetFan → List Point → List Point → Option ReturnOffer → Option Choice
best_of number fan supply back own =
    cheaper (λ choice. choice.cost) (best_shared number fan supply back) (best_beside number fan supply own)
