-- The ways to share one fan's pressure out between the two sides, and the first cheapest of them.
--   share number fan point rest            the point for the supply side, and the rest of the pressure for the other
--   share_at number fan back point         the same with the cheapest of the return side, where the pressure covers it
--   shares number fan supply back k        the share of the supply point at place k
--   best_shared number fan supply back     the first cheapest share of one fan
use Rattle.std.specs.Prelude.{ℕ, ◌+◌, ◌-◌, List, length, Option, Some, None, nat_le, slice_get, if◌then◌else◌}
use Rattle.std.specs.Option.{option_and_then}
use Rattle.duct_definitions.specs.declared.design.NetFan.{NetFan}
use Rattle.pareto_front.specs.declared.point.Point.{Point}
use Rattle.pareto_front.specs.Front.{cheapest}
use Rattle.fan_choice.specs.declared.choice.Choice.{Choice}
use Rattle.fan_choice.specs.FirstCheapest.{first_cheapest}

-- the point for the supply side, and for the return side the rest of the pressure, where it buys something
abbrev pub share : ℕ → NetFan → Point → Option ℕ → Option Choice
share number fan point None = None
share number fan point (Some rest) = Some (record {
  fan = number;
  back = None;
  cost = fan.cost + (point.cost + rest);
  supply_budget = point.need;
  return_budget = fan.pressure - point.need;
})

-- the share of the point with the cheapest that the rest of the pressure buys, where the pressure covers the point
abbrev pub share_at : ℕ → NetFan → List Point → Point → Option Choice
share_at number fan back point =
    if nat_le point.need fan.pressure
    then share number fan point (cheapest back (fan.pressure - point.need))
    else None

-- the share of the supply point at place k
abbrev pub shares : ℕ → NetFan → List Point → List Point → ℕ → Option Choice
shares number fan supply back k = option_and_then (share_at number fan back) (slice_get supply k)

-- the first cheapest share of one fan
unfoldable pub best_shared : ℕ → NetFan → List Point → List Point → Option Choice
best_shared number fan supply back =
    first_cheapest (λ choice. choice.cost) (shares number fan supply back) (length supply)
