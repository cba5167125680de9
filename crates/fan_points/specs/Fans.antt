-- A catalogue of fan points.
use Rattle.std.specs.Prelude.{ℕ, ◌≤◌, List, length, map, All}
use Rattle.duct_definitions.specs.Network.{AreNames}
use Rattle.fan_points.specs.declared.limits.TheConstants.{MAX_POINTS}
use Rattle.fan_points.specs.declared.row.FanRow.{FanRow}
use Rattle.fan_points.specs.FanRow.{IsFanInBounds}

-- the fan is within its bounds, and its high isn't below its low
pub record IsFan (fan : FanRow) : Type 0 where
  pub bounds : IsFanInBounds fan
  pub order : fan.low ≤ fan.high

-- the names of the fans, in order
abbrev pub names_of : List FanRow → List (List ℕ)
names_of fans = map (λ fan. fan.name) fans

-- at most 64 fans, each within its bounds, no two of one name
pub record IsFans (fans : List FanRow) : Type 0 where
  pub few : length fans ≤ MAX_POINTS
  pub bounds : All IsFan fans
  pub names : AreNames (names_of fans)
