-- The fans on offer at an airflow.
--   offered fans terms flow         the fans that serve it, in order, each at its price and the cost of its energy
use Rattle.std.specs.Prelude.{ℕ, ◌+◌, List, map, filter}
use Rattle.duct_definitions.specs.declared.design.NetFan.{NetFan}
use Rattle.fan_points.specs.declared.row.FanRow.{FanRow}
use Rattle.fan_points.specs.declared.terms.Energy.{Energy}
use Rattle.fan_points.specs.Energy.{energy_of, serves}

-- the fan at its price and the cost of its energy, cents
abbrev pub fan_at_cost : Energy → FanRow → NetFan
fan_at_cost terms fan =
    record { name = fan.name; pressure = fan.pressure; cost = fan.price + energy_of fan terms }

-- the fans that serve the airflow, in order, each at its price and the cost of its energy
abbrev pub offered : List FanRow → Energy → ℕ → List NetFan
offered fans terms flow = map (fan_at_cost terms) (filter (serves flow) fans)
