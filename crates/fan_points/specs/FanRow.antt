-- What a row of a fans file says.
use Rattle.std.specs.Prelude.{◌≤◌, Option, Some, IsTrue}
use Rattle.duct_units.specs.Options.{◌>>=◌}
use Rattle.duct_units.specs.Name.{is_name}
use Rattle.file_definitions.specs.Rows.{Row, name_field, number_field}
use Rattle.fan_points.specs.declared.limits.TheConstants.{MIN_FAN_PRESSURE, MAX_FAN_PRESSURE, MAX_FAN_FLOW, MAX_FAN_PRICE, MAX_WATTS}
use Rattle.fan_points.specs.declared.row.FanRow.{FanRow}

-- what the row says; none where a field isn't of its form or lies out of its bound
abbrev pub fan_of_row : Row → Option FanRow
fan_of_row row = do
  name ← name_field row 0
  pressure ← number_field row 1 MIN_FAN_PRESSURE MAX_FAN_PRESSURE
  low ← number_field row 2 0 MAX_FAN_FLOW
  high ← number_field row 3 0 MAX_FAN_FLOW
  price ← number_field row 4 0 MAX_FAN_PRICE
  watts ← number_field row 5 0 MAX_WATTS
  Some (record { name = name; pressure = pressure; low = low; high = high; price = price; watts = watts })

-- every field has its form and lies within its bound
pub record IsFanInBounds (fan : FanRow) : Type 0 where
  pub name : IsTrue (is_name fan.name)
  pub pressure : (MIN_FAN_PRESSURE ≤ fan.pressure) × (fan.pressure ≤ MAX_FAN_PRESSURE)
  pub low : fan.low ≤ MAX_FAN_FLOW
  pub high : fan.high ≤ MAX_FAN_FLOW
  pub price : fan.price ≤ MAX_FAN_PRICE
  pub watts : fan.watts ≤ MAX_WATTS
