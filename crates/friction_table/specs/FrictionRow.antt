-- What a row of a friction file says.
use Rattle.std.specs.Prelude.{Option, Some}
use Rattle.duct_units.specs.Options.{◌>>=◌}
use Rattle.file_definitions.specs.Rows.{Row, name_field, number_field}
use Rattle.duct_definitions.specs.declared.airflow.TheConstants.{MAX_FLOW}
use Rattle.friction_table.specs.declared.limits.TheConstants.{MIN_FLOW, MAX_RATE}
use Rattle.friction_table.specs.declared.row.FrictionRow.{FrictionRow}

-- what the row says; none where a field isn't of its form or lies out of its bound
abbrev pub row_of_fields : Row → Option FrictionRow
row_of_fields row = do
  size ← name_field row 0
  flow ← number_field row 1 MIN_FLOW MAX_FLOW
  rate ← number_field row 2 0 MAX_RATE
  Some (record { size = size; at = record { flow = flow; rate = rate } })
