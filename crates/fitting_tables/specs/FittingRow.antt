-- What a row of a fittings file says.
use Rattle.std.specs.Prelude.{Option, Some}
use Rattle.duct_units.specs.Options.{◌>>=◌}
use Rattle.file_definitions.specs.Rows.{Row, name_field, number_field, integer_field}
use Rattle.fitting_tables.specs.declared.limits.TheConstants.{MAX_RATIO, MIN_VALUE, MAX_VALUE}
use Rattle.fitting_tables.specs.declared.row.FittingRow.{FittingRow}

-- what the row says; none where a field isn't of its form or lies out of its bound
abbrev pub row_of_fields : Row → Option FittingRow
row_of_fields row = do
  table ← name_field row 0
  area ← number_field row 1 0 MAX_RATIO
  flow ← number_field row 2 0 MAX_RATIO
  value ← integer_field row 3 MIN_VALUE MAX_VALUE
  Some (record { table = table; cell = record { area = area; flow = flow; value = value } })
