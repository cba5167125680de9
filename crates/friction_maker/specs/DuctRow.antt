-- What a row of a ducts file says.
use Rattle.std.specs.Prelude.{◌≤◌, Option, Some, IsTrue}
use Rattle.duct_units.specs.Options.{◌>>=◌}
use Rattle.duct_units.specs.Name.{is_name}
use Rattle.file_definitions.specs.Rows.{Row, name_field, number_field}
use Rattle.duct_definitions.specs.declared.airflow.TheConstants.{MAX_FLOW}
use Rattle.friction_table.specs.declared.limits.TheConstants.{MIN_FLOW, MAX_ROWS}
use Rattle.friction_maker.specs.declared.limits.TheConstants.{MIN_DIAMETER, MAX_DIAMETER, MAX_ROUGH, MIN_ROWS}
use Rattle.friction_maker.specs.declared.row.DuctRow.{DuctRow}

-- what the row says; none where a field isn't of its form or lies out of its bound
abbrev pub duct_of_row : Row → Option DuctRow
duct_of_row row = do
  size ← name_field row 0
  diameter ← number_field row 1 MIN_DIAMETER MAX_DIAMETER
  rough ← number_field row 2 0 MAX_ROUGH
  flow ← number_field row 3 MIN_FLOW MAX_FLOW
  rows ← number_field row 4 MIN_ROWS MAX_ROWS
  Some (record { size = size; diameter = diameter; rough = rough; flow = flow; rows = rows })

-- every field has its form and lies within its bound
pub record IsRowInBounds (row : DuctRow) : Type 0 where
  pub size : IsTrue (is_name row.size)
  pub diameter : (MIN_DIAMETER ≤ row.diameter) × (row.diameter ≤ MAX_DIAMETER)
  pub rough : row.rough ≤ MAX_ROUGH
  pub flow : (MIN_FLOW ≤ row.flow) × (row.flow ≤ MAX_FLOW)
  pub rows : (MIN_ROWS ≤ row.rows) × (row.rows ≤ MAX_ROWS)
