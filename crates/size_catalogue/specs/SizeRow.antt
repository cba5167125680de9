-- What a row of a sizes file says.
use Rattle.std.specs.Prelude.{◌≤◌, Option, Some, IsTrue}
use Rattle.duct_units.specs.Options.{◌>>=◌}
use Rattle.duct_units.specs.Name.{is_name}
use Rattle.file_definitions.specs.Rows.{Row, name_field, number_field}
use Rattle.size_catalogue.specs.declared.limits.TheConstants.{MIN_AREA, MAX_AREA, MIN_HEIGHT, MAX_HEIGHT, MAX_METRE_PRICE, MAX_JOIN_PRICE}
use Rattle.size_catalogue.specs.declared.row.SizeRow.{SizeRow}

-- what the row says; none where a field isn't of its form or lies out of its bound
abbrev pub size_of_row : Row → Option SizeRow
size_of_row row = do
  list ← name_field row 0
  name ← name_field row 1
  area ← number_field row 2 MIN_AREA MAX_AREA
  height ← number_field row 3 MIN_HEIGHT MAX_HEIGHT
  metre ← number_field row 4 0 MAX_METRE_PRICE
  join ← number_field row 5 0 MAX_JOIN_PRICE
  step ← number_field row 6 0 MAX_JOIN_PRICE
  Some (record { list = list; name = name; area = area; height = height; metre = metre; join = join; step = step })

-- every field has its form and lies within its bound
pub record IsRowInBounds (row : SizeRow) : Type 0 where
  pub list : IsTrue (is_name row.list)
  pub name : IsTrue (is_name row.name)
  pub area : (MIN_AREA ≤ row.area) × (row.area ≤ MAX_AREA)
  pub height : (MIN_HEIGHT ≤ row.height) × (row.height ≤ MAX_HEIGHT)
  pub metre : row.metre ≤ MAX_METRE_PRICE
  pub join : row.join ≤ MAX_JOIN_PRICE
  pub step : row.step ≤ MAX_JOIN_PRICE
