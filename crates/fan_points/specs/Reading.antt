-- What a fans file says, and how it is refused.
use Rattle.std.specs.Prelude.{ℕ, nat_le, nat_lt, not, List, [], ◌∷◌, ◌++◌, length, codes, Result}
use Rattle.duct_units.specs.declared.fault.Fault.{Fault}
use Rattle.duct_units.specs.declared.fault.Reason.TheVariants.{Order, Twice, TooMany}
use Rattle.duct_units.specs.Rules.{Rule, at_row}
use Rattle.file_definitions.specs.Rows.{Row, RowForm, rows_of, reading}
use Rattle.name_index.specs.Places.{is_among}
use Rattle.fan_points.specs.declared.limits.TheConstants.{MAX_POINTS}
use Rattle.fan_points.specs.declared.row.FanRow.{FanRow}
use Rattle.fan_points.specs.FanRow.{fan_of_row}
use Rattle.fan_points.specs.Fans.{names_of}

-- the first row of a fans file
abbrev pub header : Row
header = codes "fan" ∷ codes "pressure" ∷ codes "low" ∷ codes "high" ∷ codes "price" ∷ codes "watts" ∷ []

-- the fan's high isn't below its low; no fan before has the name; there are not too many fans
abbrev pub fan_rules : ℕ → List FanRow → FanRow → List Rule
fan_rules n before row =
    at_row n (nat_le row.low row.high) Order
    ∷ at_row n (not (is_among row.name (names_of before))) Twice
    ∷ at_row n (nat_lt (length before) MAX_POINTS) TooMany
    ∷ []

-- what a fans file asks of its rows; there is no rule behind the last row
abbrev pub fans_form : RowForm (List FanRow) FanRow
fans_form = record {
  header = header;
  item = fan_of_row;
  empty = [];
  with_item = λ fans row. fans ++ row ∷ [];
  own = fan_rules;
  last = λ fans. [];
}

-- the fans of a file's bytes, or the refusal
abbrev pub fans_of : List ℕ → Result (List FanRow) Fault
fans_of bytes = reading fans_form (rows_of bytes)
