-- What a fittings file says, and how it is refused.
use Rattle.std.specs.Prelude.{◌≡◌, ℕ, ◌+◌, nat_lt, not, List, [], ◌∷◌, length, sum_by, codes, Option, Some, None, is_some, Result}
use Rattle.duct_units.specs.declared.fault.Fault.{Fault}
use Rattle.duct_units.specs.declared.fault.Reason.TheVariants.{Twice, TooMany, Hole}
use Rattle.duct_units.specs.Rules.{Rule, at_row, at_table}
use Rattle.file_definitions.specs.Rows.{Row, RowForm, rows_of, reading}
use Rattle.fitting_tables.specs.declared.limits.TheConstants.{MAX_TABLES}
use Rattle.fitting_tables.specs.declared.row.Cell.{Cell}
use Rattle.fitting_tables.specs.declared.row.FittingRow.{FittingRow}
use Rattle.fitting_tables.specs.FittingRow.{row_of_fields}
use Rattle.fitting_tables.specs.Cells.{value_at, areas_fit, flows_fit, is_full}
use Rattle.fitting_tables.specs.Fittings.{Tables, IsFittings, cells_of, table_number, with_fitting}

-- the first row of a fittings file
abbrev pub header : Row
header = codes "table" ∷ codes "area" ∷ codes "flow" ∷ codes "value" ∷ []

-- there are not too many tables; or no cell of the table stands where this one does, and the table has room for its
-- area ratio and then for its flow ratio
abbrev pub fitting_rules : ℕ → Tables → FittingRow → Option ℕ → List Rule
fitting_rules n before row None = at_row n (nat_lt (length before.grids) MAX_TABLES) TooMany ∷ []
fitting_rules n before row (Some table) =
    at_row n (not (is_some (value_at row.cell.area row.cell.flow (cells_of before table)))) Twice
    ∷ at_row n (areas_fit row.cell (cells_of before table)) TooMany
    ∷ at_row n (flows_fit row.cell (cells_of before table)) TooMany
    ∷ []

-- no table has a hole; tables count from n
abbrev pub each_full : ℕ → List (List Cell) → List Rule
each_full n [] = []
each_full n (cells ∷ grids) = at_table n (is_full cells) Hole ∷ each_full (n + 1) grids

-- what a fittings file asks of its rows
abbrev pub fittings_form : RowForm Tables FittingRow
fittings_form = record {
  header = header;
  item = row_of_fields;
  empty = record { names = []; grids = [] };
  with_item = λ tables row. with_fitting tables row (table_number tables row);
  own = λ n before row. fitting_rules n before row (table_number before row);
  last = λ tables. each_full 1 tables.grids;
}

-- the tables of a file's bytes, or the refusal
abbrev pub fittings_of : List ℕ → Result Tables Fault
fittings_of bytes = reading fittings_form (rows_of bytes)

-- one cell more in tables within their limits and bounds
pub record AddsCell (old new : Tables) : Type 0 where
  pub is : IsFittings new
  pub cells : sum_by length new.grids ≡ sum_by length old.grids + 1
