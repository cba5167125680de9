-- What a friction file says of the sizes of a catalogue, and how it is refused.
use Rattle.std.specs.Prelude.{◌≡◌, ◌≤◌, All, sum_by, ℕ, ◌+◌, nat_lt, false, List, [], ◌∷◌, ◌++◌, length, replicate, codes, Option, Some, None, slice_get, slice_set, unwrap_or, Result}
use Rattle.duct_units.specs.declared.fault.Fault.{Fault}
use Rattle.duct_units.specs.declared.fault.Reason.TheVariants.{UnknownSize, TooMany, Order, Missing}
use Rattle.duct_units.specs.Rules.{Rule, at_row, at_size}
use Rattle.file_definitions.specs.Rows.{Row, RowForm, rows_of, reading}
use Rattle.name_index.specs.Places.{place_of}
use Rattle.size_catalogue.specs.Catalogue.{Catalogue, names_of}
use Rattle.friction_table.specs.declared.limits.TheConstants.{MAX_ROWS}
use Rattle.friction_table.specs.declared.row.FlowRate.{FlowRate}
use Rattle.friction_table.specs.declared.row.FrictionRow.{FrictionRow}
use Rattle.friction_table.specs.FrictionRow.{row_of_fields}
use Rattle.friction_table.specs.Rates.{may_follow}

-- the first row of a friction file
abbrev pub header : Row
header = codes "size" ∷ codes "flow" ∷ codes "rate" ∷ []

-- the rows of a size, by its number
abbrev pub table_of : List (List FlowRate) → ℕ → List FlowRate
table_of tables size = unwrap_or (slice_get tables size) []

-- the number of the size that the row names; none where no size has the name
abbrev pub size_number : Catalogue → FrictionRow → Option ℕ
size_number sizes row = place_of row.size (names_of sizes.sizes)

-- the size has room for a row, and the row may follow its last
abbrev pub rules_of_size : ℕ → List (List FlowRate) → FrictionRow → Option ℕ → List Rule
rules_of_size n before row None = at_row n false UnknownSize ∷ []
rules_of_size n before row (Some size) =
    at_row n (nat_lt (length (table_of before size)) MAX_ROWS) TooMany
    ∷ at_row n (may_follow (table_of before size) row.at) Order
    ∷ []

-- the row is added to the table of its size
abbrev pub with_rate : List (List FlowRate) → FrictionRow → Option ℕ → List (List FlowRate)
with_rate tables row None = tables
with_rate tables row (Some size) = slice_set tables size (table_of tables size ++ row.at ∷ [])

-- each size has a row; sizes count from n
abbrev pub row_of_each : ℕ → List (List FlowRate) → List Rule
row_of_each n [] = []
row_of_each n (rows ∷ tables) = at_size n (nat_lt 0 (length rows)) Missing ∷ row_of_each (n + 1) tables

-- what a friction file asks of its rows, for the sizes of a catalogue
abbrev pub friction_form : Catalogue → RowForm (List (List FlowRate)) FrictionRow
friction_form sizes = record {
  header = header;
  item = row_of_fields;
  empty = replicate (length sizes.sizes) [];
  with_item = λ tables row. with_rate tables row (size_number sizes row);
  own = λ n before row. rules_of_size n before row (size_number sizes row);
  last = row_of_each 1;
}

-- the tables of a file's bytes, one for each size, or the refusal
abbrev pub friction_of : Catalogue → List ℕ → Result (List (List FlowRate)) Fault
friction_of sizes bytes = reading (friction_form sizes) (rows_of bytes)

-- one row more in as many tables, none of them too long
pub record AddsRow (old new : List (List FlowRate)) : Type 0 where
  pub tables : length new ≡ length old
  pub rows : sum_by length new ≡ sum_by length old + 1
  pub few : All (λ rows. length rows ≤ MAX_ROWS) new
