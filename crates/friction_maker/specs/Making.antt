-- What a ducts file makes for the sizes of a catalogue, and how it is refused.
--   made_table duct air flow rows   the rates of a duct at the airflow by 1, 2, .. up to the number of rows
--   table_for                       the same of a row of the file and the size that it names
--   tables_of sizes air bytes       the tables of a file's bytes, one for each size, or the refusal
--   AreMade sizes air tables        a table for each size, and each rate in it is made
use Rattle.std.specs.Prelude.{◌≡◌, ℕ, ◌*◌, ◌<◌, nat_le, ◌==◌, Bool, false, List, [], ◌∷◌, length, map, replicate, codes, All, Option, Some, None, option_map, slice_get, slice_set, slice_index_or, unwrap_or, Result}
use Rattle.std.specs.List.{list_all, range_with_len}
use Rattle.duct_units.specs.declared.fault.Fault.{Fault}
use Rattle.duct_units.specs.declared.fault.Reason.TheVariants.{UnknownSize, Twice, Field}
use Rattle.duct_units.specs.Rules.{Rule, at_row}
use Rattle.file_definitions.specs.Rows.{Row, RowForm, rows_of, reading}
use Rattle.name_index.specs.Places.{place_of}
use Rattle.size_catalogue.specs.Catalogue.{Catalogue, names_of}
use Rattle.duct_definitions.specs.declared.airflow.TheConstants.{MAX_FLOW}
use Rattle.friction_table.specs.declared.limits.TheConstants.{MAX_RATE}
use Rattle.friction_table.specs.declared.row.FlowRate.{FlowRate}
use Rattle.friction_table.specs.Rates.{IsTable}
use Rattle.friction_table.specs.Reading.{table_of, row_of_each}
use Rattle.friction_maker.specs.declared.air.Duct.{Duct}
use Rattle.friction_maker.specs.declared.air.Air.{Air}
use Rattle.friction_maker.specs.declared.row.DuctRow.{DuctRow}
use Rattle.friction_maker.specs.DuctRow.{duct_of_row}
use Rattle.friction_maker.specs.Rate.{rate_of, IsDuct, IsMadeRate}

-- ---- the rates of a size

-- the rate of a duct at an airflow
abbrev pub made_at : Duct → Air → ℕ → FlowRate
made_at duct air flow = record { flow = flow; rate = rate_of duct air flow }

-- so many rates, at the airflow by 1, 2, ..
abbrev pub made_table : Duct → Air → ℕ → ℕ → List FlowRate
made_table duct air flow rows = map (λ j. made_at duct air (flow * j)) (range_with_len 1 rows)

-- each rate is at most the greatest of a friction file
abbrev pub are_low : List FlowRate → Bool
are_low rows = list_all (λ row. nat_le row.rate MAX_RATE) rows

-- the area of a size, by its number
abbrev pub area_of : Catalogue → ℕ → ℕ
area_of sizes size = unwrap_or (option_map (λ s. s.area) (slice_get sizes.sizes size)) 0

-- the duct of a size that a row says
abbrev pub duct_of : Catalogue → ℕ → DuctRow → Duct
duct_of sizes size row = record { area = area_of sizes size; diameter = row.diameter; rough = row.rough }

-- the rates that a row asks for, of the size that it names
abbrev pub table_for : Catalogue → Air → ℕ → DuctRow → List FlowRate
table_for sizes air size row = made_table (duct_of sizes size row) air row.flow row.rows

-- ---- the file

-- air of a density and a viscosity
abbrev pub air_of : ℕ → ℕ → Air
air_of density viscosity = record { density = density; viscosity = viscosity }

-- the first row of a ducts file
abbrev pub header : Row
header = codes "size" ∷ codes "diameter" ∷ codes "rough" ∷ codes "flow" ∷ codes "rows" ∷ []

-- the number of the size that the row names; none where no size has the name
abbrev pub size_number : Catalogue → DuctRow → Option ℕ
size_number sizes row = place_of row.size (names_of sizes.sizes)

-- the size has no row yet, its greatest airflow is within its bound, and so is each rate
abbrev pub rules_of_size : Catalogue → Air → ℕ → List (List FlowRate) → DuctRow → Option ℕ → List Rule
rules_of_size sizes air n before row None = at_row n false UnknownSize ∷ []
rules_of_size sizes air n before row (Some size) =
    at_row n (length (table_of before size) == 0) Twice
    ∷ at_row n (nat_le (row.flow * row.rows) MAX_FLOW) Field
    ∷ at_row n (are_low (table_for sizes air size row)) Field
    ∷ []

-- the table of the size is made
abbrev pub with_table : Catalogue → Air → List (List FlowRate) → DuctRow → Option ℕ → List (List FlowRate)
with_table sizes air tables row None = tables
with_table sizes air tables row (Some size) = slice_set tables size (table_for sizes air size row)

-- what a ducts file asks of its rows, for the sizes of a catalogue; at the end each size has a row
abbrev pub ducts_form : Catalogue → Air → RowForm (List (List FlowRate)) DuctRow
ducts_form sizes air = record {
  header = header;
  item = duct_of_row;
  empty = replicate (length sizes.sizes) [];
  with_item = λ tables row. with_table sizes air tables row (size_number sizes row);
  own = λ n before row. rules_of_size sizes air n before row (size_number sizes row);
  last = row_of_each 1;
}

-- the tables of a file's bytes, one for each size, or the refusal
abbrev pub tables_of : Catalogue → Air → List ℕ → Result (List (List FlowRate)) Fault
tables_of sizes air bytes = reading (ducts_form sizes air) (rows_of bytes)

-- ---- what is true of the tables

-- the rate is the one of a duct of the size's area at the airflow, rounded up
pub record IsMadeFor (sizes : Catalogue) (air : Air) (size : ℕ) (at : FlowRate) : Type 0 where
  pub duct : Duct
  pub area : duct.area ≡ area_of sizes size
  pub bounds : IsDuct duct
  pub rate : IsMadeRate duct air at.flow at.rate

-- rates of a size as a friction file has them, each of them made
pub record IsMadeTable (sizes : Catalogue) (air : Air) (size : ℕ) (rows : List FlowRate) : Type 0 where
  pub table : IsTable rows
  pub rates : All (IsMadeFor sizes air size) rows

-- a table for each size, as far as they are made
pub record AreMade (sizes : Catalogue) (air : Air) (tables : List (List FlowRate)) : Type 0 where
  pub all : length tables ≡ length sizes.sizes
  pub each : (size : ℕ) (other : List FlowRate) → size < length tables → IsMadeTable sizes air size (slice_index_or tables size other)
