-- The tables of all fittings, and how one more row of their file adds to them.
--   Tables               the names of the tables, and the cells of each, both by number
--   cells_of             the cells of a table
--   IsFittings           at most 32 tables, each with a name and a cell and within its limits and bounds
--   AreFull              no table has a hole
use Rattle.std.specs.Prelude.{◌≡◌, ℕ, ◌<◌, ◌≤◌, IsTrue, List, [], ◌∷◌, ◌++◌, length, All, Option, Some, None, slice_get, slice_set, unwrap_or}
use Rattle.name_index.specs.Places.{place_of}
use Rattle.fitting_tables.specs.declared.limits.TheConstants.{MAX_TABLES}
use Rattle.fitting_tables.specs.declared.row.Cell.{Cell}
use Rattle.fitting_tables.specs.declared.row.FittingRow.{FittingRow}
use Rattle.fitting_tables.specs.Cells.{IsGrid, is_full}

-- the names of the tables, and the cells of each, both by number
pub record Tables : Type 0 where
  pub names : List (List ℕ)
  pub grids : List (List Cell)

-- the cells of a table, by its number
abbrev pub cells_of : Tables → ℕ → List Cell
cells_of tables table = unwrap_or (slice_get tables.grids table) []

-- the tables with one more cell of a table
abbrev pub with_cell : Tables → ℕ → Cell → Tables
with_cell tables table cell =
    record { names = tables.names; grids = slice_set tables.grids table (cells_of tables table ++ cell ∷ []) }

-- the tables with one more table, of one cell
abbrev pub with_table : Tables → FittingRow → Tables
with_table tables row =
    record { names = tables.names ++ row.table ∷ []; grids = tables.grids ++ (row.cell ∷ []) ∷ [] }

-- the number of the table that the row names; none where it is a new one
abbrev pub table_number : Tables → FittingRow → Option ℕ
table_number tables row = place_of row.table tables.names

-- the tables with the cell of one more row, in the table of that number or in a new one
abbrev pub with_fitting : Tables → FittingRow → Option ℕ → Tables
with_fitting tables row None = with_table tables row
with_fitting tables row (Some table) = with_cell tables table row.cell

-- the table has a cell and is within its limits and bounds
abbrev pub IsStarted : List Cell → Type 0
IsStarted cells = (0 < length cells) × IsGrid cells

-- at most 32 tables, each with a name and a cell and within its limits and bounds
pub record IsFittings (tables : Tables) : Type 0 where
  pub named : length tables.names ≡ length tables.grids
  pub few : length tables.grids ≤ MAX_TABLES
  pub grids : All IsStarted tables.grids

-- no table has a hole
abbrev pub AreFull : List (List Cell) → Type 0
AreFull grids = All (λ cells. IsTrue (is_full cells)) grids
