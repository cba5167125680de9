-- The rows that a ducts file makes, as a friction file has them.
--   listed tables                   the rows of all tables, by size number
--   made_of sizes air bytes         the rows of a file's bytes, or the refusal
--   AreInOrder rows                 they stand by size number; within a size airflows rise, and rates never fall
--   AreRowsOf, AreOfSizes           each rate is made and within its bounds; each row is of a size of the catalogue
use Rattle.std.specs.Prelude.{◌≡◌, ℕ, ◌+◌, ◌<◌, ◌≤◌, List, [], ◌∷◌, ◌++◌, length, map, All, Result, Ok, Err}
use Rattle.duct_units.specs.declared.fault.Fault.{Fault}
use Rattle.size_catalogue.specs.Catalogue.{Catalogue}
use Rattle.friction_table.specs.declared.row.FlowRate.{FlowRate}
use Rattle.friction_table.specs.Rates.{IsRate}
use Rattle.friction_maker.specs.declared.air.Air.{Air}
use Rattle.friction_maker.specs.declared.making.MadeRow.{MadeRow}
use Rattle.friction_maker.specs.Making.{tables_of, IsMadeFor}

-- a row of a size
abbrev pub made_row : ℕ → FlowRate → MadeRow
made_row size at = record { size = size; flow = at.flow; rate = at.rate }

-- the rows of the tables of the sizes from n on
abbrev pub listed_from : ℕ → List (List FlowRate) → List MadeRow
listed_from n [] = []
listed_from n (rows ∷ tables) = map (λ at. made_row n at) rows ++ listed_from (n + 1) tables

-- the rows of all tables, by size number
abbrev pub listed : List (List FlowRate) → List MadeRow
listed tables = listed_from 0 tables

-- the rows of the tables, or the refusal
abbrev pub listed_unless : Result (List (List FlowRate)) Fault → Result (List MadeRow) Fault
listed_unless (Ok tables) = Ok (listed tables)
listed_unless (Err fault) = Err fault

-- the rows of a file's bytes, or the refusal
abbrev pub made_of : Catalogue → Air → List ℕ → Result (List MadeRow) Fault
made_of sizes air bytes = listed_unless (tables_of sizes air bytes)

-- ---- what is true of them

-- the row is of a later size; or of the same size, at a higher airflow, and its rate isn't lower
pub record Follows (row next : MadeRow) : Type 0 where
  pub size : row.size ≤ next.size
  pub flow : row.size ≡ next.size → row.flow < next.flow
  pub rate : row.size ≡ next.size → row.rate ≤ next.rate

-- of any two rows the later one follows the earlier
abbrev pub AreInOrder : List MadeRow → Type 0
AreInOrder [] = Unit {0}
AreInOrder (row ∷ rows) = All (Follows row) rows × AreInOrder rows

-- a row of a friction file whose rate is made
pub record IsRowOf (sizes : Catalogue) (air : Air) (row : MadeRow) : Type 0 where
  pub bounds : IsRate (record { flow = row.flow; rate = row.rate })
  pub rate : IsMadeFor sizes air row.size (record { flow = row.flow; rate = row.rate })

-- each row is one of these
abbrev pub AreRowsOf : Catalogue → Air → List MadeRow → Type 0
AreRowsOf sizes air rows = All (IsRowOf sizes air) rows

-- each row is of a size of the catalogue
abbrev pub AreOfSizes : Catalogue → List MadeRow → Type 0
AreOfSizes sizes rows = All (λ row. row.size < length sizes.sizes) rows
