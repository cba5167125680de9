-- The cells of a table with their look-ups: the ratios of each kind, and the place of each cell.
use Rattle.std.specs.Prelude.{◌≡◌, ℕ}
use Rattle.std.specs.HashMap.{get}
use Rattle.std.specs.List.{position_from}
use Rattle.fitting_tables.specs.declared.grid.Grid.TheInside.{Inside}
use Rattle.fitting_tables.specs.Cells.{areas_of, flows_of, is_at, same_pair, IsGrid}

-- the ratios are those of the cells, the map has each cell at its place, and the cells are a table
pub record IsIndexed (grid : Inside) : Type 0 where
  pub areas : grid.areas ≡ areas_of grid.cells.items
  pub flows : grid.flows ≡ flows_of grid.cells.items
  pub places : (area flow : ℕ)
      → get same_pair grid.places (area, flow) ≡ position_from (is_at area flow) 0 grid.cells.items
  pub is : IsGrid grid.cells.items
