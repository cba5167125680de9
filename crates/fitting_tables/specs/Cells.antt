-- The cells of one table, in the order of their rows.
--   areas_of, flows_of   the area ratios and flow ratios of the cells, each once, rising
--   value_at             the coefficient of the cell at these breakpoints, or none
--   refusal_of           why a cell may not be added, or none
--   is_full              every area ratio and every flow ratio meet in a cell
--   IsGrid               at most 20 ratios of each kind, every cell in bounds, and none given twice
use Rattle.std.specs.Prelude.{ℕ, ℤ, ◌≤◌, ◌≤ℤ◌, ◌==◌, ◌&&◌, nat_le, Bool, List, length, map, All, Option, Some, None, option_map, is_some, find, if◌then◌else◌}
use Rattle.std.specs.List.{list_all, IsDistinct}
use Rattle.duct_units.specs.declared.fault.Reason.{Reason}
use Rattle.duct_units.specs.declared.fault.Reason.TheVariants.{Twice, TooMany}
use Rattle.fitting_tables.specs.declared.limits.TheConstants.{MAX_BREAKPOINTS, MAX_RATIO, MIN_VALUE, MAX_VALUE}
use Rattle.fitting_tables.specs.declared.row.Cell.{Cell}
use Rattle.fitting_tables.specs.Breakpoints.{breakpoints_of, with_breakpoint}

-- the ratios and the coefficient lie within their bounds
pub record IsCell (cell : Cell) : Type 0 where
  pub area : cell.area ≤ MAX_RATIO
  pub flow : cell.flow ≤ MAX_RATIO
  pub value : (MIN_VALUE ≤ℤ cell.value) × (cell.value ≤ℤ MAX_VALUE)

-- the area ratios of the cells, each once, rising
abbrev pub areas_of : List Cell → List ℕ
areas_of cells = breakpoints_of (map (λ cell. cell.area) cells)

-- the flow ratios of the cells, each once, rising
abbrev pub flows_of : List Cell → List ℕ
flows_of cells = breakpoints_of (map (λ cell. cell.flow) cells)

-- the cell stands at these breakpoints
abbrev pub is_at : ℕ → ℕ → Cell → Bool
is_at area flow cell = (area == cell.area) && (flow == cell.flow)

-- the coefficient of the cell at these breakpoints; none where there is no such cell
abbrev pub value_at : ℕ → ℕ → List Cell → Option ℤ
value_at area flow cells = option_map (λ cell. cell.value) (find (is_at area flow) cells)

-- with one more cell there are at most 20 area ratios
abbrev pub areas_fit : Cell → List Cell → Bool
areas_fit cell cells = nat_le (length (with_breakpoint cell.area (areas_of cells))) MAX_BREAKPOINTS

-- with one more cell there are at most 20 flow ratios
abbrev pub flows_fit : Cell → List Cell → Bool
flows_fit cell cells = nat_le (length (with_breakpoint cell.flow (flows_of cells))) MAX_BREAKPOINTS

-- why the cell may not be added: one stands there, or there is no room for its area ratio or its flow ratio
abbrev pub refusal_of : Cell → List Cell → Option Reason
refusal_of cell cells =
    if is_some (value_at cell.area cell.flow cells) then Some Twice
    else if areas_fit cell cells && flows_fit cell cells then None
    else Some TooMany

-- the area ratio meets each of these flow ratios in a cell
abbrev pub has_row : ℕ → List ℕ → List Cell → Bool
has_row area flows cells = list_all (λ flow. is_some (value_at area flow cells)) flows

-- every area ratio and every flow ratio meet in a cell
abbrev pub is_full : List Cell → Bool
is_full cells = list_all (λ area. has_row area (flows_of cells) cells) (areas_of cells)

-- the breakpoints of a cell
abbrev pub pair_of : Cell → ℕ × ℕ
pair_of cell = (cell.area, cell.flow)

-- two pairs of breakpoints are equal
abbrev pub same_pair : ℕ × ℕ → ℕ × ℕ → Bool
same_pair p q = (p.0 == q.0) && (p.1 == q.1)

-- at most 20 ratios of each kind, every cell in bounds, and none given twice
pub record IsGrid (cells : List Cell) : Type 0 where
  pub areas_fit : length (areas_of cells) ≤ MAX_BREAKPOINTS
  pub flows_fit : length (flows_of cells) ≤ MAX_BREAKPOINTS
  pub bounds : All IsCell cells
  pub once : IsDistinct same_pair (map pair_of cells)
