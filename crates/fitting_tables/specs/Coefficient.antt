-- The coefficient of a table at an area ratio and a flow ratio, thousandths.
--   numerator            the values at the four corners, each times its two weights, added
--   coefficient_of       that over both widths, rounded up once
--   IsCoefficient        the least whole number that is enough
--   HoldsOnPairs         on a breakpoint of each ratio the coefficient is the value of the cell
use Rattle.std.specs.Prelude.{◌≡◌, ℕ, ℤ, pos, ◌*◌, ◌+ℤ◌, ◌*ℤ◌, ◌≤ℤ◌, List, Contains, Some, unwrap_or}
use Rattle.duct_units.specs.Ceiling.{IsCeiling, ceiling}
use Rattle.fitting_tables.specs.declared.limits.TheConstants.{MIN_VALUE, MAX_VALUE}
use Rattle.fitting_tables.specs.declared.row.Cell.{Cell}
use Rattle.fitting_tables.specs.declared.axis.Span.{Span}
use Rattle.fitting_tables.specs.Cells.{areas_of, flows_of, value_at}
use Rattle.fitting_tables.specs.Span.{span_of}

-- the value at the breakpoints, times its weight
abbrev pub term : List Cell → ℕ → ℕ → ℕ → ℤ
term cells area flow weight = unwrap_or (value_at area flow cells) (pos 0) *ℤ pos weight

-- the two corners at an area ratio, each times its weights
abbrev pub row_terms : List Cell → ℕ → ℕ → Span → ℤ
row_terms cells area weight flow =
    term cells area flow.lower (weight * flow.lower_weight) +ℤ term cells area flow.upper (weight * flow.upper_weight)

-- the values at the four corners, each times its two weights, added
abbrev pub numerator : List Cell → Span → Span → ℤ
numerator cells area flow =
    row_terms cells area.lower area.lower_weight flow +ℤ row_terms cells area.upper area.upper_weight flow

-- the four corners over both widths, rounded up once
abbrev pub between_corners : List Cell → Span → Span → ℤ
between_corners cells area flow = ceiling (numerator cells area flow) (pos (area.width * flow.width))

-- the least whole number that is no less than the four corners over both widths
abbrev pub IsBetween : List Cell → Span → Span → ℤ → Type 0
IsBetween cells area flow c = IsCeiling (numerator cells area flow) (pos (area.width * flow.width)) c

-- the coefficient at an area ratio and a flow ratio, rounded up once
abbrev pub coefficient_of : List Cell → ℕ → ℕ → ℤ
coefficient_of cells ra rq = between_corners cells (span_of ra (areas_of cells)) (span_of rq (flows_of cells))

-- the least whole number that is no less than the exact coefficient
abbrev pub IsCoefficient : List Cell → ℕ → ℕ → ℤ → Type 0
IsCoefficient cells ra rq c = IsBetween cells (span_of ra (areas_of cells)) (span_of rq (flows_of cells)) c

-- no greater than the greatest value times the weight, and no less than the least one
abbrev pub IsWeighed : ℕ → ℤ → Type 0
IsWeighed weight n = ((MIN_VALUE *ℤ pos weight) ≤ℤ n) × (n ≤ℤ (MAX_VALUE *ℤ pos weight))

-- on a breakpoint of each ratio the coefficient is the value of the cell
abbrev pub HoldsOnPairs : Type 0
HoldsOnPairs =
    (cells : List Cell) (area flow : ℕ) (value : ℤ) → Contains (areas_of cells) area → Contains (flows_of cells) flow
    → value_at area flow cells ≡ Some value → coefficient_of cells area flow ≡ value
