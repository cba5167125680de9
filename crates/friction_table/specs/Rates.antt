-- The friction rates of a size, by rising airflow.
--   IsRate row            the airflow and the rate lie within their bounds
--   last_of rows          the last row, or none
--   may_follow rows row   the row's airflow is above the last one's, and its rate not below
--   AreRising rows        so it is of each row and the one before it
--   RisesThroughout rows  so it is of any two rows
--   IsTable rows          rates of one size
use Rattle.std.specs.Prelude.{◌≡◌, ℕ, slice_get, ◌<◌, ◌≤◌, nat_lt, nat_le, Bool, true, ◌&&◌, List, [], ◌∷◌, length, All, Option, Some, None}
use Rattle.duct_definitions.specs.declared.airflow.TheConstants.{MAX_FLOW}
use Rattle.friction_table.specs.declared.limits.TheConstants.{MAX_ROWS, MIN_FLOW, MAX_RATE}
use Rattle.friction_table.specs.declared.row.FlowRate.{FlowRate}

-- the airflow and the rate lie within their bounds
pub record IsRate (row : FlowRate) : Type 0 where
  pub flow : (MIN_FLOW ≤ row.flow) × (row.flow ≤ MAX_FLOW)
  pub rate : row.rate ≤ MAX_RATE

-- the last row, or none
abbrev pub last_of : List FlowRate → Option FlowRate
last_of [] = None
last_of (row ∷ []) = Some row
last_of (row ∷ next ∷ rows) = last_of (next ∷ rows)

-- the row's airflow is above the last one's, and its rate not below; any row may be the first
abbrev pub may_follow_last : Option FlowRate → FlowRate → Bool
may_follow_last None row = true
may_follow_last (Some last) row = nat_lt last.flow row.flow && nat_le last.rate row.rate

-- the row may follow these
abbrev pub may_follow : List FlowRate → FlowRate → Bool
may_follow rows row = may_follow_last (last_of rows) row

-- each row has a higher airflow than the one before it, and no lower rate
abbrev pub AreRising : List FlowRate → Type 0
AreRising [] = Unit {0}
AreRising (row ∷ []) = Unit {0}
AreRising (row ∷ next ∷ rows) = (row.flow < next.flow) × (row.rate ≤ next.rate) × AreRising (next ∷ rows)

-- the upper row has a higher airflow, and no lower rate
pub record Rises (lower upper : FlowRate) : Type 0 where
  pub flow : lower.flow < upper.flow
  pub rate : lower.rate ≤ upper.rate

-- of any two rows the later one has the higher airflow, and no lower rate
abbrev pub RisesThroughout : List FlowRate → Type 0
RisesThroughout rows =
    (i k : ℕ) (lower upper : FlowRate) → i < k → slice_get rows i ≡ Some lower → slice_get rows k ≡ Some upper
    → Rises lower upper

-- at most 64 rows of one size, each in bounds, by rising airflow
pub record IsTable (rows : List FlowRate) : Type 0 where
  pub few : length rows ≤ MAX_ROWS
  pub bounds : All IsRate rows
  pub rising : AreRising rows
