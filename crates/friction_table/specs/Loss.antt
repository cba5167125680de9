-- The friction rate at an airflow, and the loss over a length.
--   last_not_above flow rows    the last row whose airflow is not above, or none
--   first_not_below flow rows   the first row whose airflow is not below, or none
--   rate_at flow rows           the rate at the airflow as an exact fraction; none above the last row
--   IsLossOver length rate      the least whole number of dPa that the length loses at the rate
--   IsFrictionLoss              the same at the rate of an airflow
--   friction_loss               that number; none above the last row
--   Loses rate length dpa       at a whole rate a length loses this, and nothing else
use Rattle.std.specs.Prelude.{◌≡◌, ◌↔◌, ℕ, ◌+◌, ◌-◌, ◌*◌, ◌<◌, ◌≤◌, ◌==◌, slice_get, nat_le, List, [], ◌∷◌, Option, Some, None, option_map, find, pos, All, IsSomeAnd, if◌then◌else◌}
use Rattle.std.specs.Int.{div_ceil}
use Rattle.duct_units.specs.Ceiling.{IsCeiling}
use Rattle.duct_definitions.specs.declared.airflow.TheConstants.{MAX_FLOW}
use Rattle.friction_table.specs.declared.limits.TheConstants.{MAX_RATE, MILLIMETRES_PER_METRE, MILLIPASCALS_PER_DECIPASCAL}
use Rattle.friction_table.specs.declared.row.FlowRate.{FlowRate}
use Rattle.friction_table.specs.declared.table.Fraction.{Fraction}

-- the second, or else the first
abbrev pub or_later : Option FlowRate → Option FlowRate → Option FlowRate
or_later first None = first
or_later first (Some later) = Some later

-- the last row whose airflow is not above the given one
abbrev pub last_not_above : ℕ → List FlowRate → Option FlowRate
last_not_above flow [] = None
last_not_above flow (row ∷ rows) = or_later (if nat_le row.flow flow then Some row else None) (last_not_above flow rows)

-- the first row whose airflow is not below the given one
abbrev pub first_not_below : ℕ → List FlowRate → Option FlowRate
first_not_below flow rows = find (λ row. nat_le flow row.flow) rows

-- the rate of a row, as a fraction
abbrev pub whole_rate : FlowRate → Fraction
whole_rate row = record { num = row.rate; den = 1 }

-- at most the greatest rate, over a width of airflows
abbrev pub IsRateInBounds : Fraction → Type 0
IsRateInBounds rate = (rate.num ≤ MAX_RATE * rate.den) × (1 ≤ rate.den) × (rate.den ≤ MAX_FLOW)

-- on the line between two rows; on a row its own rate
abbrev pub rate_between : ℕ → FlowRate → FlowRate → Fraction
rate_between flow lower upper =
    if lower.flow == upper.flow then whole_rate lower
    else record {
      num = lower.rate * (upper.flow - lower.flow) + (flow - lower.flow) * (upper.rate - lower.rate);
      den = upper.flow - lower.flow;
    }

-- below the first row its rate holds, and above the last row there is none
abbrev pub rate_of : ℕ → Option FlowRate → Option FlowRate → Option Fraction
rate_of flow lower None = None
rate_of flow None (Some upper) = Some (whole_rate upper)
rate_of flow (Some lower) (Some upper) = Some (rate_between flow lower upper)

-- the rate at the airflow, from the two rows that it lies between
abbrev pub rate_at : ℕ → List FlowRate → Option Fraction
rate_at flow rows = rate_of flow (last_not_above flow rows) (first_not_below flow rows)

-- the rows before the place are below the airflow, and the others are not
pub record Parts (flow : ℕ) (rows : List FlowRate) (place : ℕ) : Type 0 where
  pub below : (k : ℕ) (row : FlowRate) → k < place → slice_get rows k ≡ Some row → row.flow < flow
  pub above : (k : ℕ) (row : FlowRate) → place ≤ k → slice_get rows k ≡ Some row → flow ≤ row.flow

-- the airflow is above every row
abbrev pub IsAboveAll : ℕ → List FlowRate → Type 0
IsAboveAll flow rows = All (λ row. row.flow < flow) rows

-- the least whole number of dPa that the length in mm loses at the rate in mPa/m
abbrev pub IsLossOver : ℕ → Fraction → ℕ → Type 0
IsLossOver length rate loss =
    IsCeiling
    (pos (length * rate.num))
    (pos (MILLIMETRES_PER_METRE * MILLIPASCALS_PER_DECIPASCAL * rate.den))
    (pos loss)

-- the airflow has a rate, and this is the loss over the length in mm at it, dPa: rounded up once from the exact rate
abbrev pub IsFrictionLoss : List FlowRate → ℕ → ℕ → ℕ → Type 0
IsFrictionLoss rows flow length loss = IsSomeAnd (rate_at flow rows) (λ rate. IsLossOver length rate loss)

-- the length in mm at the rate in mPa/m, over the units, rounded up to whole dPa
abbrev pub loss_over : ℕ → Fraction → ℕ
loss_over length rate =
    div_ceil (length * rate.num) (MILLIMETRES_PER_METRE * MILLIPASCALS_PER_DECIPASCAL * rate.den)

-- what the length in mm loses at the airflow, dPa; none where the airflow is above every row
abbrev pub friction_loss : List FlowRate → ℕ → ℕ → Option ℕ
friction_loss rows flow length = option_map (loss_over length) (rate_at flow rows)

-- wherever the rate is this whole number of mPa/m, the length in mm loses so many dPa, and no other whole number
abbrev pub Loses : ℕ → ℕ → ℕ → Type 0
Loses rate length dpa =
    (rows : List FlowRate) (flow loss : ℕ) → rate_at flow rows ≡ Some (record { num = rate; den = 1 })
    → IsFrictionLoss rows flow length loss ↔ (loss ≡ dpa)
