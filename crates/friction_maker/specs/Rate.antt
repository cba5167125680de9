-- The friction rate of a duct at an airflow.
--   factor_num, factor_den     e/D + 68/Re as a fraction: the roughness over the diameter, and what the Reynolds number gives
--   IsRoot duct air flow root  0.11 times the fourth root of that, in millionths, rounded up
--   root_of                    the same as a number that can be looked for
--   corrected root             the friction factor in millionths; below 18,000 it is corrected and rounded up
--   IsMadeRate duct air flow rate   the rate of that factor in mPa/m, rounded up
--   rate_of                    the same as a number
--   IsJustAbove num den n      n is at least the fraction, and less than one above it
use Rattle.std.specs.Prelude.{◌≡◌, ◌↔◌, ℕ, zero, suc, ◌+◌, ◌*◌, ◌^◌, ◌<◌, ◌≤◌, nat_le, Bool, pos, if◌then◌else◌}
use Rattle.std.specs.Int.{div_ceil}
use Rattle.duct_units.specs.Ceiling.{IsCeiling}
use Rattle.size_catalogue.specs.declared.limits.TheConstants.{MIN_AREA, MAX_AREA}
use Rattle.duct_definitions.specs.declared.airflow.TheConstants.{MAX_FLOW}
use Rattle.friction_table.specs.declared.limits.TheConstants.{MIN_FLOW}
use Rattle.duct_definitions.specs.declared.duct.TheConstants.{MIN_DENSITY, MAX_DENSITY}
use Rattle.friction_maker.specs.declared.limits.TheConstants.{MIN_DIAMETER, MAX_DIAMETER, MAX_ROUGH, MIN_VISCOSITY, MAX_VISCOSITY, ROUGH_UNITS, REYNOLDS_SHARE, REYNOLDS_UNITS, FACTOR_SCALE, CORRECTED_BELOW, CORRECTION_SHARE, CORRECTION_MORE, HUNDREDTHS, RATE_UNITS, MAX_ROOT}
use Rattle.friction_maker.specs.declared.air.Duct.{Duct}
use Rattle.friction_maker.specs.declared.air.Air.{Air}

-- area, diameter and roughness lie within their bounds
pub record IsDuct (duct : Duct) : Type 0 where
  pub area : (MIN_AREA ≤ duct.area) × (duct.area ≤ MAX_AREA)
  pub diameter : (MIN_DIAMETER ≤ duct.diameter) × (duct.diameter ≤ MAX_DIAMETER)
  pub rough : duct.rough ≤ MAX_ROUGH

-- density and viscosity lie within their bounds
pub record IsAir (air : Air) : Type 0 where
  pub density : (MIN_DENSITY ≤ air.density) × (air.density ≤ MAX_DENSITY)
  pub viscosity : (MIN_VISCOSITY ≤ air.viscosity) × (air.viscosity ≤ MAX_VISCOSITY)

-- the airflow lies within its bounds
abbrev pub IsFlow : ℕ → Type 0
IsFlow flow = (MIN_FLOW ≤ flow) × (flow ≤ MAX_FLOW)

-- ---- the friction factor

-- the numerator of e/D + 68/Re
abbrev pub factor_num : Duct → Air → ℕ → ℕ
factor_num duct air flow =
    ROUGH_UNITS * duct.rough * air.density * flow + REYNOLDS_SHARE * duct.area * air.viscosity

-- and its denominator
abbrev pub factor_den : Duct → Air → ℕ → ℕ
factor_den duct air flow = REYNOLDS_UNITS * air.density * flow * duct.diameter

-- so many millionths are at least 0.11 times the fourth root of e/D + 68/Re
abbrev pub IsEnough : Duct → Air → ℕ → ℕ → Type 0
IsEnough duct air flow f = FACTOR_SCALE ^ 4 * factor_num duct air flow ≤ f ^ 4 * factor_den duct air flow

-- and this is the least whole number of them
pub record IsRoot (duct : Duct) (air : Air) (flow root : ℕ) : Type 0 where
  pub enough : IsEnough duct air flow root
  pub least : (f : ℕ) → IsEnough duct air flow f → root ≤ f

-- the first number that passes the test, of so many from n on; where none does the one behind them
unfoldable pub first_from : (ℕ → Bool) → ℕ → ℕ → ℕ
first_from test n zero = n
first_from test n (suc left) = if test n then n else first_from test (n + 1) left

-- the least whole number of millionths that is enough
unfoldable pub root_of : Duct → Air → ℕ → ℕ
root_of duct air flow =
    first_from (λ f. nat_le (FACTOR_SCALE ^ 4 * factor_num duct air flow) (f ^ 4 * factor_den duct air flow)) 0 MAX_ROOT

-- below 18,000 millionths 0.85 of the factor and 2,800 millionths, rounded up
abbrev pub corrected : ℕ → ℕ
corrected root =
    if nat_le CORRECTED_BELOW root then root else div_ceil (CORRECTION_SHARE * root + CORRECTION_MORE) HUNDREDTHS

-- ---- the rate

-- the numerator of the rate of a factor in mPa/m
abbrev pub rate_num : ℕ → Air → ℕ → ℕ
rate_num factor air flow = RATE_UNITS * factor * air.density * (flow * flow)

-- and its denominator
abbrev pub rate_den : Duct → ℕ
rate_den duct = duct.area * duct.area * duct.diameter

-- the rate of the friction factor, rounded up
pub record IsMadeRate (duct : Duct) (air : Air) (flow rate : ℕ) : Type 0 where
  pub root : ℕ
  pub is_root : IsRoot duct air flow root
  pub is_rate : IsCeiling (pos (rate_num (corrected root) air flow)) (pos (rate_den duct)) (pos rate)

-- the same as a number
abbrev pub rate_of : Duct → Air → ℕ → ℕ
rate_of duct air flow = div_ceil (rate_num (corrected (root_of duct air flow)) air flow) (rate_den duct)

-- the whole number is at least the fraction, and less than one above it
pub record IsJustAbove (num den n : ℕ) : Type 0 where
  pub at_least : num ≤ n * den
  pub near : n * den < num + den

-- at this airflow the root is this and the rate that, and neither is any other whole number
abbrev pub HasRate : Duct → Air → ℕ → ℕ → ℕ → Type 0
HasRate duct air flow root rate =
    ((f : ℕ) → IsRoot duct air flow f ↔ (f ≡ root)) × ((n : ℕ) → IsMadeRate duct air flow n ↔ (n ≡ rate))
