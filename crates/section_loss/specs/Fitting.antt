-- What a fitting loses by its coefficient, and the ratios at a junction.
--   velocity_product             the density by the square of the airflow, in the units of a velocity pressure
--   fitting_loss_of              the coefficient times the velocity pressure, rounded up to whole dPa
--   IsFittingLoss                the least whole number of dPa that is enough
--   ratio_of part whole          the part over the whole, in thousandths, rounded up
--   LosesByVelocity              a coefficient times half the density times the square of the velocity
use Rattle.std.specs.Prelude.{◌≡◌, ◌↔◌, ℕ, ◌*◌, ◌≤◌, ℤ, pos, ◌*ℤ◌}
use Rattle.std.specs.Int.{div_ceil}
use Rattle.duct_units.specs.Ceiling.{IsCeiling, ceiling}
use Rattle.duct_definitions.specs.declared.airflow.TheConstants.{THOUSANDTHS}
use Rattle.section_loss.specs.declared.limits.TheConstants.{VELOCITY_PRESSURE_UNITS}

-- the density in g/m3 by the square of the airflow in l/s, in the units of a velocity pressure
abbrev pub velocity_product : ℕ → ℕ → ℕ
velocity_product density flow = VELOCITY_PRESSURE_UNITS * density * flow * flow

-- what a coefficient in thousandths loses in air of this density, at this airflow through this area in mm2, dPa: the
-- coefficient times the velocity pressure, rounded up; a loss below 0 goes towards 0
abbrev pub fitting_loss_of : ℕ → ℕ → ℕ → ℤ → ℤ
fitting_loss_of density flow area c = ceiling (c *ℤ pos (velocity_product density flow)) (pos (area * area))

-- the least whole number of dPa that is no less than the coefficient times the velocity pressure
abbrev pub IsFittingLoss : ℕ → ℕ → ℕ → ℤ → ℤ → Type 0
IsFittingLoss density flow area c loss =
    IsCeiling (c *ℤ pos (velocity_product density flow)) (pos (area * area)) loss

-- the part over the whole, in thousandths, rounded up
abbrev pub ratio_of : ℕ → ℕ → ℕ
ratio_of part whole = div_ceil (THOUSANDTHS * part) whole

-- the least whole number of thousandths that is no less than the part over the whole
abbrev pub IsRatio : ℕ → ℕ → ℕ → Type 0
IsRatio part whole ratio = IsCeiling (pos (THOUSANDTHS * part)) (pos whole) (pos ratio)

-- the air flows through the area at this velocity in mm/s: a litre is 1,000,000 mm3
abbrev pub FlowsAt : ℕ → ℕ → ℕ → Type 0
FlowsAt flow area velocity = flow * 1000000 ≡ velocity * area

-- the coefficient times half the density times the square of the velocity, rounded up: thousandths by g/m3 by the
-- square of mm/s, over 2 * 100,000,000,000, is in dPa
abbrev pub IsVelocityLoss : ℕ → ℕ → ℤ → ℤ → Type 0
IsVelocityLoss density velocity c loss =
    IsCeiling (c *ℤ pos (density * velocity * velocity)) (pos (2 * 100000000000)) loss

-- wherever the air has a velocity in whole mm/s, a fitting loses its coefficient times the velocity pressure
abbrev pub LosesByVelocity : Type 0
LosesByVelocity =
    (density flow area velocity : ℕ) (c loss : ℤ) → 1 ≤ area → FlowsAt flow area velocity
    → IsFittingLoss density flow area c loss ↔ IsVelocityLoss density velocity c loss
