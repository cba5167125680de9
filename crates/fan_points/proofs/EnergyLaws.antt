-- The cost of energy.
use Rattle.std.proofs.Common.{◌≡◌, ℕ, ◌*◌, ◌≤◌, ◌≤ℤ◌, pos, ap, ◌∙◌, arith}
use Rattle.std.specs.Int.{div_ceil}
use Rattle.std.proofs.lemmas.Int.{ints}
use Rattle.std.proofs.lemmas.Nat.{mul-le}
use Rattle.duct_units.proofs.CeilingLaws.{is_ceiling, ceiling_alone}
use Rattle.fan_points.specs.declared.limits.TheConstants.{ENERGY_UNITS, MAX_ENERGY_COST, MAX_WATTS, MAX_HOURS, MAX_TARIFF, MAX_WORTH}
use Rattle.fan_points.specs.Energy.{energy_product, IsCostOf, EnergyCosts}

-- the products on the way to the greatest one
pub yearly_most : (watts hours tariff : ℕ) → watts ≤ MAX_WATTS → hours ≤ MAX_HOURS → tariff ≤ MAX_TARIFF → watts * hours * tariff ≤ 8784000000000000
yearly_most watts hours tariff power time price =
    mul-le (watts * hours) tariff 8784000000 1000000 (mul-le watts hours 1000000 8784 power time) price

pub product_most : (watts hours tariff worth : ℕ) → watts ≤ MAX_WATTS → hours ≤ MAX_HOURS → tariff ≤ MAX_TARIFF → worth ≤ MAX_WORTH → energy_product watts hours tariff worth ≤ 8784000000000000000000
product_most watts hours tariff worth power time price years =
    mul-le (watts * hours * tariff) worth 8784000000000000 1000000 (yearly_most watts hours tariff power time price) years

-- the quotient that is rounded up is the cost
pub cost_is : (watts hours tariff worth cents : ℕ) → cents ≡ div_ceil (energy_product watts hours tariff worth) ENERGY_UNITS → IsCostOf watts hours tariff worth cents
cost_is watts hours tariff worth cents is =
    is_ceiling (pos (energy_product watts hours tariff worth)) (pos ENERGY_UNITS) (pos cents) (omega (arith, ints)) (ap (λ (n : ℕ). pos n) is)

-- which is at most that of the greatest product
pub cost_most : (watts hours tariff worth cents : ℕ) → energy_product watts hours tariff worth ≤ 8784000000000000000000 → IsCostOf watts hours tariff worth cents → cents ≤ MAX_ENERGY_COST
cost_most watts hours tariff worth cents most is =
    let least : pos cents ≤ℤ pos MAX_ENERGY_COST = is.least (pos MAX_ENERGY_COST) (omega (arith, ints, most)) in
    omega (arith, ints, least)

-- there is only one
pub cost_alone : (watts hours tariff worth cents : ℕ) → cents ≡ div_ceil (energy_product watts hours tariff worth) ENERGY_UNITS → EnergyCosts watts hours tariff worth cents
cost_alone watts hours tariff worth cents is c = (
  (λ cost.
      let one = ceiling_alone (pos (energy_product watts hours tariff worth)) (pos ENERGY_UNITS) (pos c) (omega (arith, ints)) cost in
      omega (arith, ints, is, one)),
  (λ same. cost_is watts hours tariff worth c (same ∙ is)),
)
