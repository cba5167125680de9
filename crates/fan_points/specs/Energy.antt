-- At which airflows a fan serves, and what its energy is worth.
--   Serves fan q           the airflow lies from the fan's low to its high; serves q fan as a truth
--   IsEnergy terms         hours, tariff and worth lie within their bounds
--   energy_product         W by hours by tariff by worth
--   energy_of fan terms    that over the units, rounded up to whole cents
--   IsEnergyCost           the least whole number of cents that is enough
--   EnergyCosts            at these numbers energy costs so many cents, and no other whole number
use Rattle.std.specs.Prelude.{◌≡◌, ◌↔◌, ℕ, ◌*◌, ◌≤◌, nat_le, Bool, ◌&&◌, pos}
use Rattle.std.specs.Int.{div_ceil}
use Rattle.duct_units.specs.Ceiling.{IsCeiling}
use Rattle.fan_points.specs.declared.limits.TheConstants.{MAX_HOURS, MAX_TARIFF, MAX_WORTH, ENERGY_UNITS}
use Rattle.fan_points.specs.declared.row.FanRow.{FanRow}
use Rattle.fan_points.specs.declared.terms.Energy.{Energy}

-- the airflow lies from the fan's low to its high
abbrev pub Serves : FanRow → ℕ → Type 0
Serves fan q = (fan.low ≤ q) × (q ≤ fan.high)

-- the same as a truth
abbrev pub serves : ℕ → FanRow → Bool
serves q fan = nat_le fan.low q && nat_le q fan.high

-- the terms lie within their bounds
pub record IsEnergy (terms : Energy) : Type 0 where
  pub hours : terms.hours ≤ MAX_HOURS
  pub tariff : terms.tariff ≤ MAX_TARIFF
  pub worth : terms.worth ≤ MAX_WORTH

-- the power by the hours, the tariff and the worth
abbrev pub energy_product : ℕ → ℕ → ℕ → ℕ → ℕ
energy_product watts hours tariff worth = watts * hours * tariff * worth

-- the least whole number of cents that is enough for the power at these terms
abbrev pub IsCostOf : ℕ → ℕ → ℕ → ℕ → ℕ → Type 0
IsCostOf watts hours tariff worth cents =
    IsCeiling (pos (energy_product watts hours tariff worth)) (pos ENERGY_UNITS) (pos cents)

-- the cost of the fan's energy, in cents
abbrev pub energy_of : FanRow → Energy → ℕ
energy_of fan terms = div_ceil (energy_product fan.watts terms.hours terms.tariff terms.worth) ENERGY_UNITS

-- the least whole number of cents that is enough for the fan's energy
abbrev pub IsEnergyCost : FanRow → Energy → ℕ → Type 0
IsEnergyCost fan terms cents = IsCostOf fan.watts terms.hours terms.tariff terms.worth cents

-- the power in W at these terms costs so many cents, and no other whole number
abbrev pub EnergyCosts : ℕ → ℕ → ℕ → ℕ → ℕ → Type 0
EnergyCosts watts hours tariff worth cents = (c : ℕ) → IsCostOf watts hours tariff worth c ↔ (c ≡ cents)
