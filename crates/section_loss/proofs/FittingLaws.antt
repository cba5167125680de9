-- What a coefficient loses, and how much it is at most.
use Rattle.std.proofs.Common.{◌≡◌, ℕ, suc, ◌*◌, ◌≤◌, ℤ, pos, negsuc, neg_ℤ, ◌*ℤ◌, ◌≤ℤ◌, ap, arith}
use Rattle.std.specs.Int.{w128}
use mir.Val.{to_z, of_z}
use Rattle.std.proofs.lemmas.Int.{ints}
use Rattle.std.proofs.lemmas.Nat.{mul-le}
use Rattle.duct_units.specs.Ceiling.{IsCeiling}
use Rattle.duct_units.proofs.CeilingLaws.{is_ceiling}
use Rattle.fitting_tables.specs.declared.limits.TheConstants.{MIN_VALUE, MAX_VALUE}
use Rattle.fitting_tables.specs.Coefficient.{IsWeighed}
use Rattle.fitting_tables.proofs.WeightLaws.{times_within}
use Rattle.size_catalogue.specs.declared.limits.TheConstants.{MIN_AREA, MAX_AREA}
use Rattle.duct_definitions.specs.declared.airflow.TheConstants.{THOUSANDTHS}
use Rattle.section_loss.specs.declared.limits.TheConstants.{MAX_FITTING_LOSS}
use Rattle.section_loss.specs.Fitting.{ratio_of, IsRatio}

-- the square of an area
pub area_low : (area : ℕ) → MIN_AREA ≤ area → 1000000 ≤ area * area
area_low area low = mul-le 1000 1000 area area low low

pub area_high : (area : ℕ) → area ≤ MAX_AREA → area * area ≤ 10000000000000000
area_high area high = mul-le area area 100000000 100000000 high high

-- a coefficient within its bounds by a velocity product, as it is held in 128 bits
pub product_held : (a b c : ℤ) (p : ℕ) → a ≡ c → b ≡ pos p → p ≤ 400000000000000 → (MIN_VALUE ≤ℤ c) × (c ≤ℤ MAX_VALUE)
    → to_z w128 (of_z w128 (to_z w128 (of_z w128 a) *ℤ to_z w128 (of_z w128 b))) ≡ c *ℤ pos p
product_held a b c p is_c is_p most bounds =
    let product = times_within c p bounds in
    let first : to_z w128 (of_z w128 a) ≡ c = omega (arith, ints, is_c, bounds.0, bounds.1) in
    let second : to_z w128 (of_z w128 b) ≡ pos p = omega (arith, ints, is_p, most) in
    rw (first, second) (omega (arith, ints, product.0, product.1, most))

-- what is rounded up over the square of an area is no greater than the greatest loss, and no less than the least
pub ceiling_within : (n q : ℤ) (p d : ℕ) → IsWeighed p n → p ≤ 400000000000000 → 1000000 ≤ d → IsCeiling n (pos d) q
    → (neg_ℤ (pos MAX_FITTING_LOSS) ≤ℤ q) × (q ≤ℤ pos MAX_FITTING_LOSS)
ceiling_within n q p d weighed most low is =
    (least q is.enough, is.least (pos MAX_FITTING_LOSS) (omega (arith, ints, weighed.1, most, low)))
  where
    least : (q : ℤ) → n ≤ℤ (q *ℤ pos d) → neg_ℤ (pos MAX_FITTING_LOSS) ≤ℤ q
    least (pos k) enough = omega (arith, ints)
    least (negsuc k) enough =
        let product : suc k * d ≤ 400000000000000000000 = omega (arith, ints, weighed.0, enough, most) in
        let wide : suc k * 1000000 ≤ suc k * d = mul-le (suc k) 1000000 (suc k) d (omega arith) low in
        omega (arith, ints, product, wide)

-- a whole number of thousandths that was rounded up is the ratio
pub ratio_is : (part whole ratio : ℕ) → 1 ≤ whole → ratio ≡ ratio_of part whole → IsRatio part whole ratio
ratio_is part whole ratio some is =
    is_ceiling (pos (THOUSANDTHS * part)) (pos whole) (pos ratio) (omega (arith, ints, some)) (ap (λ (n : ℕ). pos n) is)
