-- How great the numbers of the formula get.
use Rattle.std.proofs.Common.{◌≡◌, ℕ, ◌*◌, ◌<◌, ◌≤◌, refl, arith}
use Rattle.std.specs.Int.{div_ceil}
use Rattle.std.proofs.lemmas.Grind.{div_ceil_times}
use Rattle.std.proofs.lemmas.Nat.{mul-le}
use Rattle.friction_maker.specs.declared.limits.TheConstants.{MAX_ROOT}
use Rattle.friction_maker.specs.declared.air.Duct.{Duct}
use Rattle.friction_maker.specs.declared.air.Air.{Air}
use Rattle.friction_maker.specs.Rate.{IsDuct, IsAir, IsFlow, factor_num, factor_den, IsEnough, IsRoot, IsMadeRate, IsJustAbove, root_of, rate_den, rate_of}
use Rattle.std.proofs.lemmas.Int.{ints}
use Rattle.duct_units.proofs.CeilingLaws.{is_ceiling}
use Rattle.friction_maker.proofs.RootLaws.{root_of_is}

-- products of three numbers that aren't above others
mul3 : (a b c k m n : ℕ) → a ≤ k → b ≤ m → c ≤ n → a * b * c ≤ k * m * n
mul3 a b c k m n x y z = mul-le (a * b) c (k * m) n (mul-le a b k m x y) z

-- the denominator of the factor
pub den_least : (duct : Duct) (air : Air) (flow : ℕ) → IsDuct duct → IsAir air → IsFlow flow → 10000000 ≤ factor_den duct air flow
den_least duct air flow d a f =
    let product : 1 * 1 * 10 ≤ air.density * flow * duct.diameter = mul3 1 1 10 air.density flow duct.diameter a.density.0 f.0 d.diameter.0 in
    omega (arith, product, apart 1000000 air.density flow duct.diameter)
  where
    apart : (k r q d : ℕ) → k * r * q * d ≡ k * (r * q * d)
    apart k r q d = grind arith

-- the roughness is never above the diameter
rough_most : (duct : Duct) (air : Air) (flow : ℕ) → IsDuct duct → 1000 * duct.rough * air.density * flow ≤ factor_den duct air flow
rough_most duct air flow d =
    let rough : 1000 * duct.rough ≤ 1000000 * duct.diameter = omega (arith, d.rough, d.diameter.0) in
    let product : (1000 * duct.rough) * (air.density * flow) ≤ (1000000 * duct.diameter) * (air.density * flow) = mul-le _ _ _ _ rough (omega arith) in
    omega (arith, product, left 1000 duct.rough air.density flow, right 1000000 duct.diameter air.density flow)
  where
    left : (k e r q : ℕ) → k * e * r * q ≡ (k * e) * (r * q)
    left k e r q = grind arith

    right : (k d r q : ℕ) → k * r * q * d ≡ (k * d) * (r * q)
    right k d r q = grind arith

-- what the Reynolds number gives
reynolds_most : (duct : Duct) (air : Air) → IsDuct duct → IsAir air → 68 * duct.area * air.viscosity ≤ 680000000000000
reynolds_most duct air d a = mul-le (68 * duct.area) air.viscosity 6800000000 100000 (omega (arith, d.area.1)) a.viscosity.1

-- both together are at most 68,000,001
pub num_most : (duct : Duct) (air : Air) (flow : ℕ) → IsDuct duct → IsAir air → IsFlow flow → factor_num duct air flow ≤ 68000001 * factor_den duct air flow
num_most duct air flow d a f = omega (arith, rough_most duct air flow d, reynolds_most duct air d a, den_least duct air flow d a f)

-- so ten, less a millionth, is enough
pub root_most : (duct : Duct) (air : Air) (flow root : ℕ) → IsDuct duct → IsAir air → IsFlow flow → IsRoot duct air flow root → root < MAX_ROOT
root_most duct air flow root d a f is =
    let enough : IsEnough duct air flow 9999999 = omega (arith, num_most duct air flow d a f) in
    omega (arith, is.least 9999999 enough)

-- so the number that is looked for is the root
pub is_root_of : (duct : Duct) (air : Air) (flow : ℕ) → IsDuct duct → IsAir air → IsFlow flow → IsRoot duct air flow (root_of duct air flow)
is_root_of duct air flow d a f = root_of_is duct air flow (omega (arith, num_most duct air flow d a f))

-- ---- the rate

pub rate_num_most : (a b : ℕ) → a ≤ 10000000000000 → b ≤ 40000000000 → a * b ≤ 400000000000000000000000
rate_num_most a b x y = mul-le a b 10000000000000 40000000000 x y

pub flow_most : (flow : ℕ) → IsFlow flow → flow * flow ≤ 40000000000
flow_most flow f = mul-le flow flow 200000 200000 f.1 f.1

pub share_most : (factor density : ℕ) → factor ≤ MAX_ROOT → density ≤ 2000 → 500 * factor * density ≤ 10000000000000
share_most factor density x y = mul-le (500 * factor) density 5000000000 2000 (omega (arith, x)) y

pub rate_den_least : (duct : Duct) → IsDuct duct → 10000000 ≤ rate_den duct
rate_den_least duct d = mul3 1000 1000 10 duct.area duct.area duct.diameter d.area.0 d.area.0 d.diameter.0

pub rate_most : (n d : ℕ) → n ≤ 400000000000000000000000 → 10000000 ≤ d → div_ceil n d ≤ 40000000000000000
rate_most n d most least =
    let (_, below) = div_ceil_times n d (omega (arith, least)) in
    let enough : n ≤ 40000000000000000 * d = omega (arith, most, least) in
    under (div_ceil n d) d (omega (arith, below, enough))
  where
    under : (q d : ℕ) → q * d < 40000000000000001 * d → q ≤ 40000000000000000
    under q d less = grind arith

-- a fraction that is rounded up is less than one below
pub just_above : (n d : ℕ) → 0 < d → IsJustAbove n d (div_ceil n d)
just_above n d wide = let (enough, below) = div_ceil_times n d wide in record { at_least = enough; near = below }

-- the number that is looked for is the rate
pub made_rate_is : (duct : Duct) (air : Air) (flow : ℕ) → IsDuct duct → IsAir air → IsFlow flow → IsMadeRate duct air flow (rate_of duct air flow)
made_rate_is duct air flow d a f = record {
  root = root_of duct air flow;
  is_root = is_root_of duct air flow d a f;
  is_rate = is_ceiling _ _ _ (omega (arith, ints, rate_den_least duct d)) refl;
}
