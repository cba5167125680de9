-- The rates of a size never fall over the multiples of one airflow.
--
-- From j to j + 1 times an airflow its square grows by (j + 1)^2 / j^2, while e/D + 68/Re falls at most by j / (j + 1),
-- so that the root falls at most by that and one: what is lost by rounding up is less than what the square gains.
use Rattle.std.proofs.Common.{◌≡◌, ℕ, ◌+◌, ◌*◌, ◌^◌, ◌<◌, ◌≤◌, ◌⊎◌, inl, inr, Bool, true, false, cond, refl, sym, subst, arith}
use Rattle.std.specs.Prelude.{nat_le}
use Rattle.std.specs.Int.{div_ceil}
use Rattle.std.proofs.lemmas.Grind.{div_ceil_times}
use Rattle.std.proofs.lemmas.Bool.{leb-true, leb-false}
use Rattle.std.proofs.lemmas.Nat.{mul-le, mul-pow}
use Rattle.std.proofs.Math.Nat.{pow-le-pow_left, pow-suc, mul-le-mul_left, mul-le-mul_right, le_of_mul-le-mul_right, one-le-pow, one-le-mul}
use Rattle.friction_maker.specs.declared.limits.TheConstants.{FACTOR_SCALE}
use Rattle.friction_maker.specs.declared.air.Duct.{Duct}
use Rattle.friction_maker.specs.declared.air.Air.{Air}
use Rattle.friction_maker.proofs.BoundLaws.{rate_den_least}
use Rattle.friction_maker.specs.Rate.{IsDuct, factor_num, IsEnough, IsRoot, corrected, rate_num, rate_den}

-- ---- the root

-- what is enough at j + 1 times an airflow is enough at j times it, times (j + 1) / j
enough_before : (s n m x j k r : ℕ) → 1 ≤ j → n ≤ m → s * m ≤ r ^ 4 * (x * (j + 1)) → (j + 1) * r ≤ k * j → s * n ≤ k ^ 4 * (x * j)
enough_before s n m x j k r some more enough above =
    let p = r ^ 4 * (x * (j + 1)) in
    let cubes : j ^ 3 * j ≤ (j + 1) ^ 3 * j = mul-le-mul_right j (pow-le-pow_left (omega arith) 3) in
    let first : (s * n) * (j ^ 3 * j) ≤ p * ((j + 1) ^ 3 * j) = mul-le (s * n) (j ^ 3 * j) p ((j + 1) ^ 3 * j) (omega (arith, enough, mul-le-mul_left s more)) cubes in
    let powers : ((j + 1) * r) ^ 4 ≤ (k * j) ^ 4 = pow-le-pow_left above 4 in
    let rises : ((j + 1) ^ 4 * r ^ 4) * (x * j) ≤ (k ^ 4 * j ^ 4) * (x * j) =
    mul-le-mul_right (x * j) (rw (mul-pow (j + 1) r 4, mul-pow k j 4) at powers) in
    let last : (s * n) * (j ^ 3 * j) ≤ (k ^ 4 * (x * j)) * (j ^ 3 * j) =
    chain (s * n) (j ^ 3) ((j + 1) ^ 3) (r ^ 4) (k ^ 4) x j first (rw (pow-suc (j + 1) 3, pow-suc j 3) at rises) in
    le_of_mul-le-mul_right last (one-le-mul (one-le-pow 3 j some) some)
  where
    chain : (a b c r k x j : ℕ) → a * (b * j) ≤ (r * (x * (j + 1))) * (c * j) → ((c * (j + 1)) * r) * (x * j) ≤ (k * (b * j)) * (x * j) → a * (b * j) ≤ (k * (x * j)) * (b * j)
    chain a b c r k x j first rises =
        let one : (r * (x * (j + 1))) * (c * j) ≡ ((c * (j + 1)) * r) * (x * j) = grind arith in
        let two : (k * (b * j)) * (x * j) ≡ (k * (x * j)) * (b * j) = grind arith in
        omega (arith, first, rises, one, two)

-- from j to j + 1 times an airflow the root falls at most by j / (j + 1), and one
pub root_step : (duct : Duct) (air : Air) (q j root next : ℕ) → 1 ≤ j → IsRoot duct air (q * j) root → IsRoot duct air (q * (j + 1)) next → j * root ≤ (j + 1) * next + j
root_step duct air q j root next some is later =
    let k = div_ceil ((j + 1) * next) j in
    let (above, below) = div_ceil_times ((j + 1) * next) j some in
    let more : factor_num duct air (q * j) ≤ factor_num duct air (q * (j + 1)) = nums 1000 duct.rough air.density q j (68 * duct.area * air.viscosity) in
    let den = dens 1000000 air.density q duct.diameter in
    let enough : FACTOR_SCALE ^ 4 * factor_num duct air (q * (j + 1)) ≤ next ^ 4 * ((1000000 * air.density * q * duct.diameter) * (j + 1)) =
    subst (λ (d : ℕ). FACTOR_SCALE ^ 4 * factor_num duct air (q * (j + 1)) ≤ next ^ 4 * d) (den (j + 1)) later.enough in
    let here : IsEnough duct air (q * j) k =
    subst (λ (d : ℕ). FACTOR_SCALE ^ 4 * factor_num duct air (q * j) ≤ k ^ 4 * d) (sym (den j))
    (enough_before (FACTOR_SCALE ^ 4) _ _ (1000000 * air.density * q * duct.diameter) j k next some more enough above) in
    let least : j * root ≤ j * k = mul-le-mul_left j (is.least k here) in
    let turned : j * k ≡ k * j = grind arith in
    omega (arith, least, turned, below)
  where
    nums : (u e r q j c : ℕ) → u * e * r * (q * j) + c ≤ u * e * r * (q * (j + 1)) + c
    nums u e r q j c = let less : u * e * r * (q * j) ≤ u * e * r * (q * (j + 1)) = mul-le-mul_left (u * e * r) (mul-le-mul_left q (omega arith)) in omega (arith, less)

    dens : (u r q d j : ℕ) → u * r * (q * j) * d ≡ (u * r * q * d) * j
    dens u r q d j = grind arith

-- ---- the factor

-- below 18,000 the factor is corrected and rounded up, and from there on it stays
corrected_is : (root : ℕ) → ((18000 ≤ root) × (corrected root ≡ root)) ⊎ ((root < 18000) × (85 * root + 280000 ≤ 100 * corrected root) × (100 * corrected root < 85 * root + 280100))
corrected_is root = by (nat_le 18000 root) refl
  where
    by : (b : Bool) → nat_le 18000 root ≡ b
        → ((18000 ≤ root) × (cond b root (div_ceil (85 * root + 280000) 100) ≡ root))
        ⊎ ((root < 18000) × (85 * root + 280000 ≤ 100 * cond b root (div_ceil (85 * root + 280000) 100)) × (100 * cond b root (div_ceil (85 * root + 280000) 100) < 85 * root + 280100))
    by true is = inl (leb-true 18000 root is, refl)
    by false is =
        let (enough, near) = div_ceil_times (85 * root + 280000) 100 (omega arith) in
        inr (omega (arith, leb-false 18000 root is), omega (arith, enough), omega (arith, near))

-- what a square gains, in plain sums
squares : (j g : ℕ) → (j + 1) * (j + 1) * g ≡ j * j * g + 2 * (j * g) + g
squares j g = grind arith

scaled : (a b c k : ℕ) → k * (a * b + c) ≡ a * (k * b) + k * c
scaled a b c k = grind arith

turned : (a b k : ℕ) → k * (a * b) ≡ a * (k * b)
turned a b k = grind arith

-- a linear bound holds for each multiple
multiple : (k a b c d x y : ℕ) → a * x + c ≤ b * y + d → a * (k * x) + k * c ≤ b * (k * y) + k * d
multiple k a b c d x y less =
    let more : k * (a * x + c) ≤ k * (b * y + d) = mul-le-mul_left k less in
    omega (arith, more, scaled a x c k, scaled b y d k)

-- neither factor is corrected
both_high : (j root next : ℕ) → 18000 ≤ next → j ≤ 63 → j * j * root ≤ j * j * next + j * next + j * j → j * j * root ≤ (j + 1) * (j + 1) * next
both_high j root next high few most =
    let room : j * j ≤ j * next = mul-le-mul_left j (omega (arith, few, high)) in
    omega (arith, most, squares j next, room)

-- the later one is
later_low : (j root next g : ℕ) → next + 1 ≤ g → j * j * root ≤ j * j * next + j * next + j * j → j * j * root ≤ (j + 1) * (j + 1) * g
later_low j root next g above most =
    let square : j * j * next + j * j ≤ j * j * g = omega (arith, mul-le-mul_left (j * j) above, scaled 1 next 1 (j * j)) in
    let once : j * next ≤ j * g = mul-le-mul_left j (omega (arith, above)) in
    omega (arith, most, squares j g, square, once)

-- the earlier one is
earlier_low : (j f next : ℕ) → f ≤ 18100 → 18000 ≤ next → j ≤ 63 → j * j * f ≤ (j + 1) * (j + 1) * next
earlier_low j f next low high few =
    let square : j * j * f ≤ j * j * 18100 = mul-le-mul_left (j * j) low in
    let more : j * j * 18000 ≤ j * j * next = mul-le-mul_left (j * j) high in
    let once : j * 18000 ≤ j * next = mul-le-mul_left j high in
    let room : j * j ≤ j * 63 = mul-le-mul_left j few in
    omega (arith, squares j next, square, more, once, room)

-- both are
both_low : (j root next f g : ℕ) → j ≤ 63 → 100 * f < 85 * root + 280100 → 85 * next + 280000 ≤ 100 * g → j * j * root ≤ j * j * next + j * next + j * j
    → j * j * f ≤ (j + 1) * (j + 1) * g
both_low j root next f g few below above most =
    let square : 100 * (j * j * f) + j * j * 0 ≤ 85 * (j * j * root) + j * j * 280099 = multiple (j * j) 100 85 0 280099 f root (omega (arith, below)) in
    let later : 85 * (j * j * next) + j * j * 280000 ≤ 100 * (j * j * g) + j * j * 0 = multiple (j * j) 85 100 280000 0 next g (omega (arith, above)) in
    let once : 85 * (j * next) + j * 280000 ≤ 100 * (j * g) + j * 0 = multiple j 85 100 280000 0 next g (omega (arith, above)) in
    let room : j * j ≤ j * 63 = mul-le-mul_left j few in
    omega (arith, squares j g, square, later, once, room, most)

-- what the square gains is more than what the factor loses
pub factor_step : (j root next : ℕ) → j ≤ 63 → j * root ≤ (j + 1) * next + j → j * j * corrected root ≤ (j + 1) * (j + 1) * corrected next
factor_step j root next few step = by (corrected root) (corrected next) (corrected_is root) (corrected_is next)
  where
    spread : (j r : ℕ) → j * ((j + 1) * r + j) ≡ j * j * r + j * r + j * j
    spread j r = grind arith

    swap : (j r : ℕ) → j * j * r ≡ j * (j * r)
    swap j r = grind arith

    most : j * j * root ≤ j * j * next + j * next + j * j
    most = omega (arith, mul-le-mul_left j step, spread j next, swap j root)

    by : (f g : ℕ) → ((18000 ≤ root) × (f ≡ root)) ⊎ ((root < 18000) × (85 * root + 280000 ≤ 100 * f) × (100 * f < 85 * root + 280100))
        → ((18000 ≤ next) × (g ≡ next)) ⊎ ((next < 18000) × (85 * next + 280000 ≤ 100 * g) × (100 * g < 85 * next + 280100))
        → j * j * f ≤ (j + 1) * (j + 1) * g
    by f g (inl (high, same)) (inl (low, keeps)) = rw (same, keeps) (both_high j root next low few most)
    by f g (inl (high, same)) (inr (low, above, near)) = rw same (later_low j root next g (omega (arith, low, above)) most)
    by f g (inr (low, above, near)) (inl (high, keeps)) = rw keeps (earlier_low j f next (omega (arith, low, near)) high few)
    by f g (inr (low, above, near)) (inr (less, over, close)) = both_low j root next f g few near over most

-- ---- the rate

-- a greater fraction isn't less where it is rounded up
ceil_rises : (m n d : ℕ) → 0 < d → m ≤ n → div_ceil m d ≤ div_ceil n d
ceil_rises m n d above less =
    under (div_ceil m d) (div_ceil n d) d (omega (arith, (div_ceil_times m d above).1, (div_ceil_times n d above).0, less))
  where
    under : (a b d : ℕ) → a * d < b * d + d → a ≤ b
    under a b d less = grind arith

-- the rate at j + 1 times an airflow isn't below that at j times it
pub rate_step : (duct : Duct) (air : Air) (q j root next : ℕ) → IsDuct duct → 1 ≤ j → j ≤ 63 → IsRoot duct air (q * j) root → IsRoot duct air (q * (j + 1)) next
    → div_ceil (rate_num (corrected root) air (q * j)) (rate_den duct) ≤ div_ceil (rate_num (corrected next) air (q * (j + 1))) (rate_den duct)
rate_step duct air q j root next d some few is later =
    let factors = factor_step j root next few (root_step duct air q j root next some is later) in
    let more : (500 * air.density * q * q) * (j * j * corrected root) ≤ (500 * air.density * q * q) * ((j + 1) * (j + 1) * corrected next) = mul-le-mul_left (500 * air.density * q * q) factors in
    ceil_rises _ _ (rate_den duct) (omega (arith, rate_den_least duct d))
    (omega (arith, more, apart 500 (corrected root) air.density q j, apart 500 (corrected next) air.density q (j + 1)))
  where
    apart : (k f r q j : ℕ) → k * f * r * ((q * j) * (q * j)) ≡ (k * r * q * q) * (j * j * f)
    apart k f r q j = grind arith
