-- The friction factor is the least whole number that is enough.
use Rattle.std.proofs.Common.{◌≡◌, ℕ, zero, suc, ◌+◌, ◌-◌, ◌*◌, ◌^◌, ◌<◌, ◌≤◌, ◌⊎◌, inl, inr, Bool, true, false, cond, refl, sym, ap, ◌∙◌, subst, arith}
use Rattle.std.specs.Prelude.{nat_le}
use Rattle.std.specs.Int.{div_ceil}
use Rattle.std.proofs.lemmas.Grind.{div_ceil_times}
use Rattle.std.proofs.lemmas.Bool.{le-leb, leb-true}
use Rattle.std.proofs.Math.Nat.{pow-le-pow_left, pow-suc, pow-zero, mul-le-mul_right}
use Rattle.std.proofs.lemmas.Nat.{mul-le}
use Rattle.friction_maker.specs.declared.limits.TheConstants.{FACTOR_SCALE, MAX_ROOT}
use Rattle.friction_maker.specs.declared.air.Duct.{Duct}
use Rattle.friction_maker.specs.declared.air.Air.{Air}
use Rattle.friction_maker.specs.Rate.{factor_num, factor_den, IsEnough, IsRoot, first_from, root_of}

-- ---- the least that is enough

-- so many millionths are too few
abbrev pub IsShort : Duct → Air → ℕ → ℕ → Type 0
IsShort duct air flow f = f ^ 4 * factor_den duct air flow < FACTOR_SCALE ^ 4 * factor_num duct air flow

-- a greater number has a greater fourth power
fourth_rises : (f g d : ℕ) → f ≤ g → f ^ 4 * d ≤ g ^ 4 * d
fourth_rises f g d less = mul-le-mul_right d (pow-le-pow_left less 4)

compared : (a b : ℕ) → (a ≤ b) ⊎ (b < a)
compared a b = grind arith

same_or_above : (a b : ℕ) → a ≤ b → (a ≡ b) ⊎ (a < b)
same_or_above a b le = grind arith

-- whether so many millionths are enough
abbrev enough_test : Duct → Air → ℕ → ℕ → Bool
enough_test duct air flow f = nat_le (FACTOR_SCALE ^ 4 * factor_num duct air flow) (f ^ 4 * factor_den duct air flow)

-- what is enough stands above what is too little
above_short : (f g n d : ℕ) → f ^ 4 * d < n → n ≤ g ^ 4 * d → f < g
above_short f g n d short enough =
    elim (compared g f) [
      | inl le ↦ absurd (omega (arith, fourth_rises g f d le))
      | inr lt ↦ lt
    ]

-- a number that is enough, the one before it being too little, is the least
pub root_is : (duct : Duct) (air : Air) (flow root f : ℕ) → root ≡ f + 1 → IsEnough duct air flow root → IsShort duct air flow f → IsRoot duct air flow root
root_is duct air flow root f next enough short = record {
  enough = enough;
  least = λ g more. let above : f < g = above_short f g _ _ short more in omega (arith, next);
}

-- there is only one
pub root_alone : (duct : Duct) (air : Air) (flow a b : ℕ) → IsRoot duct air flow a → IsRoot duct air flow b → a ≡ b
root_alone duct air flow a b is other = omega (arith, is.least b other.enough, other.least a is.enough)

-- ---- the first that passes a test

-- where the last passes, the first that passes does
first_passes : (test : ℕ → Bool) (n left : ℕ) → test (n + left) ≡ true → test (first_from test n left) ≡ true
unfolding first_from
first_passes test n zero passes = let here : n + 0 ≡ n = omega arith in subst (λ (k : ℕ). test k ≡ true) here passes
first_passes test n (suc left) passes =
    let next : n + suc left ≡ (n + 1) + left = omega arith in
    step (test n) refl (first_passes test (n + 1) left (subst (λ (k : ℕ). test k ≡ true) next passes))
  where
    step : (b : Bool) → test n ≡ b → test (first_from test (n + 1) left) ≡ true → test (cond b n (first_from test (n + 1) left)) ≡ true
    step true is later = is
    step false is later = later

-- and none before it does
first_fails : (test : ℕ → Bool) (n left i : ℕ) → n ≤ i → i < first_from test n left → test i ≡ false
unfolding first_from
first_fails test n zero i low below = absurd (omega arith)
first_fails test n (suc left) i low below = step (test n) refl (same_or_above n i low) below (λ above less. first_fails test (n + 1) left i above less)
  where
    step : (b : Bool) → test n ≡ b → (n ≡ i) ⊎ (n < i) → i < cond b n (first_from test (n + 1) left) → (n + 1 ≤ i → i < first_from test (n + 1) left → test i ≡ false) → test i ≡ false
    step true is where_i below later = absurd (omega (arith, low))
    step false is (inl same) below later = ap test (sym same) ∙ is
    step false is (inr lt) below later = later (omega arith) below

-- the number that is looked for is the root, where any is enough
pub root_of_is : (duct : Duct) (air : Air) (flow : ℕ) → IsEnough duct air flow MAX_ROOT → IsRoot duct air flow (root_of duct air flow)
unfolding root_of
root_of_is duct air flow enough = record {
  enough = leb-true _ _ (first_passes (enough_test duct air flow) 0 MAX_ROOT (le-leb _ _ enough));
  least = λ g more. none_before g more (compared (root_of duct air flow) g);
}
  where
    none_before : (g : ℕ) → IsEnough duct air flow g → (root_of duct air flow ≤ g) ⊎ (g < root_of duct air flow) → root_of duct air flow ≤ g
    none_before g more (inl le) = le
    none_before g more (inr lt) = cc (sym (le-leb _ _ more) ∙ first_fails (enough_test duct air flow) 0 MAX_ROOT g (omega arith) lt)

-- ---- two square roots, each rounded down

fourth : (q : ℕ) → q ^ 4 ≡ (q * q) * (q * q)
fourth q = grind (arith, pow-suc q 3, pow-suc q 2, pow-suc q 1, pow-suc q 0, pow-zero q)

-- the fourth root of a number is the square root of its square root
pub fourth_root : (t s q : ℕ) → s * s ≤ t → t < (s + 1) * (s + 1) → q * q ≤ s → s < (q + 1) * (q + 1) → (q ^ 4 ≤ t) × (t < (q + 1) ^ 4)
fourth_root t s q low high inner outer =
    let below : (q * q) * (q * q) ≤ s * s = mul-le (q * q) (q * q) s s inner inner in
    let next : s + 1 ≤ (q + 1) * (q + 1) = omega (arith, outer) in
    let above : (s + 1) * (s + 1) ≤ ((q + 1) * (q + 1)) * ((q + 1) * (q + 1)) = mul-le (s + 1) (s + 1) ((q + 1) * (q + 1)) ((q + 1) * (q + 1)) next next in
    (omega (arith, fourth q, below, low), omega (arith, fourth (q + 1), above, high))

-- a whole number is at least a fraction exactly where it is at least what the fraction is rounded up to
pub power_enough : (n d power p : ℕ) → 0 < d → power ≡ div_ceil n d → power ≤ p → n ≤ p * d
power_enough n d power p above is le =
    let same : power * d ≡ div_ceil n d * d = ap (λ k. k * d) is in
    omega (arith, (div_ceil_times n d above).0, mul-le-mul_right d le, same)

pub power_short : (n d power p : ℕ) → 0 < d → power ≡ div_ceil n d → p < power → p * d < n
power_short n d power p above is lt =
    let more : (p + 1) * d ≤ power * d = mul-le-mul_right d (omega arith) in
    let same : power * d ≡ div_ceil n d * d = ap (λ k. k * d) is in
    let next : (p + 1) * d ≡ p * d + d = grind arith in
    omega (arith, (div_ceil_times n d above).1, more, same, next)

-- so the root is one above the fourth root of what lies below the fraction
pub root_found : (duct : Duct) (air : Air) (flow power s q : ℕ) → 0 < factor_den duct air flow → 0 < power
    → power ≡ div_ceil (FACTOR_SCALE ^ 4 * factor_num duct air flow) (factor_den duct air flow)
    → s * s ≤ power - 1 → power - 1 < (s + 1) * (s + 1) → q * q ≤ s → s < (q + 1) * (q + 1) → IsRoot duct air flow (q + 1)
root_found duct air flow power s q wide some is low high inner outer =
    let (below, above) = fourth_root (power - 1) s q low high inner outer in
    root_is duct air flow (q + 1) q refl
    (power_enough _ _ power ((q + 1) ^ 4) wide is (omega (arith, above)))
    (power_short _ _ power (q ^ 4) wide is (omega (arith, below)))
