-- A coefficient loses by half the density times the square of the velocity.
use Rattle.std.proofs.Common.{◌≡◌, ℕ, zero, suc, ◌*◌, ◌<◌, ◌≤◌, ℤ, pos, negsuc, neg_ℤ, ◌*ℤ◌, ◌≤ℤ◌, refl, sym, ap, ◌∙◌, arith}
use Rattle.std.proofs.lemmas.Int.{ints}
use Rattle.std.proofs.lemmas.Nat.{mul-le}
use Rattle.std.proofs.Math.Nat.{le_of_mul-le-mul_left}
use Rattle.duct_units.specs.Ceiling.{IsCeiling}
use Rattle.section_loss.specs.Fitting.{velocity_product, FlowsAt, LosesByVelocity}

-- ---- a fraction that is written in two ways is rounded up to one number

-- n / d and m / e are equal, and a number is enough for the one where it is for the other
scaled : (n m d e k : ℕ) → 0 < d → n * e ≡ m * d → n ≤ k * d → m ≤ k * e
scaled n m d e k some same enough =
    let times : n * e ≤ k * d * e = mul-le n e (k * d) e enough (omega arith) in
    let more : d * m ≤ d * (k * e) = grind (arith, times, same) in
    le_of_mul-le-mul_left more some

scaled_below : (n m d e k : ℕ) → 0 < d → n * e ≡ m * d → k * d ≤ n → k * e ≤ m
scaled_below n m d e k some same enough =
    let times : k * d * e ≤ n * e = mul-le (k * d) e n e enough (omega arith) in
    let more : d * (k * e) ≤ d * m = grind (arith, times, same) in
    le_of_mul-le-mul_left more some

-- the same of numbers with a sign
scaled_whole : (n m q : ℤ) (d e : ℕ) → 0 < d → 0 < e → n *ℤ pos e ≡ m *ℤ pos d → n ≤ℤ (q *ℤ pos d) → m ≤ℤ (q *ℤ pos e)
scaled_whole (pos n) (pos m) (pos q) d e some wide same enough =
    omega (arith, ints, scaled n m d e q some (omega (arith, ints, same)) (omega (arith, ints, enough)))
scaled_whole (pos n) (pos m) (negsuc q) d e some wide same enough =
    let above : 1 * 1 ≤ suc q * d = mul-le 1 1 (suc q) d (omega arith) some in
    absurd (omega (arith, ints, above, enough))
scaled_whole (pos n) (negsuc m) q d e some wide same enough =
    let above : 1 * 1 ≤ suc m * d = mul-le 1 1 (suc m) d (omega arith) some in
    absurd (omega (arith, ints, above, same))
scaled_whole (negsuc n) (pos m) q d e some wide same enough =
    let above : 1 * 1 ≤ suc n * e = mul-le 1 1 (suc n) e (omega arith) wide in
    absurd (omega (arith, ints, above, same))
scaled_whole (negsuc n) (negsuc m) (pos q) d e some wide same enough = omega (arith, ints)
scaled_whole (negsuc n) (negsuc m) (negsuc q) d e some wide same enough =
    omega (arith, ints, scaled_below (suc n) (suc m) d e (suc q) some (omega (arith, ints, same)) (omega (arith, ints, enough)))

-- so each is the ceiling of both
same_ceiling : (n m : ℤ) (d e : ℕ) (q : ℤ) → 0 < d → 0 < e → n *ℤ pos e ≡ m *ℤ pos d → IsCeiling n (pos d) q → IsCeiling m (pos e) q
same_ceiling n m d e q some wide same is = record {
  enough = scaled_whole n m q d e some wide same is.enough;
  least = λ p enough. is.least p (scaled_whole m n p e d wide some (sym same) enough);
}

-- ---- the two ways

neg_times : (x k : ℕ) → neg_ℤ (pos x) *ℤ pos k ≡ neg_ℤ (pos (x * k))
neg_times zero k = omega (arith, ints)
neg_times (suc x) k = refl

-- a coefficient by two products that scale alike
scaled_alike : (c : ℤ) (p r d e : ℕ) → p * e ≡ r * d → (c *ℤ pos p) *ℤ pos e ≡ (c *ℤ pos r) *ℤ pos d
scaled_alike (pos c) p r d e same =
    let products : c * p * e ≡ c * r * d = grind (arith, same) in
    ap (λ (n : ℕ). pos n) products
scaled_alike (negsuc c) p r d e same =
    let products : suc c * p * e ≡ suc c * r * d = grind (arith, same) in
    neg_times (suc c * p) e ∙ ap (λ (n : ℕ). neg_ℤ (pos n)) products ∙ sym (neg_times (suc c * r) d)

-- the airflow over the area is the velocity
alike : (density flow area velocity : ℕ) → FlowsAt flow area velocity → velocity_product density flow * (2 * 100000000000) ≡ density * velocity * velocity * (area * area)
alike density flow area velocity at =
    let square : (flow * 1000000) * (flow * 1000000) ≡ (velocity * area) * (velocity * area) = ap (λ n. n * n) at in
    let whole : density * ((flow * 1000000) * (flow * 1000000)) ≡ density * ((velocity * area) * (velocity * area)) = ap (λ n. density * n) square in
    grind (arith, whole)

pub loses_by_velocity : LosesByVelocity
loses_by_velocity density flow area velocity c loss some at =
    let square : 0 < area * area = mul-le 1 1 area area some some in
    let same = scaled_alike c (velocity_product density flow) (density * velocity * velocity) (area * area) (2 * 100000000000) (alike density flow area velocity at) in (
      λ is. same_ceiling (c *ℤ pos (velocity_product density flow)) (c *ℤ pos (density * velocity * velocity)) (area * area) (2 * 100000000000) loss square (omega arith) same is,
      λ is. same_ceiling (c *ℤ pos (density * velocity * velocity)) (c *ℤ pos (velocity_product density flow)) (2 * 100000000000) (area * area) loss (omega arith) square (sym same) is,
    )
