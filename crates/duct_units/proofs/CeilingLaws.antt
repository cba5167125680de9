-- The ceiling is the least whole number that is enough, and there is only one.
use Rattle.std.proofs.Common.{◌≡◌, ℕ, zero, suc, ◌*◌, ◌/◌, ◌<◌, ◌≤◌, ℤ, pos, negsuc, neg_ℤ, ◌*ℤ◌, ◌≤ℤ◌, ◌<ℤ◌, sym, subst, arith}
use Rattle.std.proofs.lemmas.Grind.{div_ceil_times}
use Rattle.std.proofs.lemmas.Int.{ints}
use Rattle.std.specs.Int.{div_ceil}
use Rattle.duct_units.specs.Ceiling.{ceiling, IsCeiling}

-- for n from 0 on: the quotient that is rounded up is enough, and none below it is
above_enough : (n d : ℕ) → 0 < d → n ≤ div_ceil n d * d
above_enough n d above = (div_ceil_times n d above).0

above_least : (n d p : ℕ) → 0 < d → n ≤ p * d → div_ceil n d ≤ p
above_least n d p above enough = grind (arith, div_ceil_times n d above)

-- for n below 0: the same of the quotient that is rounded down
below_enough : (n d : ℕ) → 0 < d → n / d * d ≤ n
below_enough n d above = grind arith

below_least : (n d p : ℕ) → 0 < d → p * d ≤ n → p ≤ n / d
below_least n d p above enough = grind arith

-- and the same of numbers with a sign
enough_above : (n d : ℕ) → 0 < d → pos n ≤ℤ (pos (div_ceil n d) *ℤ pos d)
enough_above n d above = omega (arith, ints, above_enough n d above)

least_above : (n d : ℕ) → 0 < d → (p : ℤ) → pos n ≤ℤ (p *ℤ pos d) → pos (div_ceil n d) ≤ℤ p
least_above n d above (pos p) enough = omega (arith, ints, above_least n d p above (omega (arith, ints)))
least_above n d above (negsuc p) enough = absurd (grind (arith, ints))

enough_below : (n d q : ℕ) → q * d ≤ suc n → negsuc n ≤ℤ (neg_ℤ (pos q) *ℤ pos d)
enough_below n d zero most = omega (arith, ints)
enough_below n d (suc q) most = omega (arith, ints)

least_below : (n d : ℕ) → 0 < d → (p : ℤ) → negsuc n ≤ℤ (p *ℤ pos d) → neg_ℤ (pos (suc n / d)) ≤ℤ p
least_below n d above (pos p) enough = omega (arith, ints)
least_below n d above (negsuc p) enough = omega (arith, ints, below_least (suc n) d (suc p) above (omega (arith, ints)))

-- the ceiling is enough, and no lesser whole number is
pub ceiling_is : (n d : ℤ) → pos 0 <ℤ d → IsCeiling n d (ceiling n d)
ceiling_is (pos n) (pos d) above =
    let wide : 0 < d = omega (arith, ints) in
    record { enough = enough_above n d wide; least = least_above n d wide }
ceiling_is (negsuc n) (pos d) above =
    let wide : 0 < d = omega (arith, ints) in
    record { enough = enough_below n d (suc n / d) (below_enough (suc n) d wide); least = least_below n d wide }
ceiling_is n (negsuc d) above = absurd (omega (arith, ints))

-- there is only one
pub ceiling_alone : (n d q : ℤ) → pos 0 <ℤ d → IsCeiling n d q → q ≡ ceiling n d
ceiling_alone n d q above is =
    let one = ceiling_is n d above in
    omega (arith, ints, is.least (ceiling n d) one.enough, one.least q is.enough)

-- a number that is computed as the ceiling is it
pub is_ceiling : (n d q : ℤ) → pos 0 <ℤ d → q ≡ ceiling n d → IsCeiling n d q
is_ceiling n d q above e = subst (IsCeiling n d) (sym e) (ceiling_is n d above)
