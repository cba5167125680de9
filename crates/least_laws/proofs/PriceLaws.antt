-- Laws of prices that may not be there, and of their sums.
use Rattle.std.proofs.Common.{◌≡◌, ℕ, ◌+◌, ◌≤◌, refl, arith, ap, Option, Some, None}
use Rattle.std.specs.Prelude.{IsSome, IfSome}
use Rattle.duct_units.specs.Prices.{both_of}

-- what is there has a value
pub some-there : {X : Type 0} (o : Option X) → IsSome o → (x : X) × (o ≡ Some x)
some-there None is = absurd (cc is)
some-there (Some x) is = (x, refl)

pub both_of-zero : (x : Option ℕ) → both_of x (Some 0) ≡ x
both_of-zero None = refl
both_of-zero (Some x) = ap Some (let same : x + 0 ≡ x = omega arith in same)

pub zero-both_of : (x : Option ℕ) → both_of (Some 0) x ≡ x
zero-both_of None = refl
zero-both_of (Some x) = ap Some (let same : 0 + x ≡ x = omega arith in same)

pub both_of-again : (x y z : Option ℕ) → both_of (both_of x y) z ≡ both_of x (both_of y z)
both_of-again None y z = refl
both_of-again (Some x) None z = refl
both_of-again (Some x) (Some y) None = refl
both_of-again (Some x) (Some y) (Some z) = ap Some (let same : x + y + z ≡ x + (y + z) = omega arith in same)

pub both_of-le : (x y : Option ℕ) (m n : ℕ) → IfSome x (λ v. v ≤ m) → IfSome y (λ v. v ≤ n)
    → IfSome (both_of x y) (λ v. v ≤ m + n)
both_of-le None y m n one other = tt
both_of-le (Some x) None m n one other = tt
both_of-le (Some x) (Some y) m n one other = omega arith

-- where a sum is there, both prices are
pub both_of-there : (x y : Option ℕ) → IsSome (both_of x y) → IsSome x × IsSome y
both_of-there None y some = absurd (cc some)
both_of-there (Some x) None some = absurd (cc some)
both_of-there (Some x) (Some y) some = (refl, refl)
