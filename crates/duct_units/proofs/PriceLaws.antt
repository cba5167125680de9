-- Laws of the lesser and of the sum of numbers that may not be there.
use Rattle.std.proofs.Common.{◌≡◌, ℕ, ◌+◌, min, Option, Some, None, refl, ap, arith}
use Rattle.duct_units.specs.Prices.{lesser, both_of}

pub lesser-none : (x : Option ℕ) → lesser x None ≡ x
lesser-none None = refl
lesser-none (Some x) = refl

pub lesser-same : (x : Option ℕ) → lesser x x ≡ x
lesser-same None = refl
lesser-same (Some x) = ap Some (let same : min x x ≡ x = omega arith in same)

pub lesser-comm : (x y : Option ℕ) → lesser x y ≡ lesser y x
lesser-comm None None = refl
lesser-comm None (Some y) = refl
lesser-comm (Some x) None = refl
lesser-comm (Some x) (Some y) = ap Some (let same : min x y ≡ min y x = omega arith in same)

pub lesser-assoc : (x y z : Option ℕ) → lesser (lesser x y) z ≡ lesser x (lesser y z)
lesser-assoc None y z = refl
lesser-assoc (Some x) None z = refl
lesser-assoc (Some x) (Some y) None = refl
lesser-assoc (Some x) (Some y) (Some z) = ap Some (let same : min (min x y) z ≡ min x (min y z) = omega arith in same)

pub both_of-zero : (x : Option ℕ) → both_of x (Some 0) ≡ x
both_of-zero None = refl
both_of-zero (Some x) = ap Some (let same : x + 0 ≡ x = omega arith in same)

pub zero-both_of : (x : Option ℕ) → both_of (Some 0) x ≡ x
zero-both_of None = refl
zero-both_of (Some x) = ap Some (let same : 0 + x ≡ x = omega arith in same)

pub both_of-assoc : (x y z : Option ℕ) → both_of (both_of x y) z ≡ both_of x (both_of y z)
both_of-assoc None y z = refl
both_of-assoc (Some x) None z = refl
both_of-assoc (Some x) (Some y) None = refl
both_of-assoc (Some x) (Some y) (Some z) = ap Some (let same : x + y + z ≡ x + (y + z) = omega arith in same)
