-- Rounding up to a whole number.
use Rattle.std.specs.Prelude.{◌/◌, ℤ, pos, negsuc, suc, neg_ℤ, unsigned_abs, ◌*ℤ◌, ◌≤ℤ◌}
use Rattle.std.specs.Int.{div_ceil}

-- q is the least whole number for which q times d is at least n
pub record IsCeiling (n d q : ℤ) : Type 0 where
  pub enough : n ≤ℤ (q *ℤ d)
  pub least : (p : ℤ) → n ≤ℤ (p *ℤ d) → q ≤ℤ p

-- n / d, rounded up, for d above 0: a negative n goes towards 0
abbrev pub ceiling : ℤ → ℤ → ℤ
ceiling (pos n) d = pos (div_ceil n (unsigned_abs d))
ceiling (negsuc n) d = neg_ℤ (pos (suc n / unsigned_abs d))
