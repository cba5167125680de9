-- Numbers that may not be there, as the least prices of what has no choice: the lesser of two, and the sum.
use Rattle.std.specs.Prelude.{ℕ, ◌+◌, min, Option, Some, None}

-- the lesser of the two, or the one that is there
abbrev pub lesser : Option ℕ → Option ℕ → Option ℕ
lesser None y = y
lesser (Some x) None = Some x
lesser (Some x) (Some y) = Some (min x y)

-- the sum of the two, where both are there
abbrev pub both_of : Option ℕ → Option ℕ → Option ℕ
both_of None y = None
both_of (Some x) None = None
both_of (Some x) (Some y) = Some (x + y)
