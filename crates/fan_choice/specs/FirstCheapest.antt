-- The cheapest of offers, and the first of equal ones.
--   cheaper price best next        the cheaper of the two, the first of equal ones, or the one that is there
--   first_cheapest price offer n   the cheapest of the offers below n, the first of equal ones
use Rattle.std.specs.Prelude.{ℕ, zero, suc, Option, Some, None, nat_lt, if◌then◌else◌}

-- the cheaper of the two, the first of equal ones, or the one that is there
abbrev pub cheaper : {X : Type 0} → (X → ℕ) → Option X → Option X → Option X
cheaper price None next = next
cheaper price (Some best) None = Some best
cheaper price (Some best) (Some next) = if nat_lt (price next) (price best) then Some next else Some best

-- the cheapest of the offers below n, the first of equal ones
abbrev pub first_cheapest : {X : Type 0} → (X → ℕ) → (ℕ → Option X) → ℕ → Option X
first_cheapest price offer zero = None
first_cheapest price offer (suc n) = cheaper price (first_cheapest price offer n) (offer n)
