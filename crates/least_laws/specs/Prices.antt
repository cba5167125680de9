-- Prices that may not be there: the least of many, the sum of all.
use Rattle.std.specs.Prelude.{ℕ, zero, suc, ◌-◌, List, [], ◌∷◌, Option, Some, None, nat_le, if◌then◌else◌}
use Rattle.duct_units.specs.Prices.{lesser, both_of}
use Rattle.duct_definitions.specs.declared.design.Pair.{Pair}

-- the least price of the numbers below n
abbrev pub least_below : (ℕ → Option ℕ) → ℕ → Option ℕ
least_below price zero = None
least_below price (suc n) = lesser (least_below price n) (price n)

-- the sum of the prices in a list, where all are there
abbrev pub sum_of : (ℕ → Option ℕ) → List ℕ → Option ℕ
sum_of price [] = Some 0
sum_of price (x ∷ xs) = both_of (price x) (sum_of price xs)

-- the price of the pair and the price of the rest, within what the pair's loss leaves of the budget
abbrev pub with_pair : Option Pair → ℕ → (ℕ → Option ℕ) → Option ℕ
with_pair None budget rest = None
with_pair (Some pair) budget rest =
    if nat_le pair.loss budget then both_of (Some pair.price) (rest (budget - pair.loss)) else None
