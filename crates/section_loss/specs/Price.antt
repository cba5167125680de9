-- What a section costs, cents.
--   is_stepped           the section's size isn't its neighbour's, and it doesn't stand at the fan
--   price_of             the metres, the join, and the step where there is one
use Rattle.std.specs.Prelude.{ℕ, ◌+◌, ◌*◌, ◌==◌, Bool, false, not, Option, None, Some, pos, if◌then◌else◌}
use Rattle.std.specs.Int.{div_ceil}
use Rattle.duct_units.specs.Ceiling.{IsCeiling}
use Rattle.friction_table.specs.declared.limits.TheConstants.{MILLIMETRES_PER_METRE}
use Rattle.size_catalogue.specs.declared.row.Size.{Size}

-- the section doesn't stand at the fan, and its neighbour has another size of the catalogue
abbrev pub is_stepped : ℕ → Option ℕ → Bool
is_stepped number None = false
is_stepped number (Some beside) = not (number == beside)

-- the price of the length in mm at the price of a metre, rounded up to whole cents
abbrev pub metres_price_of : ℕ → ℕ → ℕ
metres_price_of length metre = div_ceil (length * metre) MILLIMETRES_PER_METRE

-- the least whole number of cents that is enough for the metres
abbrev pub IsMetresPrice : ℕ → ℕ → ℕ → Type 0
IsMetresPrice length metre cents = IsCeiling (pos (length * metre)) (pos MILLIMETRES_PER_METRE) (pos cents)

-- the price of the metres and the join, and of the step where there is one
abbrev pub price_of : ℕ → Size → Bool → ℕ
price_of length size stepped =
    metres_price_of length size.metre + size.join + (if stepped then size.step else 0)
