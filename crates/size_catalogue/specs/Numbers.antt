-- The numbers of the sizes of each list, as they are held.
use Rattle.std.specs.Prelude.{◌≡◌, ℕ, ◌+◌, ◌==◌, nat_lt, Bool, List, [], ◌∷◌, ◌++◌, length, slice_get, Vec, if◌then◌else◌}
use Rattle.std.specs.Global.{Global}
use Rattle.std.specs.Option.{option_map_or}
use Rattle.size_catalogue.specs.declared.limits.TheConstants.{MAX_LIST_SIZES}

-- the numbers of list j, of which there are none past the last list
abbrev pub numbers_at : List (Vec ℕ Global) → ℕ → List ℕ
numbers_at lists j = option_map_or (λ numbers. numbers.items) (slice_get lists j) []

-- a list may have one number more
abbrev pub has_room : List ℕ → Bool
has_room numbers = nat_lt (length numbers) MAX_LIST_SIZES

-- so many lists, and one more where it is the next one
abbrev pub widened : ℕ → ℕ → ℕ
widened lists list = if list == lists then lists + 1 else lists

-- the numbers, and behind them one more where it was added
abbrev pub with_number : Bool → List ℕ → ℕ → List ℕ
with_number added numbers n = if added then numbers ++ n ∷ [] else numbers

-- no list has other numbers
abbrev pub SameNumbers : List (Vec ℕ Global) → List (Vec ℕ Global) → Type 0
SameNumbers old new = (j : ℕ) → numbers_at new j ≡ numbers_at old j

-- the list has one number more where it was added, and the others have theirs
abbrev pub AddsNumber : List (Vec ℕ Global) → List (Vec ℕ Global) → ℕ → ℕ → Bool → Type 0
AddsNumber old new list number added =
    (j : ℕ) → numbers_at new j ≡ (if added then with_number (list == j) (numbers_at old j) number else numbers_at old j)
