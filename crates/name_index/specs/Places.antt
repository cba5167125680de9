-- Where a name stands among others.
--   place_of name names   the first place, from 0, at which the name stands, or none
--   is_among name names   whether the name stands anywhere
use Rattle.std.specs.Prelude.{ℕ, ◌+◌, List, [], ◌∷◌, Bool, if◌then◌else◌, Option, Some, None, option_map, is_some}
use Rattle.std.specs.Str.{bytes_eq}

-- the first place, from 0, at which the name stands; none where it stands nowhere
abbrev pub place_of : List ℕ → List (List ℕ) → Option ℕ
place_of name [] = None
place_of name (first ∷ names) =
    if bytes_eq first name then Some 0 else option_map (λ place. place + 1) (place_of name names)

-- the name stands somewhere among the names
abbrev pub is_among : List ℕ → List (List ℕ) → Bool
is_among name names = is_some (place_of name names)
