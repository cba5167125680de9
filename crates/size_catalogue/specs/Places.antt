-- Names of which no two are equal.
use Rattle.std.specs.Prelude.{◌≡◌, ℕ, List, Some, slice_get}
use Rattle.name_index.specs.Places.{place_of}

-- each name is found at its own place
abbrev pub EachOnce : List (List ℕ) → Type 0
EachOnce names = (i : ℕ) (name : List ℕ) → slice_get names i ≡ Some name → place_of name names ≡ Some i
