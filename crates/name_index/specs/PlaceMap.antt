-- The map from each name of a list to its place.
use Rattle.std.specs.Prelude.{◌≡◌, ℕ, List}
use Rattle.std.specs.HashMap.{HashMap, get}
use Rattle.std.specs.Str.{bytes_eq}
use Rattle.name_index.specs.Places.{place_of}

-- the map has each name at its place, and no other name
abbrev pub IsPlaceMap : {S : Type 0} → List (List ℕ) → HashMap (List ℕ) ℕ S → Type 0
IsPlaceMap names places = (name : List ℕ) → get bytes_eq places name ≡ place_of name names
