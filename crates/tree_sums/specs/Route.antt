-- A tree of sections towards the fan. What stands next to a section is another section, or the fan on one of its sides.
use Rattle.std.specs.Prelude.{◌≡◌, ℕ, zero, suc, ◌<◌, Bool, false, ◌||◌, ◌==◌, List, [], ◌∷◌}
use Rattle.duct_units.specs.declared.side.Side.{Side}
use Rattle.duct_units.specs.Side.{same_side}

-- a side of the fan, or a section
pub data Place : Type 0 where
  Fan : Side → Place
  At : ℕ → Place

-- the places are one
abbrev pub same : Place → Place → Bool
same (Fan x) (Fan y) = same_side x y
same (At s) (At t) = s == t
same (Fan x) (At t) = false
same (At s) (Fan y) = false

-- a section next to another has the smaller number
abbrev pub Falls : (ℕ → Place) → Type 0
Falls next = (t p : ℕ) → next t ≡ At p → p < t

-- the route from a place on: the fan alone, or the route of a section
abbrev pub onward : (ℕ → List Place) → Place → List Place
onward from (Fan x) = Fan x ∷ []
onward from (At p) = from p

-- the first places of the route, at most k + 1 steps on
abbrev pub route_within : (ℕ → Place) → ℕ → ℕ → List Place
route_within next zero t = At t ∷ next t ∷ []
route_within next (suc k) t = At t ∷ onward (route_within next k) (next t)

-- the section, what stands next to it, and so on up to the fan
unfoldable pub route : (ℕ → Place) → ℕ → List Place
route next t = route_within next t t

-- the place is in the list
abbrev pub among : Place → List Place → Bool
among o [] = false
among o (x ∷ xs) = same o x || among o xs

-- the route of t goes by the place o
abbrev pub goes_by : (ℕ → Place) → Place → ℕ → Bool
goes_by next o t = among o (route next t)
