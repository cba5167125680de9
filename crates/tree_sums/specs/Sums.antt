-- Sums along routes, and over all that lies beyond a place.
use Rattle.std.specs.Prelude.{ℕ, zero, suc, ◌+◌, Bool, List, [], ◌∷◌, if◌then◌else◌}
use Rattle.tree_sums.specs.Route.{Place, Fan, At, same, route, goes_by}

-- the fan weighs nothing
abbrev pub weight_at : (ℕ → ℕ) → Place → ℕ
weight_at weight (Fan x) = 0
weight_at weight (At t) = weight t

-- the weights in the list as far as the place o
abbrev pub sum_until : (ℕ → ℕ) → Place → List Place → ℕ
sum_until weight o [] = 0
sum_until weight o (x ∷ xs) = weight_at weight x + (if same o x then 0 else sum_until weight o xs)

-- the weights on the route of t as far as the place o, both among them
abbrev pub along : (ℕ → Place) → (ℕ → ℕ) → Place → ℕ → ℕ
along next weight o t = sum_until weight o (route next t)

-- the sum over the numbers below n
abbrev pub total : (ℕ → ℕ) → ℕ → ℕ
total f zero = 0
total f (suc n) = total f n + f n

-- x where the test holds, else nothing
abbrev pub gated : Bool → ℕ → ℕ
gated test x = if test then x else 0

-- the weights of all sections below n whose route goes by the place o
abbrev pub beyond : (ℕ → Place) → (ℕ → ℕ) → ℕ → Place → ℕ
beyond next weight n o = total (λ t. gated (goes_by next o t) (weight t)) n
