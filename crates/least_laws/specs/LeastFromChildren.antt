-- The least price of a section, computed from the leasts of its children.
use Rattle.std.specs.Prelude.{◌≡◌, ℕ, zero, suc, ◌<◌, ◌≤◌, Option, Some, None}
use Rattle.duct_definitions.specs.Tree.{section_count, neighbour, children}
use Rattle.duct_definitions.specs.Network.{Network, size_count, columns, pair_at, cap}
use Rattle.least_laws.specs.Least.{IsLeast}
use Rattle.least_laws.specs.Prices.{least_below, sum_of, with_pair}

-- of section s in size k and of all beyond it, where leasts c k gives the least of child c beside size k
abbrev pub least_with : Network → (ℕ → ℕ → ℕ → Option ℕ) → ℕ → ℕ → ℕ → ℕ → Option ℕ
least_with net leasts s g budget k =
    with_pair (pair_at net s k g) budget (λ rest. sum_of (λ c. leasts c k rest) (children net.tree s))

-- the least over the sizes of section s
abbrev pub least_from : Network → (ℕ → ℕ → ℕ → Option ℕ) → ℕ → ℕ → ℕ → Option ℕ
least_from net leasts s g budget = least_below (least_with net leasts s g budget) (size_count net s)

-- the recursion, so many sections deep
abbrev pub least_within : ℕ → Network → ℕ → ℕ → ℕ → Option ℕ
least_within zero net s g budget = None
least_within (suc n) net s g budget = least_from net (least_within n net) s g budget

-- the least price of section s and of all beyond it, beside size g of the neighbour and within the budget
unfoldable pub least_in : Network → ℕ → ℕ → ℕ → Option ℕ
least_in net s g budget = least_within (section_count net.tree) net s g budget

-- what leasts gives for the children of section s are their leasts
abbrev pub AreLeasts : Network → ℕ → (ℕ → ℕ → ℕ → Option ℕ) → Type 0
AreLeasts net s leasts =
    (c k rest : ℕ) → c < section_count net.tree → neighbour net.tree c ≡ Some s → k < size_count net s
    → IsLeast net c k rest (leasts c k rest)

-- cheapest g b gives the least of section s beside each size g of the neighbour, within each budget b up to the
-- greatest fan pressure
abbrev pub IsExact : Network → ℕ → (ℕ → ℕ → Option ℕ) → Type 0
IsExact net s cheapest =
    (g budget : ℕ) → g < columns net s → budget ≤ cap net → IsLeast net s g budget (cheapest g budget)
