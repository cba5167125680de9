-- The least price within a budget: what a section and all beyond it cost at least, where no path from a leaf to the
-- section loses more than the budget.
use Rattle.std.specs.Prelude.{◌≡◌, ℕ, ◌<◌, ◌≤◌, List, filter, sum_by, Option, Some, None, IsSome, All}
use Rattle.duct_definitions.specs.declared.design.Pair.{Pair}
use Rattle.duct_definitions.specs.Tree.{Tree, sections, neighbour, at_neighbour, way, passes}
use Rattle.duct_definitions.specs.Network.{Network, size_count, pair_at}
use Rattle.duct_definitions.specs.Designs.{loss_of, price_of}
use Rattle.duct_definitions.specs.Dampers.{leaves_beyond}

-- the section and all beyond it
abbrev pub sections_beyond : Tree → ℕ → List ℕ
sections_beyond t s = filter (passes t s) (sections t)

-- the sections from a leaf to the section, both among them
abbrev pub way_to : Tree → ℕ → ℕ → List ℕ
way_to t s leaf = filter (passes t s) (way t leaf)

-- the pair of a section in these sizes, or none
abbrev pub pair_in : Network → (ℕ → ℕ) → ℕ → Option Pair
pair_in net sizes s = pair_at net s (sizes s) (at_neighbour sizes (neighbour net.tree s))

-- the losses of the sections from a leaf to the section
abbrev pub loss_to : Network → (ℕ → ℕ) → ℕ → ℕ → ℕ
loss_to net sizes s leaf = sum_by (λ t. loss_of (pair_in net sizes t)) (way_to net.tree s leaf)

-- the prices of the section and of all beyond it
abbrev pub price_beyond : Network → (ℕ → ℕ) → ℕ → ℕ
price_beyond net sizes s = sum_by (λ t. price_of (pair_in net sizes t)) (sections_beyond net.tree s)

-- sizes of the section and of all beyond it, beside size g of the neighbour: every size is in range, every pair is
-- there, and no path from a leaf to the section loses more than the budget
pub record IsChoice (net : Network) (s g budget : ℕ) (sizes : ℕ → ℕ) : Type 0 where
  pub beside : at_neighbour sizes (neighbour net.tree s) ≡ g
  pub each : All (λ t. sizes t < size_count net t) (sections_beyond net.tree s)
  pub pairs : All (λ t. IsSome (pair_in net sizes t)) (sections_beyond net.tree s)
  pub losses : All (λ leaf. loss_to net sizes s leaf ≤ budget) (leaves_beyond net.tree s)

-- some choice has the price, and none has a lower one
pub record IsLeastPrice (net : Network) (s g budget price : ℕ) : Type 0 where
  pub reached : (sizes : ℕ → ℕ) × (IsChoice net s g budget sizes × (price_beyond net sizes s ≡ price))
  pub least : (sizes : ℕ → ℕ) → IsChoice net s g budget sizes → price ≤ price_beyond net sizes s

-- the least price of the choices; none where there is no choice
abbrev pub IsLeast : Network → ℕ → ℕ → ℕ → Option ℕ → Type 0
IsLeast net s g budget None = (sizes : ℕ → ℕ) → IsChoice net s g budget sizes → ⊥
IsLeast net s g budget (Some price) = IsLeastPrice net s g budget price
