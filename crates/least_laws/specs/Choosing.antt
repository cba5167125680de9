-- What leads from leasts to the best design: a fan, or a fan and a return fan, with a supply budget that cost the
-- least; and the sizes that are taken from the fan outwards.
use Rattle.std.specs.Prelude.{◌≡◌, ◌≢◌, ℕ, ◌-◌, ◌<◌, ◌≤◌, length, slice_index, Option, Some, None, IsSome, IfSome}
use Rattle.duct_units.specs.declared.side.Side.{Side}
use Rattle.duct_units.specs.declared.side.Side.TheVariants.{Supply, Return}
use Rattle.duct_definitions.specs.declared.design.Design.{Design}
use Rattle.duct_definitions.specs.Tree.{section_count, neighbour, side, roots}
use Rattle.duct_definitions.specs.Network.{Network, size_count, fan_at, return_fan_at}
use Rattle.duct_definitions.specs.Designs.{size_beside, pair_of, loss_of, fans_cost}
use Rattle.duct_definitions.specs.Order.{turn_of}
use Rattle.duct_units.specs.Prices.{both_of}
use Rattle.least_laws.specs.Prices.{sum_of}
use Rattle.least_laws.specs.LeastFromChildren.{least_in, least_with}

-- the least price of a side within a budget: the sum of the leasts of its roots, 0 without sections
abbrev pub side_least : Network → Side → ℕ → Option ℕ
side_least net x budget = sum_of (λ r. least_in net r 0 budget) (roots net.tree x)

-- the return side's budget: what the supply budget leaves of the fan's pressure, or its own fan's pressure
abbrev pub return_budget : Network → ℕ → Option ℕ → ℕ → ℕ
return_budget net fan None budget = (fan_at net fan).pressure - budget
return_budget net fan (Some i) budget = (return_fan_at net i).pressure

-- the budget of each side, with the fan, the return side's own fan where it has one, and the supply budget
abbrev pub budget_of : Network → ℕ → Option ℕ → ℕ → Side → ℕ
budget_of net fan own budget Supply = budget
budget_of net fan own budget Return = return_budget net fan own budget

-- the cost with the fans and the supply budget, where supply and back give the price of each side within a budget
abbrev pub cost_at : Network → (ℕ → Option ℕ) → (ℕ → Option ℕ) → ℕ → Option ℕ → ℕ → Option ℕ
cost_at net supply back fan own budget =
    both_of (Some (fans_cost net fan own)) (both_of (supply budget) (back (return_budget net fan own budget)))

-- fans of the network, and a supply budget within the fan's pressure
pub record IsOffered (net : Network) (fan : ℕ) (own : Option ℕ) (budget : ℕ) : Type 0 where
  pub in_range : fan < length net.fans
  pub back : IfSome own (λ i. i < length net.return_fans)
  pub within : budget ≤ (fan_at net fan).pressure

-- the fans and the supply budget have the least cost; no earlier fan has it, with this fan no earlier turn of a return
-- fan, and with both no less supply budget
pub record IsChosen (net : Network) (supply back : ℕ → Option ℕ) (fan : ℕ) (own : Option ℕ) (budget cost : ℕ)
    : Type 0 where
  pub offered : IsOffered net fan own budget
  pub reached : cost_at net supply back fan own budget ≡ Some cost
  pub least : (i : ℕ) (o : Option ℕ) (b c : ℕ) → IsOffered net i o b → cost_at net supply back i o b ≡ Some c → cost ≤ c
  pub first_fan : (i : ℕ) (o : Option ℕ) (b : ℕ) → i < fan → IsOffered net i o b
      → cost_at net supply back i o b ≢ Some cost
  pub first_back : (o : Option ℕ) (b : ℕ) → turn_of o < turn_of own → IsOffered net fan o b
      → cost_at net supply back fan o b ≢ Some cost
  pub least_budget : (b : ℕ) → b < budget → cost_at net supply back fan own b ≢ Some cost

-- size k of section s has the least price, beside size g of the neighbour and within the budget
pub record Attains (net : Network) (s g budget k : ℕ) : Type 0 where
  pub in_range : k < size_count net s
  pub there : IsSome (least_in net s g budget)
  pub equal : least_with net (least_in net) s g budget k ≡ least_in net s g budget

-- the whole budget at the fan, and elsewhere what the loss of the neighbour leaves of what is left there
abbrev pub left_beside : Network → Design → (ℕ → ℕ) → ℕ → Option ℕ → ℕ
left_beside net d left budget None = budget
left_beside net d left budget (Some n) = left n - loss_of (pair_of net d n)

-- each section of the design has the first size with the least price, within what is left of its side's budget
pub record IsDescent (net : Network) (budget : Side → ℕ) (left : ℕ → ℕ) (d : Design) : Type 0 where
  pub sizes : length d.sizes ≡ section_count net.tree
  pub remaining : (s : ℕ) → s < section_count net.tree
      → left s ≡ left_beside net d left (budget (side net.tree s)) (neighbour net.tree s)
  pub attains : (s : ℕ) → s < section_count net.tree
      → Attains net s (size_beside d (neighbour net.tree s)) (left s) (slice_index d.sizes s)
  pub first : (s k : ℕ) → s < section_count net.tree → k < slice_index d.sizes s
      → Attains net s (size_beside d (neighbour net.tree s)) (left s) k → ⊥
