-- The choice of a fan, or of a fan and a return fan, for the fronts of the supply and of the return side.
use Rattle.std.specs.Prelude.{◌≡◌, ℕ, ◌+◌, ◌<◌, ◌≤◌, List, length, Option, None, Contains}
use Rattle.duct_definitions.specs.Network.{Network, fan_at, return_fan_at}
use Rattle.pareto_front.specs.declared.point.Point.{Point}
use Rattle.pareto_front.specs.Front.{cheapest}
use Rattle.least_laws.specs.Choosing.{return_budget, cost_at, IsOffered, IsChosen}
use Rattle.fan_choice.specs.declared.choice.Choice.{Choice}

-- the choice's fans and supply budget are the chosen ones of that cost, and the return budget is theirs
pub record IsChoiceOf (net : Network) (supply back : List Point) (choice : Choice) : Type 0 where
  pub chosen : IsChosen net (cheapest supply) (cheapest back) choice.fan choice.back choice.supply_budget choice.cost
  pub return_budget : choice.return_budget ≡ return_budget net choice.fan choice.back choice.supply_budget

-- no fan's pressure covers the needs of a supply point and a return point together
abbrev pub NoFanCoversBoth : Network → List Point → List Point → Type 0
NoFanCoversBoth net supply back =
    (i : ℕ) (p q : Point) → i < length net.fans → Contains supply p → Contains back q
    → p.need + q.need ≤ (fan_at net i).pressure → ⊥

-- no fan that covers a supply point stands together with a return fan that covers a return point
abbrev pub NoTwoFansCover : Network → List Point → List Point → Type 0
NoTwoFansCover net supply back =
    (i j : ℕ) (p q : Point) → i < length net.fans → j < length net.return_fans → Contains supply p → Contains back q
    → p.need ≤ (fan_at net i).pressure → q.need ≤ (return_fan_at net j).pressure → ⊥

-- neither one fan nor a fan on each side covers a supply point and a return point
pub record NoFanCovers (net : Network) (supply back : List Point) : Type 0 where
  pub shared : NoFanCoversBoth net supply back
  pub own : NoTwoFansCover net supply back

-- no fans with any supply budget have a cost
abbrev pub NoneIsPriced : Network → List Point → List Point → Type 0
NoneIsPriced net supply back =
    (fan : ℕ) (own : Option ℕ) (budget : ℕ) → IsOffered net fan own budget
    → cost_at net (cheapest supply) (cheapest back) fan own budget ≡ None
