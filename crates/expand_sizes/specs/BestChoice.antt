-- The choice of a fan that the best design has.
use Rattle.std.specs.Prelude.{◌≡◌, ℕ, Option, None}
use Rattle.duct_units.specs.declared.side.Side.{Side}
use Rattle.duct_units.specs.declared.side.Side.TheVariants.{Supply, Return}
use Rattle.duct_definitions.specs.Network.{Network}
use Rattle.least_laws.specs.Choosing.{side_least, return_budget, cost_at, IsOffered, IsChosen}
use Rattle.fan_choice.specs.declared.choice.Choice.{Choice}

-- the choice's fans and supply budget have the least cost, the first of these, and the return budget is theirs
pub record IsBestChoice (net : Network) (choice : Choice) : Type 0 where
  pub chosen : IsChosen net (side_least net Supply) (side_least net Return)
      choice.fan choice.back choice.supply_budget choice.cost
  pub return_budget : choice.return_budget ≡ return_budget net choice.fan choice.back choice.supply_budget

-- no fans with any supply budget have a cost
abbrev pub NoneHasCost : Network → Type 0
NoneHasCost net =
    (fan : ℕ) (own : Option ℕ) (budget : ℕ) → IsOffered net fan own budget
    → cost_at net (side_least net Supply) (side_least net Return) fan own budget ≡ None

-- what a side of the network may lose
abbrev pub budget_on : Choice → Side → ℕ
budget_on choice Supply = choice.supply_budget
budget_on choice Return = choice.return_budget
