-- What the best choice says of the two sides' budgets.
use Rattle.std.proofs.Common.{◌≡◌, ℕ, ◌≤◌, refl, arith, ap, sym, subst, Option, Some, None}
use Rattle.std.specs.Prelude.{IsSome, is_some}
use Rattle.duct_units.specs.declared.side.Side.{Side}
use Rattle.duct_units.specs.declared.side.Side.TheVariants.{Supply, Return}
use Rattle.duct_units.specs.Prices.{both_of}
use Rattle.duct_definitions.specs.Network.{Network, cap}
use Rattle.duct_definitions.specs.Designs.{fans_cost}
use Rattle.least_laws.specs.Choosing.{side_least, return_budget, budget_of}
use Rattle.least_laws.proofs.ChosenAgrees.{pressure-le-cap, return_budget-le-cap}
use Rattle.fan_choice.specs.declared.choice.Choice.{Choice}
use Rattle.expand_sizes.specs.BestChoice.{IsBestChoice, budget_on}

both_of-there : (x y : Option ℕ) → IsSome (both_of x y) → IsSome x × IsSome y
both_of-there None y some = absurd (cc some)
both_of-there (Some x) None some = absurd (cc some)
both_of-there (Some x) (Some y) some = (refl, refl)

-- both sides have a price within their budgets, which are within the greatest fan pressure
module _ {net : Network} {choice : Choice} (best : IsBestChoice net choice) where
  both-there : IsSome (side_least net Supply choice.supply_budget)
      × IsSome (side_least net Return (return_budget net choice.fan choice.back choice.supply_budget))
  both-there =
      let all = both_of-there (Some (fans_cost net choice.fan choice.back)) _ (ap is_some best.chosen.reached) in
      both_of-there _ _ all.1

  pub side-there : (x : Side) → IsSome (side_least net x (budget_on choice x))
  side-there Supply = both-there.0
  side-there Return = subst (λ b. IsSome (side_least net Return b)) (sym best.return_budget) both-there.1

  pub side-budget : (x : Side) → budget_on choice x ≡ budget_of net choice.fan choice.back choice.supply_budget x
  side-budget Supply = refl
  side-budget Return = best.return_budget

  pub side-within : (x : Side) → budget_on choice x ≤ cap net
  side-within Supply =
      let most = pressure-le-cap net choice.fan best.chosen.offered.in_range in
      let within = best.chosen.offered.within in
      omega arith
  side-within Return =
      let offered = best.chosen.offered in
      let most = return_budget-le-cap net choice.fan choice.back choice.supply_budget offered.in_range offered.back in
      let is = best.return_budget in
      omega arith
