-- What a cost with fans and a supply budget is made of.
use Rattle.std.proofs.Common.{◌≡◌, ℕ, ◌+◌, List, Option, Some, None, refl, ap, ◌∙◌}
use Rattle.std.proofs.lemmas.Option.{none-some, same_Some}
use Rattle.duct_units.specs.Prices.{both_of}
use Rattle.duct_definitions.specs.Network.{Network}
use Rattle.duct_definitions.specs.Designs.{fans_cost}
use Rattle.pareto_front.specs.declared.point.Point.{Point}
use Rattle.pareto_front.specs.Front.{cheapest}
use Rattle.least_laws.specs.Choosing.{return_budget, cost_at}

-- both sides have a cost within their budgets, and the fans' is added
pub record IsPaid (net : Network) (supply back : List Point) (fan : ℕ) (own : Option ℕ) (budget cost : ℕ) : Type 0
  where
    pub of_supply : ℕ
    pub of_back : ℕ
    pub supply_is : cheapest supply budget ≡ Some of_supply
    pub back_is : cheapest back (return_budget net fan own budget) ≡ Some of_back
    pub is : fans_cost net fan own + (of_supply + of_back) ≡ cost

module _ (net : Network) (supply back : List Point) (fan : ℕ) (own : Option ℕ) (budget : ℕ) where
  abbrev fans : Option ℕ
  fans = Some (fans_cost net fan own)

  abbrev rest : ℕ
  rest = return_budget net fan own budget

  pub paid : (cost : ℕ) → cost_at net (cheapest supply) (cheapest back) fan own budget ≡ Some cost
      → IsPaid net supply back fan own budget cost
  paid cost is = go (cheapest supply budget) (cheapest back rest) refl refl is where
    go : (x y : Option ℕ) → cheapest supply budget ≡ x → cheapest back rest ≡ y
        → both_of fans (both_of x y) ≡ Some cost → IsPaid net supply back fan own budget cost
    go None y x_is y_is is = absurd (none-some cost is)
    go (Some x) None x_is y_is is = absurd (none-some cost is)
    go (Some x) (Some y) x_is y_is is = record {
      of_supply = x;
      of_back = y;
      supply_is = x_is;
      back_is = y_is;
      is = same_Some _ cost is;
    }

  pub pays : (x y : ℕ) → cheapest supply budget ≡ Some x → cheapest back rest ≡ Some y
      → cost_at net (cheapest supply) (cheapest back) fan own budget ≡ Some (fans_cost net fan own + (x + y))
  pays x y x_is y_is =
      ap (λ o. both_of fans (both_of o (cheapest back rest))) x_is ∙ ap (λ o. both_of fans (both_of (Some x) o)) y_is
