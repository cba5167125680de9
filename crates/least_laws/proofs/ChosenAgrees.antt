-- What is chosen depends on the prices within budgets up to the greatest fan pressure alone.
use Rattle.std.proofs.Common.{◌≡◌, ℕ, zero, suc, ◌<◌, ◌≤◌, max, arith, ap, sym, ◌∙◌, Option, Some, None, List, [], ◌∷◌, map, length}
use Rattle.std.specs.Prelude.{fold, slice_get, unwrap_or, IfSome}
use Rattle.duct_definitions.specs.declared.design.NetFan.{NetFan}
use Rattle.duct_definitions.specs.Network.{Network, fan_at, return_fan_at, no_fan, cap}
use Rattle.duct_definitions.specs.Designs.{fans_cost}
use Rattle.design_laws.proofs.Among.{start-le-max}
use Rattle.duct_units.specs.Prices.{both_of}
use Rattle.least_laws.specs.Choosing.{return_budget, cost_at, IsOffered, IsChosen}

-- each fan's value is at most the greatest
each-le : (f : NetFan → ℕ) (a i : ℕ) (fans : List NetFan) → i < length fans
    → f (unwrap_or (slice_get fans i) no_fan) ≤ fold max a (map f fans)
each-le f a i [] within = absurd (omega arith)
each-le f a zero (x ∷ xs) within = let more = start-le-max f (max a (f x)) xs in omega arith
each-le f a (suc i) (x ∷ xs) within = each-le f (max a (f x)) i xs (omega arith)

pub pressure-le-cap : (net : Network) (i : ℕ) → i < length net.fans → (fan_at net i).pressure ≤ cap net
pressure-le-cap net i within = let most = each-le (λ fan. fan.pressure) 0 i net.fans within in omega arith

pub return_pressure-le-cap : (net : Network) (i : ℕ) → i < length net.return_fans
    → (return_fan_at net i).pressure ≤ cap net
return_pressure-le-cap net i within =
    let most = each-le (λ fan. fan.pressure) 0 i net.return_fans within in omega arith

-- the return side's budget too is within the greatest pressure of all fans
pub return_budget-le-cap : (net : Network) (fan : ℕ) (own : Option ℕ) (budget : ℕ) → fan < length net.fans
    → IfSome own (λ i. i < length net.return_fans) → return_budget net fan own budget ≤ cap net
return_budget-le-cap net fan None budget in_range back = let most = pressure-le-cap net fan in_range in omega arith
return_budget-le-cap net fan (Some i) budget in_range back = return_pressure-le-cap net i back

module _ (net : Network) (supply other back again : ℕ → Option ℕ)
    (one : (b : ℕ) → b ≤ cap net → supply b ≡ other b) (two : (b : ℕ) → b ≤ cap net → back b ≡ again b) where
  pub cost_at-agrees : (i : ℕ) (o : Option ℕ) (b : ℕ) → IsOffered net i o b
      → cost_at net supply back i o b ≡ cost_at net other again i o b
  cost_at-agrees i o b offered =
      let most = pressure-le-cap net i offered.in_range in
      let within = offered.within in
      let rest : ℕ = return_budget net i o b in
      ap (λ price. both_of (Some (fans_cost net i o)) (both_of price (back rest))) (one b (omega arith))
      ∙ ap (λ price. both_of (Some (fans_cost net i o)) (both_of (other b) price))
      (two rest (return_budget-le-cap net i o b offered.in_range offered.back))

  pub chosen_agrees : (fan : ℕ) (own : Option ℕ) (budget price : ℕ) → IsChosen net supply back fan own budget price
      → IsChosen net other again fan own budget price
  chosen_agrees fan own budget price chosen = record {
    offered = chosen.offered;
    reached = sym (cost_at-agrees fan own budget chosen.offered) ∙ chosen.reached;
    least = λ i o b c offered at. chosen.least i o b c offered (cost_at-agrees i o b offered ∙ at);
    first_fan = λ i o b earlier offered at. chosen.first_fan i o b earlier offered (cost_at-agrees i o b offered ∙ at);
    first_back = λ o b earlier offered at. chosen.first_back o b earlier offered (cost_at-agrees fan o b offered ∙ at);
    least_budget = λ b less at.
        let within = chosen.offered.within in
        let offered : IsOffered net fan own b = record {
          in_range = chosen.offered.in_range;
          back = chosen.offered.back;
          within = omega arith;
        } in
        chosen.least_budget b less (cost_at-agrees fan own b offered ∙ at);
  }
