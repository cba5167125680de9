-- The first cheapest of the fans' best choices is the choice of the network.
use Rattle.std.proofs.Common.{◌≡◌, ℕ, ◌<◌, ◌≤◌, List, length, Option, Some, None, refl, sym, ◌∙◌, subst, arith}
use Rattle.std.proofs.lemmas.Option.{none-some}
use Rattle.duct_definitions.specs.Network.{Network, fan_at}
use Rattle.pareto_front.specs.declared.point.Point.{Point}
use Rattle.pareto_front.specs.Front.{IsFront, cheapest}
use Rattle.least_laws.specs.Choosing.{return_budget, cost_at, IsOffered, IsChosen}
use Rattle.fan_choice.specs.declared.choice.Choice.{Choice}
use Rattle.fan_choice.specs.Choice.{IsChoiceOf, NoneIsPriced}
use Rattle.fan_choice.specs.FirstCheapest.{first_cheapest}
use Rattle.fan_choice.specs.OwnFans.{best_return, best_of}
use Rattle.fan_choice.proofs.BesideFan.{beside_answers}
use Rattle.fan_choice.proofs.FirstCheapest.{first_cheapest-some, first_cheapest-none}
use Rattle.fan_choice.proofs.OneFan.{Answers, Either, better}
use Rattle.fan_choice.proofs.SharedFan.{share_answers}
use Rattle.fan_choice.proofs.Shares.{price}

-- the best choice of each fan
abbrev pub bests : Network → List Point → List Point → ℕ → Option Choice
bests net supply back i = best_of i (fan_at net i) supply back (best_return net back)

module _ (net : Network) (supply back : List Point) (supply_front : IsFront supply) (back_front : IsFront back) where
  abbrev cost : ℕ → Option ℕ → ℕ → Option ℕ
  cost = cost_at net (cheapest supply) (cheapest back)

  answers : (i : ℕ) → i < length net.fans → (o : Option Choice) → bests net supply back i ≡ o
      → Answers Either net supply back i o
  answers i inside o is =
      subst (Answers Either net supply back i) is
      (better net supply back i _ _ (share_answers net supply back i inside supply_front back_front)
      (beside_answers net supply back i inside supply_front))

  -- a fan that has a cost has a best choice, which costs no more
  record HasBest (i c : ℕ) : Type 0 where
    pub choice : Choice
    pub is : bests net supply back i ≡ Some choice
    pub cheap : choice.cost ≤ c

  has_best : (i : ℕ) (o : Option ℕ) (b c : ℕ) → IsOffered net i o b → cost i o b ≡ Some c → HasBest i c
  has_best i o b c offered at = go (bests net supply back i) refl where
    go : (best : Option Choice) → bests net supply back i ≡ best → HasBest i c
    go None none = absurd (answers i offered.in_range None none o b c tt offered at)
    go (Some choice) is = record {
      choice = choice;
      is = is;
      cheap = (answers i offered.in_range (Some choice) is).least o b c tt offered at;
    }

  pub is_choice : (choice : Choice) → first_cheapest price (bests net supply back) (length net.fans) ≡ Some choice
      → IsChoiceOf net supply back choice
  is_choice choice is =
      let first = first_cheapest-some price (bests net supply back) (length net.fans) choice is in
      let with_fan = answers first.at first.below (Some choice) first.is in
      let here : IsChosen net (cheapest supply) (cheapest back) first.at choice.back choice.supply_budget
      choice.cost = record {
        offered = with_fan.offered;
        reached = with_fan.reached;
        least = λ i o b c offered at.
            (let other = has_best i o b c offered at in
            let low = first.least i offered.in_range other.choice other.is in
            let cheap = other.cheap in
            omega arith);
        first_fan = λ i o b earlier offered at.
            (let other = has_best i o b choice.cost offered at in
            let more = first.first i earlier other.choice other.is in
            let cheap = other.cheap in
            omega arith);
        first_back = λ o b earlier offered. with_fan.first_back o b tt earlier offered;
        least_budget = with_fan.least_budget;
      } in
      record {
        chosen = subst (λ i. IsChosen net (cheapest supply) (cheapest back) i choice.back choice.supply_budget
            choice.cost) (sym with_fan.fan) here;
        return_budget = subst (λ i. choice.return_budget ≡ return_budget net i choice.back choice.supply_budget)
            (sym with_fan.fan) with_fan.return_budget;
      }

  pub none_priced : first_cheapest price (bests net supply back) (length net.fans) ≡ None
      → NoneIsPriced net supply back
  none_priced none i o b offered = go (cost i o b) refl where
    go : (c : Option ℕ) → cost i o b ≡ c → c ≡ None
    go None is = refl
    go (Some c) at =
        let other = has_best i o b c offered at in
        absurd (none-some other.choice
        (sym (first_cheapest-none price (bests net supply back) (length net.fans) none i offered.in_range) ∙
        other.is))
