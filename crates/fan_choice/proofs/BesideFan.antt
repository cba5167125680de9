-- The fan beside the first cheapest return fan, with the last supply point within its pressure, is the best of all ways
-- to let it stand beside a return fan.
use Rattle.std.proofs.Common.{◌≡◌, ◌≢◌, ℕ, ◌+◌, ◌<◌, ◌≤◌, List, length, Option, Some, None, refl, ap, sym, ◌∙◌, subst, arith}
use Rattle.std.specs.Prelude.{IsSomeAnd}
use Rattle.std.specs.Option.{option_map}
use Rattle.std.proofs.lemmas.Option.{none-some, same_Some}
use Rattle.duct_definitions.specs.Network.{Network, fan_at, return_fan_at}
use Rattle.duct_definitions.specs.Order.{turn_of}
use Rattle.pareto_front.specs.declared.point.Point.{Point}
use Rattle.pareto_front.specs.Front.{IsFront, cheapest}
use Rattle.pareto_front.specs.Sweep.{cost_of}
use Rattle.pareto_front.proofs.Points.{cheapest-rise}
use Rattle.least_laws.specs.Choosing.{cost_at, IsOffered}
use Rattle.fan_choice.specs.declared.choice.Choice.{Choice}
use Rattle.fan_choice.specs.declared.own_fans.ReturnOffer.{ReturnOffer}
use Rattle.fan_choice.specs.OwnFans.{last_within, return_offers, best_return, beside, best_beside}
use Rattle.fan_choice.proofs.FirstCheapest.{IsFirstCheapest, first_cheapest-some, first_cheapest-none}
use Rattle.fan_choice.proofs.LastWithin.{cheapest-is, IsLast, last_within-some, priced}
use Rattle.fan_choice.proofs.OneFan.{IsBestWith, Answers, NoneWith, Beside}
use Rattle.fan_choice.proofs.Paid.{paid, pays}

abbrev pub price : ReturnOffer → ℕ
price offer = offer.cost

module _ (net : Network) (back : List Point) where
  abbrev offer_with : ℕ → ℕ → ReturnOffer
  offer_with j cost = record {
    number = j;
    pressure = (return_fan_at net j).pressure;
    cost = (return_fan_at net j).cost + cost;
  }

  -- what a return fan offers: its number, and what its pressure buys
  record IsReturnOffer (j : ℕ) (own : ReturnOffer) : Type 0 where
    pub rest : ℕ
    pub bought : cheapest back (return_fan_at net j).pressure ≡ Some rest
    pub is : offer_with j rest ≡ own

  offers-are : (j : ℕ) → return_offers net back j ≡ option_map (offer_with j)
      (cheapest back (return_fan_at net j).pressure)
  offers-are j =
      at_point (last_within back (return_fan_at net j).pressure)
      ∙ ap (option_map (offer_with j)) (sym (cheapest-is back (return_fan_at net j).pressure)) where
        at_point : (o : Option Point) → option_map (λ point. offer_with j point.cost) o ≡ option_map (offer_with j)
            (cost_of o)
        at_point None = refl
        at_point (Some point) = refl

  return_offer-some : (j : ℕ) (own : ReturnOffer) → return_offers net back j ≡ Some own → IsReturnOffer j own
  return_offer-some j own is = go (cheapest back (return_fan_at net j).pressure) refl (sym (offers-are j) ∙ is) where
    go : (o : Option ℕ) → cheapest back (return_fan_at net j).pressure ≡ o → option_map (offer_with j) o ≡ Some own
        → IsReturnOffer j own
    go None none here = absurd (none-some own here)
    go (Some rest) bought here = record { rest = rest; bought = bought; is = same_Some (offer_with j rest) own here }

  return_offer-there : (j rest : ℕ) → cheapest back (return_fan_at net j).pressure ≡ Some rest
      → return_offers net back j ≡ Some (offer_with j rest)
  return_offer-there j rest bought = offers-are j ∙ ap (option_map (offer_with j)) bought

module _ (net : Network) (supply back : List Point) (i : ℕ) (inside : i < length net.fans)
    (supply_front : IsFront supply) where
  abbrev pressure : ℕ
  pressure = (fan_at net i).pressure

  abbrev cost : Option ℕ → ℕ → Option ℕ
  cost o b = cost_at net (cheapest supply) (cheapest back) i o b

  -- the whole pressure costs the supply side no more than a budget within it
  whole_costs : (b x : ℕ) → b ≤ pressure → cheapest supply b ≡ Some x
      → IsSomeAnd (cheapest supply pressure) (λ y. y ≤ x)
  whole_costs b x within is = cheapest-rise supply b pressure supply_front within x is

  none_supplied : cheapest supply pressure ≡ None → NoneWith Beside net supply back i
  none_supplied none o b c own offered at =
      let all = paid net supply back i o b c at in
      subst (λ p. IsSomeAnd p (λ y. y ≤ all.of_supply)) none
      (whole_costs b all.of_supply offered.within all.supply_is)

  none_returned : ((j : ℕ) → j < length net.return_fans → return_offers net back j ≡ None)
      → NoneWith Beside net supply back i
  none_returned none None b c own offered at = own
  none_returned none (Some j) b c own offered at =
      let all = paid net supply back i (Some j) b c at in
      none-some (offer_with net back j all.of_back)
      (sym (none j offered.back) ∙ return_offer-there net back j all.of_back all.back_is)

  module _ (own : ReturnOffer) (point : Point)
      (first : IsFirstCheapest price (return_offers net back) (length net.return_fans) own)
      (last : IsLast supply pressure point) (is_last : cheapest supply pressure ≡ Some point.cost) where
    abbrev choice : Choice
    choice = beside i (fan_at net i) own point

    -- a return fan that is offered costs at least the point and the best one
    costs_more : (j b c : ℕ) → IsOffered net i (Some j) b → cost (Some j) b ≡ Some c
        → ((y : ReturnOffer) → return_offers net back j ≡ Some y
        → own.cost ≤ y.cost × ((fan_at net i).cost + (point.cost + y.cost) ≤ c))
    costs_more j b c offered at y is =
        let all = paid net supply back i (Some j) b c at in
        let there = same_Some _ y (sym (return_offer-there net back j all.of_back all.back_is) ∙ is) in
        let same = ap price there in
        let low = first.least j offered.back y is in
        let whole : point.cost ≤ all.of_supply =
        subst (λ o. IsSomeAnd o (λ z. z ≤ all.of_supply)) is_last
        (whole_costs b all.of_supply offered.within all.supply_is) in
        let sum = all.is in
        (low, omega arith)

    offered_at : (j b c : ℕ) → cost (Some j) b ≡ Some c → (y : ReturnOffer) × (return_offers net back j ≡ Some y)
    offered_at j b c at =
        let all = paid net supply back i (Some j) b c at in
        (offer_with net back j all.of_back, return_offer-there net back j all.of_back all.back_is)

    least : (o : Option ℕ) (b c : ℕ) → Beside o → IsOffered net i o b → cost o b ≡ Some c → choice.cost ≤ c
    least None b c beside_it offered at = absurd beside_it
    least (Some j) b c beside_it offered at =
        let (y, is) = offered_at j b c at in
        let (low, sum) = costs_more j b c offered at y is in
        omega arith

    first_back : (o : Option ℕ) (b : ℕ) → Beside o → turn_of o < turn_of (Some first.at) → IsOffered net i o b
        → cost o b ≢ Some choice.cost
    first_back None b beside_it earlier offered at = beside_it
    first_back (Some j) b beside_it earlier offered at =
        let (y, is) = offered_at j b choice.cost at in
        let (low, sum) = costs_more j b choice.cost offered at y is in
        let more = first.first j (omega arith) y is in
        omega arith

    pub best_is : IsBestWith Beside net supply back i choice
    best_is =
        let of_own = return_offer-some net back first.at own first.is in
        let at_number : first.at ≡ own.number = ap (λ (o : ReturnOffer). o.number) of_own.is in
        let at_pressure : (return_fan_at net first.at).pressure ≡ own.pressure = ap
        (λ (o : ReturnOffer). o.pressure) of_own.is in
        let at_cost : (return_fan_at net first.at).cost + of_own.rest ≡ own.cost = ap price of_own.is in
        let is_priced = priced supply last.place point supply_front last.there in
        let sum : (fan_at net i).cost + (return_fan_at net first.at).cost + (point.cost + of_own.rest) ≡
        choice.cost = omega arith in
        let with_number : IsBestWith Beside net supply back i (record choice { back = Some first.at }) = record {
          fan = refl;
          own = tt;
          return_budget = sym at_pressure;
          offered = record { in_range = inside; back = first.below; within = last.within };
          reached = pays net supply back i (Some first.at) point.need point.cost of_own.rest is_priced.at_need
              of_own.bought
              ∙ ap Some sum;
          least = least;
          first_back = first_back;
          least_budget = λ b below at.
              (let all = paid net supply back i (Some first.at) b choice.cost at in
              let more = is_priced.before b below all.of_supply all.supply_is in
              let same_rest = same_Some of_own.rest all.of_back (sym of_own.bought ∙ all.back_is) in
              let whole = all.is in
              omega arith);
        } in
        subst (λ n. IsBestWith Beside net supply back i (record choice { back = Some n })) at_number with_number

  pub beside_answers : Answers Beside net supply back i (best_beside i (fan_at net i) supply (best_return net back))
  beside_answers = go (best_return net back) refl where
    at_last : (own : ReturnOffer) → IsFirstCheapest price (return_offers net back) (length net.return_fans) own
        → (o : Option Point) → last_within supply pressure ≡ o
        → Answers Beside net supply back i (option_map (beside i (fan_at net i) own) o)
    at_last own first None none = none_supplied (cheapest-is supply pressure ∙ ap cost_of none)
    at_last own first (Some point) is =
        best_is own point first (last_within-some supply pressure point is)
        (cheapest-is supply pressure ∙ ap cost_of is)

    go : (o : Option ReturnOffer) → best_return net back ≡ o
        → Answers Beside net supply back i (best_beside i (fan_at net i) supply o)
    go None none = none_returned (first_cheapest-none price (return_offers net back) (length net.return_fans) none)
    go (Some own) is =
        at_last own (first_cheapest-some price (return_offers net back) (length net.return_fans) own is)
        (last_within supply pressure) refl
