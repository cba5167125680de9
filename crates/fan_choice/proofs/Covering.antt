-- Nothing is chosen exactly where neither one fan nor a fan on each side covers a supply point and a return point.
use Rattle.std.proofs.Common.{◌≡◌, ℕ, ◌≤◌, List, Option, Some, None, refl, sym, ◌∙◌, arith}
use Rattle.std.specs.Prelude.{Contains, IsSomeAnd}
use Rattle.std.proofs.lemmas.List.Elements.{All-contains}
use Rattle.std.proofs.lemmas.Option.{none-some, slice_get_within, get_or_from_slice_get}
use Rattle.duct_definitions.specs.Network.{Network}
use Rattle.pareto_front.specs.declared.point.Point.{Point}
use Rattle.pareto_front.specs.Front.{IsFront, cheapest}
use Rattle.pareto_front.proofs.Points.{cheapest-need, cheapest-rise}
use Rattle.least_laws.specs.Choosing.{return_budget, IsOffered}
use Rattle.fan_choice.specs.declared.choice.Choice.{Choice}
use Rattle.fan_choice.specs.Choice.{IsChoiceOf, NoFanCovers, NoneIsPriced}
use Rattle.fan_choice.proofs.LastWithin.{IsBought, bought}
use Rattle.fan_choice.proofs.Paid.{paid, pays}

-- a point is bought at each budget that covers its need
some_price : (ps : List Point) (p : Point) (budget : ℕ) → IsFront ps → Contains ps p → p.need ≤ budget
    → (c : ℕ) × (cheapest ps budget ≡ Some c)
some_price ps p budget front inside within =
    go (cheapest ps budget) refl
    (cheapest-rise ps p.need budget front within p.cost
    (All-contains (λ q. cheapest ps q.need ≡ Some q.cost) ps p (cheapest-need ps front) inside)) where
      go : (o : Option ℕ) → cheapest ps budget ≡ o → IsSomeAnd o (λ c. c ≤ p.cost)
          → (c : ℕ) × (cheapest ps budget ≡ Some c)
      go None is less = absurd less
      go (Some c) is less = (c, is)

point_there : (ps : List Point) (budget cost : ℕ) (p : IsBought ps budget cost) → Contains ps p.point
point_there ps budget cost p =
    let last = p.last in (
      last.place,
      slice_get_within ps last.place p.point last.there,
      get_or_from_slice_get ps last.place p.point
          p.point last.there,
    )

module _ (net : Network) (supply back : List Point) where
  -- with an offer that is priced at the needs of two points something has a cost
  priced_at : (fan : ℕ) (own : Option ℕ) (p q : Point) → IsFront supply → IsFront back → NoneIsPriced net supply back
      → Contains supply p → Contains back q → IsOffered net fan own p.need
      → q.need ≤ return_budget net fan own p.need → ⊥
  priced_at fan own p q supply_front back_front none p_in q_in offered within =
      let (x, x_is) = some_price supply p p.need supply_front p_in (omega arith) in
      let (y, y_is) = some_price back q (return_budget net fan own p.need) back_front q_in within in
      none-some _ (sym (none fan own p.need offered) ∙ pays net supply back fan own p.need x y x_is y_is)

  pub none_covers : IsFront supply → IsFront back → NoneIsPriced net supply back → NoFanCovers net supply back
  none_covers supply_front back_front none = record {
    shared = λ i p q in_range p_in q_in covered.
        priced_at i None p q supply_front back_front none p_in q_in
        (record { in_range = in_range; back = tt; within = omega arith }) (omega arith);
    own = λ i j p q in_range own_in_range p_in q_in covered own_covered.
        priced_at i (Some j) p q supply_front back_front none p_in q_in
        (record { in_range = in_range; back = own_in_range; within = covered }) own_covered;
  }

  -- the points that a cost pays for stand within the budgets of some fans
  covered : (fan : ℕ) (own : Option ℕ) (budget : ℕ) (p q : Point) → IsOffered net fan own budget
      → Contains supply p → Contains back q
      → p.need ≤ budget → q.need ≤ return_budget net fan own budget → NoFanCovers net supply back → ⊥
  covered fan None budget p q offered p_in q_in p_within q_within none =
      let fits = offered.within in
      none.shared fan p q offered.in_range p_in q_in (omega arith)
  covered fan (Some j) budget p q offered p_in q_in p_within q_within none =
      let fits = offered.within in
      none.own fan j p q offered.in_range offered.back p_in q_in (omega arith) q_within

  pub some_covers : (choice : Choice) → IsChoiceOf net supply back choice → NoFanCovers net supply back → ⊥
  some_covers choice is =
      let chosen = is.chosen in
      let all = paid net supply back choice.fan choice.back choice.supply_budget choice.cost chosen.reached in
      let p = bought supply choice.supply_budget all.of_supply all.supply_is in
      let q = bought back (return_budget net choice.fan choice.back choice.supply_budget) all.of_back all.back_is in
      covered choice.fan choice.back choice.supply_budget p.point q.point chosen.offered
      (point_there supply _ _ p) (point_there back _ _ q) p.last.within q.last.within
