-- A sweep that keeps the cheaper of two fronts.
use Rattle.std.proofs.Common.{◌≡◌, ℕ, ◌<◌, ◌≤◌, List, [], ◌∷◌, ◌++◌, Option, Some, sym, ◌∙◌, subst, arith}
use Rattle.std.specs.Option.{ForSome}
use Rattle.pareto_front.specs.declared.point.Point.{Point}
use Rattle.pareto_front.specs.declared.sweep.Step.{Step}
use Rattle.duct_units.specs.Prices.{lesser}
use Rattle.pareto_front.specs.Cheaper.{with_cheaper}
use Rattle.pareto_front.specs.Front.{CostsNoMore, cheapest}
use Rattle.pareto_front.specs.Sweep.{Progress, Steps, cost_of, last_cost, lesser_offer}
use Rattle.pareto_front.proofs.CheaperLaws.{with_cheaper-cases}
use Rattle.pareto_front.proofs.Costs.{lesser_falls, same_cost}
use Rattle.pareto_front.proofs.Needs.{within_from_below}
use Rattle.pareto_front.proofs.Prices.{cheapest-last}
use Rattle.pareto_front.proofs.Swept.{Swept, Swept-push, Swept-skip, left_part, right_part, made_below, left_falls, right_falls}

module _ {a b : List Point} {old new : Progress} {made : List Point} {next : Step} (swept : Swept lesser a b old made) (on : Steps old new next) where
  -- from the next need on the last point has the price so far
  last_is : (budget : ℕ) → next.need ≤ budget → cheapest made budget ≡ last_cost made
  last_is budget over = cheapest-last made budget (within_from_below next.need budget made (omega arith) (made_below swept on))

  -- the lesser that is offered is no more expensive than the last point
  offer_falls : (budget : ℕ) → next.need ≤ budget → CostsNoMore (lesser_offer next) (last_cost made)
  offer_falls budget over =
      subst (CostsNoMore (lesser_offer next)) (sym (swept.prices budget) ∙ last_is budget over)
      (lesser_falls (cost_of next.left) (cost_of next.right) (cheapest (left_part old) budget) (cheapest (right_part old) budget)
      (left_falls swept on budget over) (right_falls swept on budget over))

  Swept-lesser : (point : Point) → point.need ≡ next.need → lesser_offer next ≡ Some point.cost
      → ForSome (last_cost made) (λ last. point.cost < last) → Swept lesser a b new (made ++ point ∷ [])
  Swept-lesser point here is less =
      Swept-push swept on point here is (λ cost was. less cost (sym (last_is next.need (omega arith)) ∙ was))

  -- where the last point is no more expensive than the offer, the two cost the same
  Swept-no_lesser : CostsNoMore (last_cost made) (lesser_offer next) → Swept lesser a b new made
  Swept-no_lesser covers =
      Swept-skip swept on (λ budget over. last_is budget over ∙ same_cost (last_cost made) (lesser_offer next) covers (offer_falls budget over))

  -- so what is kept is the cheaper of both fronts up to the next need
  pub Swept-with_cheaper : (price : Option ℕ) → price ≡ lesser_offer next → Swept lesser a b new (with_cheaper next.need price made)
  Swept-with_cheaper price offer =
      with_cheaper-cases (Swept lesser a b new) next.need made price
      (λ high. Swept-no_lesser (subst (CostsNoMore (last_cost made)) offer high))
      (λ point here is less. Swept-lesser point here (sym offer ∙ is) less)
