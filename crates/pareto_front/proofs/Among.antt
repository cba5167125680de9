-- The points of the cheaper of two fronts are points of the two.
use Rattle.std.proofs.Common.{◌≡◌, ℕ, ◌<◌, ◌≤◌, List, [], ◌∷◌, ◌++◌, Option, Some, None, refl, sym, ◌∙◌, subst, arith, inl, inr, zero, suc}
use Rattle.std.specs.Prelude.{All, Contains, IsSomeAnd}
use Rattle.std.specs.Option.{ForSome}
use Rattle.std.proofs.lemmas.Bool.{cases_lt}
use Rattle.std.proofs.lemmas.List.Elements.{All-weaker, All-contains, Contains-append_left, Contains-append_right}
use Rattle.std.proofs.lemmas.Option.{none-some}
use Rattle.pareto_front.specs.declared.point.Point.{Point}
use Rattle.duct_units.specs.Prices.{lesser}
use Rattle.pareto_front.specs.Front.{IsFront, CostsNoMore, cheapest, price_of}
use Rattle.pareto_front.proofs.Costs.{lesser-left, lesser-right}
use Rattle.pareto_front.proofs.Even.{lesser-Some}
use Rattle.pareto_front.proofs.Falls.{option_or-Some, price_of-Some}
use Rattle.pareto_front.proofs.Points.{IsPriced, front_priced, cheapest-need}
use Rattle.pareto_front.proofs.Same.{same_point}

-- a point of the list, within the budget, that costs this
record IsPriceOf (ps : List Point) (budget cost : ℕ) : Type 0 where
  pub point : Point
  pub there : Contains ps point
  pub within : point.need ≤ budget
  pub is : point.cost ≡ cost

price_point : (ps : List Point) (budget cost : ℕ) → cheapest ps budget ≡ Some cost → IsPriceOf ps budget cost
price_point [] budget cost is = absurd (none-some cost is)
price_point (p ∷ ps) budget cost is = elim (option_or-Some (cheapest ps budget) (price_of p budget) cost is) [
  | inl later ↦
      (let q = price_point ps budget cost later in
      let (k, inside, at) = q.there in
      record { point = q.point; there = (suc k, omega arith, at); within = q.within; is = q.is })
  | inr first ↦
      (let here = price_of-Some p budget cost first in
      record { point = p; there = (zero, omega arith, refl); within = here.0; is = here.1 })
]

-- a point that is the price at its need, and that every price before is above, is a point of the front
priced_there : (ps : List Point) (p : Point) → IsFront ps → IsPriced ps p → Contains ps p
priced_there ps p front priced =
    let q = price_point ps p.need p.cost priced.at_need in
    let q_price = All-contains (λ r. cheapest ps r.need ≡ Some r.cost) ps q.point (cheapest-need ps front) q.there in
    let cost = q.is in
    let within = q.within in
    let need : q.point.need ≡ p.need = elim (cases_lt q.point.need p.need) [
      | inl below ↦ (let less = priced.before q.point.need below q.point.cost q_price in absurd (omega arith))
      | inr over ↦ omega arith
    ] in
    subst (Contains ps) (same_point q.point p need cost) q.there

-- a cost that is below every lesser one is below what the lesser one is no more expensive than
below_costlier : (o p : Option ℕ) (least : ℕ) → CostsNoMore o p → ForSome o (λ x. least < x) → ForSome p (λ x. least < x)
below_costlier o p least low above cost is = go o (low cost is) above where
  go : (o : Option ℕ) → IsSomeAnd o (λ d. d ≤ cost) → ForSome o (λ x. least < x) → least < cost
  go None there above = absurd there
  go (Some d) there above = let over = above d refl in omega arith

-- each point of the cheaper of two fronts is a point of one of them
pub lesser_among : (a b front : List Point) → IsFront a → IsFront b → IsFront front
    → ((budget : ℕ) → cheapest front budget ≡ lesser (cheapest a budget) (cheapest b budget)) → All (Contains (a ++ b)) front
lesser_among a b front a_front b_front is_front prices =
    All-weaker (IsPriced front) (Contains (a ++ b)) each front (front_priced front is_front) where
      before : (p : Point) → IsPriced front p → (ps : List Point) → ((budget : ℕ) → CostsNoMore (cheapest front budget) (cheapest ps budget))
          → (budget : ℕ) → budget < p.need → ForSome (cheapest ps budget) (λ x. p.cost < x)
      before p priced ps low budget below = below_costlier (cheapest front budget) (cheapest ps budget) p.cost (low budget) (priced.before budget below)

      low_a : (budget : ℕ) → CostsNoMore (cheapest front budget) (cheapest a budget)
      low_a budget = subst (λ o. CostsNoMore o (cheapest a budget)) (sym (prices budget)) (lesser-left (cheapest a budget) (cheapest b budget))

      low_b : (budget : ℕ) → CostsNoMore (cheapest front budget) (cheapest b budget)
      low_b budget = subst (λ o. CostsNoMore o (cheapest b budget)) (sym (prices budget)) (lesser-right (cheapest a budget) (cheapest b budget))

      each : (p : Point) → IsPriced front p → Contains (a ++ b) p
      each p priced = elim (lesser-Some (cheapest a p.need) (cheapest b p.need) p.cost (sym (prices p.need) ∙ priced.at_need)).one [
        | inl of_a ↦ Contains-append_left a b p (priced_there a p a_front (record { at_need = of_a; before = before p priced a low_a }))
        | inr of_b ↦ Contains-append_right a b p (priced_there b p b_front (record { at_need = of_b; before = before p priced b low_b }))
      ]
