-- Bounds on the points of a merged or moved front, from those of the fronts that it is made of.
use Rattle.std.proofs.Common.{◌≡◌, ℕ, ◌+◌, ◌-◌, ◌<◌, ◌≤◌, ◌^◌, List, Option, Some, None, refl, ap, sym, ◌∙◌, arith, inl, inr, Bool, true, false, nat_le}
use Rattle.std.specs.Prelude.{All, if◌then◌else◌}
use Rattle.std.specs.Option.{ForSome}
use Rattle.std.proofs.lemmas.Bool.{cases_lt}
use Rattle.std.proofs.lemmas.List.Elements.{All-weaker}
use Rattle.std.proofs.lemmas.Option.{none-some}
use Rattle.pareto_front.specs.declared.point.Point.{Point}
use Rattle.duct_units.specs.Prices.{both_of}
use Rattle.pareto_front.specs.Front.{IsFront, NeedsWithin, CostsWithin, cheapest, plus, shifted}
use Rattle.pareto_front.proofs.Falls.{cheapest-All}
use Rattle.pareto_front.proofs.Needs.{within_later}
use Rattle.pareto_front.proofs.Points.{IsPriced, front_priced, cheapest-need}
use Rattle.pareto_front.proofs.Prices.{cheapest-past}

price_within : (ps : List Point) (budget most : ℕ) → CostsWithin most ps → ForSome (cheapest ps budget) (λ cost. cost ≤ most)
price_within ps budget most within = cheapest-All (λ cost. cost ≤ most) ps budget within

-- what holds of each price holds of each cost
each_cost : (P : ℕ → Type 0) (ps : List Point) → IsFront ps → ((b : ℕ) → ForSome (cheapest ps b) P) → All (λ p. P p.cost) ps
each_cost P ps front each =
    All-weaker (λ p. cheapest ps p.need ≡ Some p.cost) (λ p. P p.cost) (λ p is. each p.need p.cost is) ps (cheapest-need ps front)

-- where the prices stay from a budget on, each need is within it
each_need : (ps : List Point) (most : ℕ) → IsFront ps → ((b : ℕ) → most ≤ b → cheapest ps b ≡ cheapest ps most) → NeedsWithin most ps
each_need ps most front stays =
    All-weaker (IsPriced ps) (λ p. p.need ≤ most) (λ p priced. elim (cases_lt most p.need) [
      | inl above ↦ (let less = priced.before most above p.cost (sym (stays p.need (omega arith)) ∙ priced.at_need) in absurd (omega arith))
      | inr within ↦ within
    ])
    ps (front_priced ps front)

-- a sum of two costs is within the sum of bounds on both
sum_bound : (x y : Option ℕ) (u v c : ℕ) → ForSome x (λ a. a ≤ u) → ForSome y (λ a. a ≤ v) → both_of x y ≡ Some c → c ≤ u + v
sum_bound None y u v c x_less y_less is = absurd (none-some c is)
sum_bound (Some x) None u v c x_less y_less is = absurd (none-some c is)
sum_bound (Some x) (Some y) u v c x_less y_less is =
    let low = x_less x refl in
    let high = y_less y refl in
    let sum : x + y ≡ c = cc in
    omega arith

-- where costs are within bounds whose sum fits, each sum of two does
pub sums_fit : (a b : List Point) (u v : ℕ) → CostsWithin u a → CostsWithin v b → u + v < 2 ^ 64
    → (budget : ℕ) → ForSome (both_of (cheapest a budget) (cheapest b budget)) (λ cost. cost < 2 ^ 64)
sums_fit a b u v a_within b_within fits budget cost is =
    let within = sum_bound (cheapest a budget) (cheapest b budget) u v cost (price_within a budget u a_within) (price_within b budget v b_within) is in
    omega arith

module _ (a b front : List Point) (is_front : IsFront front) where
  -- costs of two fronts together
  pub sum_costs : ((budget : ℕ) → cheapest front budget ≡ both_of (cheapest a budget) (cheapest b budget))
      → (u v : ℕ) → CostsWithin u a → CostsWithin v b → CostsWithin (u + v) front
  sum_costs prices u v a_within b_within = each_cost (λ c. c ≤ u + v) front is_front (λ budget c is.
      sum_bound (cheapest a budget) (cheapest b budget) u v c (price_within a budget u a_within) (price_within b budget v b_within)
      (sym (prices budget) ∙ is))

  -- needs of two fronts joined in any way
  pub joined_needs : (join : Option ℕ → Option ℕ → Option ℕ) → ((budget : ℕ) → cheapest front budget ≡ join (cheapest a budget) (cheapest b budget))
      → (most : ℕ) → NeedsWithin most a → NeedsWithin most b → NeedsWithin most front
  joined_needs join prices most a_within b_within = each_need front most is_front (λ budget over.
      let past = λ (ps : List Point) (within : NeedsWithin most ps). cheapest-past ps budget most (within_later most budget ps over within) within in
      prices budget
      ∙ ap (λ o. join o (cheapest b budget)) (past a a_within)
      ∙ ap (join (cheapest a most)) (past b b_within)
      ∙ sym (prices most))

-- a cost plus the price is within the bound plus the price
plus_bound : (x : Option ℕ) (price most c : ℕ) → ForSome x (λ a. a ≤ most) → plus price x ≡ Some c → c ≤ most + price
plus_bound None price most c less is = absurd (none-some c is)
plus_bound (Some x) price most c less is =
    let low = less x refl in
    let sum : x + price ≡ c = cc in
    omega arith

shifted_bound : (ps : List Point) (loss price budget most c : ℕ) → CostsWithin most ps → shifted ps loss price budget ≡ Some c → c ≤ most + price
shifted_bound ps loss price budget most c within is = go (nat_le loss budget) is where
  go : (enough : Bool) → (if enough then plus price (cheapest ps (budget - loss)) else None) ≡ Some c → c ≤ most + price
  go true is = plus_bound (cheapest ps (budget - loss)) price most c (price_within ps (budget - loss) most within) is
  go false is = absurd (none-some c is)

-- costs of a moved front
pub shifted_costs : (ps front : List Point) (loss price cap : ℕ) → IsFront front → NeedsWithin cap front
    → ((budget : ℕ) → budget ≤ cap → cheapest front budget ≡ shifted ps loss price budget)
    → (most : ℕ) → CostsWithin most ps → CostsWithin (most + price) front
shifted_costs ps front loss price cap is_front within prices most costs k d here =
    let p = front_priced front is_front k d here in
    shifted_bound ps loss price _ most _ costs (sym (prices _ (within k d here)) ∙ p.at_need)
