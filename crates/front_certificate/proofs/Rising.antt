-- What holds at a budget holds at a greater one with the same sum of bounds.
use Rattle.std.proofs.Common.{◌≡◌, ℕ, ◌+◌, ◌-◌, ◌≤◌, arith, sym, ◌∙◌, subst, refl, Option, Some, None, List}
use Rattle.std.specs.Prelude.{IsSomeAnd}
use Rattle.duct_units.specs.declared.side.Side.TheVariants.{Supply, Return}
use Rattle.duct_units.specs.Prices.{both_of}
use Rattle.duct_definitions.specs.Tree.{children, roots}
use Rattle.duct_definitions.specs.Network.{Network, fan_at}
use Rattle.duct_definitions.specs.Designs.{fans_cost}
use Rattle.pareto_front.specs.declared.point.Point.{Point}
use Rattle.pareto_front.specs.Front.{IsFront, CostsNoMore}
use Rattle.pareto_front.proofs.Points.{cheapest-rise}
use Rattle.front_certificate.specs.Certificates.{front_at, bound, bound_sum}
use Rattle.front_certificate.specs.Sound.{HoldsAt, IsNoLess, split_sum, side_bound}
use Rattle.front_certificate.specs.Tests.{SharedHold}
use Rattle.front_certificate.proofs.AtMost.{AtMost, some_and, both_of-at_most, sum_of-at_most}

-- each front of these is a front
abbrev pub AreFronts : Network → List (List Point) → Type 0
AreFronts net fronts = (s g : ℕ) → IsFront (front_at net fronts s g)

no_more-at_most : (new old : Option ℕ) → CostsNoMore new old → AtMost new old
no_more-at_most new old no_more v is = some_and new (λ u. u ≤ v) (no_more v is)

pub and-some : (o : Option ℕ) (P : ℕ → Type 0) (u : ℕ) → o ≡ Some u → P u → IsSomeAnd o P
and-some o P u is holds = subst (λ x. IsSomeAnd x P) (sym is) holds

no_less-above : (total low high : Option ℕ) → AtMost low high → IsNoLess total low → IsNoLess total high
no_less-above total low None most holds = tt
no_less-above None low (Some v) most holds =
    let found = most v refl in absurd (subst (IsNoLess None) found.1 holds)
no_less-above (Some total) low (Some v) most holds =
    let found = most v refl in
    let less = subst (IsNoLess (Some total)) found.1 holds in
    let more = found.2 in
    omega arith

module _ (net : Network) (fronts : List (List Point)) (are : AreFronts net fronts) where
  bound-rises : (s g less more : ℕ) → less ≤ more → AtMost (bound net fronts s g more) (bound net fronts s g less)
  bound-rises s g less more over =
      no_more-at_most _ _ (cheapest-rise (front_at net fronts s g) less more (are s g) over)

  bound_sum-rises : (xs : List ℕ) (k less more : ℕ) → less ≤ more
      → AtMost (bound_sum net fronts xs k more) (bound_sum net fronts xs k less)
  unfolding bound_sum
  bound_sum-rises xs k less more over =
      sum_of-at_most (λ s. bound net fronts s k more) (λ s. bound net fronts s k less) xs
      (λ s among. bound-rises s k less more over)

  pub holds-later : (s k from rest : ℕ) → from ≤ rest
      → bound_sum net fronts (children net.tree s) k rest ≡ bound_sum net fronts (children net.tree s) k from
      → HoldsAt net fronts s k from → HoldsAt net fronts s k rest
  holds-later s k from rest over same holds sum g is beside pair there in_cap =
      let before = some_and (bound net fronts s g (pair.loss + from)) (λ cost. cost ≤ pair.price + sum)
      (holds sum g (sym same ∙ is) beside pair there (omega arith)) in
      let more = bound-rises s g (pair.loss + from) (pair.loss + rest) (omega arith) before.0 before.1 in
      let one = before.2 in
      let two = more.2 in
      and-some (bound net fronts s g (pair.loss + rest)) (λ cost. cost ≤ pair.price + sum) more.0 more.1 (omega arith)

  pub shared-later : (total : Option ℕ) (from budget : ℕ) → from ≤ budget
      → bound_sum net fronts (roots net.tree Supply) 0 budget ≡ bound_sum net fronts (roots net.tree Supply) 0 from
      → SharedHold net fronts total from → SharedHold net fronts total budget
  shared-later total from budget over same holds fan in_range within =
      let p : ℕ = (fan_at net fan).pressure in
      no_less-above total (split_sum net fronts fan None from) (split_sum net fronts fan None budget)
      (both_of-at_most (Some (fans_cost net fan None)) (Some (fans_cost net fan None))
      (both_of (side_bound net fronts Supply from) (side_bound net fronts Return (p - from)))
      (both_of (side_bound net fronts Supply budget) (side_bound net fronts Return (p - budget)))
      (λ v is. (v, is, omega arith))
      (both_of-at_most (side_bound net fronts Supply from) (side_bound net fronts Supply budget)
      (side_bound net fronts Return (p - from)) (side_bound net fronts Return (p - budget))
      (λ v is. (v, sym same ∙ is, omega arith))
      (bound_sum-rises (roots net.tree Return) 0 (p - budget) (p - from) (omega arith))))
      (holds fan in_range (omega arith))
