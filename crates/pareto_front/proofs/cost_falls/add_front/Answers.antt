use Rattle.std.proofs.Common.{◌≡◌, ℕ, ◌<◌, ◌≤◌, ap, sym, ◌∙◌, arith, inl, inr, subst, List, [], ◌∷◌, Some, length}
use Rattle.std.specs.Prelude.{slice_get}
use Rattle.std.proofs.lemmas.Bool.{cases_lt}
use Rattle.std.proofs.lemmas.List.Elements.{All-weaker}
use Rattle.std.proofs.lemmas.Option.{slice_get_within, get_or_from_slice_get}
use Rattle.duct_units.specs.Prices.{both_of}
use Rattle.pareto_front.specs.declared.point.Point.{Point}
use Rattle.pareto_front.specs.Front.{IsBelowFirst, IsFront, cheapest}
use Rattle.pareto_front.specs.FrontSum.{greatest_cost}
use Rattle.pareto_front.specs.CostFalls.{points_of}
use Rattle.pareto_front.proofs.Falls.{cheapest-All}
use Rattle.pareto_front.proofs.FallsByNeed.{falls-below}
use Rattle.pareto_front.proofs.Order.{IsFront-above}
use Rattle.pareto_front.proofs.Prices.{cheapest-above}
use Rattle.pareto_front.proofs.PricesLaid.{last_most}
use Rattle.pareto_front.proofs.SummedStart.{both_of-none}
use Rattle.pareto_front.proofs.Together.{CostsWithin-greatest}
use Rattle.pareto_front.proofs.cost_falls.add_front.Goals as goal

below-first : (ps : List Point) (first : Point) (b : ℕ) → slice_get ps 0 ≡ Some first → b < first.need → IsBelowFirst b ps
below-first [] first b is below = tt
below-first (p ∷ ps) first b is below = let same : p ≡ first = cc in subst (λ (q : Point). b < q.need) (sym same) below

pub add_points-requires-clause-needs : goal.add_points-requires-clause-needs
add_points-requires-clause-needs c =
    let points = c.points-points.result.now in
    let front : IsFront points = subst IsFront (sym c.points-points.ensures.value) c.points-points.ensures.front in
    let last : Point = c.in-Some-Some.last.now in
    let low = c.if-last-falls.false in
    All-weaker (λ p. p.need ≤ last.need) (λ p. p.need < length c.args.falls.now) (λ p h. omega arith) points
    (last_most points front 0 c.in-Some-Some.start.now last (sym c.in-Some-Some.ensures.value) (sym c.in-Some-Some.ensures'.value))

pub add_points-requires-clause-in_range : goal.add_points-requires-clause-in_range
add_points-requires-clause-in_range c =
    let points = c.points-points.result.now in
    let front : IsFront points = subst IsFront (sym c.points-points.ensures.value) c.points-points.ensures.front in
    let start : Point = c.in-Some-Some.start.now in
    let last : Point = c.in-Some-Some.last.now in
    let first_is : slice_get points 0 ≡ Some start = sym c.in-Some-Some.ensures.value in
    let low = c.if-last-falls.false in
    let here = c.requires.falls.in_range in
    let greater = c.max-need.ensures in
    let most =
    subst (λ (p : Point). p.need ≤ last.need) (get_or_from_slice_get points 0 start start first_is)
    (last_most points front 0 start last first_is (sym c.in-Some-Some.ensures'.value) 0 start
    (slice_get_within points 0 start first_is)) in
    omega arith

pub add_points-requires-clause-start : goal.add_points-requires-clause-start
add_points-requires-clause-start c b below =
    let points = c.points-points.result.now in
    let front : IsFront points = subst IsFront (sym c.points-points.ensures.value) c.points-points.ensures.front in
    let start : Point = c.in-Some-Some.start.now in
    let sum = points_of c.args.first c.args.falls.now in
    let greater = c.max-need.ensures in
    elim (cases_lt b c.args.first.need) [
      | inl early ↦ ap (λ o. both_of o (cheapest points b)) (falls-below c.args.first c.args.falls.now b c.requires.falls early)
      | inr over ↦
          ap (both_of (cheapest sum b))
          (cheapest-above points b (IsFront-above points b front
          (below-first points start b (sym c.in-Some-Some.ensures.value) (omega arith))))
          ∙ both_of-none (cheapest sum b)
    ]

pub add_points-requires-clause-fits : goal.add_points-requires-clause-fits
add_points-requires-clause-fits c =
    let front = c.args.front.now in
    let most = cheapest-All (λ cost. cost ≤ greatest_cost front) front c.max-need.result (CostsWithin-greatest front) c.in_ok-cost.cost
    (sym c.in_ok-cost.ensures.value) in
    let fits = c.requires.fits in
    omega arith
