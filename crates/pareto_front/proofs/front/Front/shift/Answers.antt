use Rattle.std.proofs.Common.{ℕ, ◌≡◌, ◌+◌, ◌<◌, ◌≤◌, ◌^◌, ◌∙◌, length, map, ap, sym, subst}
use Rattle.std.proofs.lemmas.List.Elements.{All-take, All-same}
use Rattle.pareto_front.specs.declared.point.Point.{Point}
use Rattle.pareto_front.specs.Front.{IsFront, cheapest, moved_by}
use Rattle.pareto_front.proofs.Shifts.{IsFront-moved, cheapest-moved_part, moved_within}
use Rattle.pareto_front.proofs.Bounds.{shifted_costs}
use Rattle.pareto_front.proofs.front.Front.shift.Goals as goal

points_are : (c : goal.After-from_vec) → c.from_vec.result ≡ map (moved_by c.args.loss c.args.price) c.points_within.result.now
points_are c = c.from_vec.ensures ∙ c.in_ok-points.ensures

pub moved-requires-clause-costs : goal.moved-requires-clause-costs
moved-requires-clause-costs c =
    let part = c.points_within.result.now in
    let Fits : Point → Type 0 = λ p. p.cost + c.args.price < 2 ^ 64 in
    let whole = All-same Fits _ _ c.points.ensures.value c.requires.fits in
    All-same Fits part _ c.points_within.ensures.part (All-take Fits (length part) c.points.result.now whole)

pub invariant_of-result : goal.invariant_of-result
invariant_of-result c =
    subst IsFront (sym (points_are c)) (IsFront-moved c.args.loss c.args.price c.points_within.result.now c.points_within.ensures.front)

pub returns-clause-value : goal.returns-clause-value
returns-clause-value c budget within =
    let (enough, room) = c.in-Some.ensures in
    let prices = λ (b : ℕ) (below : b ≤ c.in-Some.room). c.points_within.ensures.prices b below ∙ ap (λ l. cheapest l b) c.points.ensures.value in
    ap (λ l. cheapest l budget) (points_are c)
    ∙ cheapest-moved_part c.args.loss c.args.price c.args.self.now c.points_within.result.now c.args.cap c.in-Some.room enough room prices budget within

pub returns-clause-capped : goal.returns-clause-capped
returns-clause-capped c =
    let (enough, room) = c.in-Some.ensures in
    let part = c.points_within.result.now in
    All-same (λ p. p.need ≤ c.args.cap) _ _ (points_are c)
    (moved_within c.args.loss c.args.price part c.args.cap c.in-Some.room enough room c.points_within.ensures.within)

pub returns-clause-bounded : goal.returns-clause-bounded
returns-clause-bounded c =
    shifted_costs c.args.self.now c.from_vec.result c.args.loss c.args.price c.args.cap
    (invariant_of-result c) (returns-clause-capped c) (returns-clause-value c)
