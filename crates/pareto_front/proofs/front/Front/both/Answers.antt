use Rattle.std.proofs.Common.{sym, ap, subst, ◌∙◌}
use Rattle.duct_units.specs.Prices.{both_of}
use Rattle.pareto_front.specs.Front.{IsFront, cheapest}
use Rattle.pareto_front.proofs.Bounds.{joined_needs, sum_costs}
use Rattle.pareto_front.proofs.front.Front.both.Goals as goal

front : (c : goal.After-from_vec) → IsFront c.from_vec.result
front c = subst IsFront (sym c.from_vec.ensures) c.in_ok-points.ensures.front

pub returns-clause-value : goal.returns-clause-value
returns-clause-value c budget =
    ap (λ l. cheapest l budget) c.from_vec.ensures
    ∙ c.in_ok-points.ensures.prices budget
    ∙ ap (λ l. both_of (cheapest l budget) (cheapest c.points-2.result.now budget)) c.points.ensures.value
    ∙ ap (λ l. both_of (cheapest c.args.a.now budget) (cheapest l budget)) c.points-2.ensures.value

pub returns-clause-needs : goal.returns-clause-needs
returns-clause-needs c = joined_needs c.args.a.now c.args.b.now c.from_vec.result (front c) both_of (returns-clause-value c)

pub returns-clause-bounded : goal.returns-clause-bounded
returns-clause-bounded c = sum_costs c.args.a.now c.args.b.now c.from_vec.result (front c) (returns-clause-value c)
