use Rattle.std.proofs.Common.{sym, ap, subst, ◌∙◌}
use Rattle.duct_units.specs.Prices.{lesser}
use Rattle.pareto_front.specs.Front.{IsFront, cheapest}
use Rattle.pareto_front.proofs.Among.{lesser_among}
use Rattle.pareto_front.proofs.front.Front.either.Goals as goal

pub returns-clause-value : goal.returns-clause-value
returns-clause-value c budget =
    ap (λ l. cheapest l budget) c.from_vec.ensures
    ∙ c.in_ok-points.ensures.prices budget
    ∙ ap (λ l. lesser (cheapest l budget) (cheapest c.points-2.result.now budget)) c.points.ensures.value
    ∙ ap (λ l. lesser (cheapest c.args.a.now budget) (cheapest l budget)) c.points-2.ensures.value

pub returns-clause-among : goal.returns-clause-among
returns-clause-among c =
    lesser_among c.args.a.now c.args.b.now c.from_vec.result c.points.ensures.front c.points-2.ensures.front
    (subst IsFront (sym c.from_vec.ensures) c.in_ok-points.ensures.front) (returns-clause-value c)
