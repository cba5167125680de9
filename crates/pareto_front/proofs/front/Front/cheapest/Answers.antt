use Rattle.std.proofs.Common.{subst, IsNone, ◌↔◌, sym, arith}
use Rattle.pareto_front.specs.Front.{IsBelowFirst}
use Rattle.pareto_front.proofs.Prices.{cheapest-last}
use Rattle.pareto_front.proofs.Falls.{cheapest-none}
use Rattle.pareto_front.proofs.front.Front.cheapest.Goals as goal

pub returns-clause-value : goal.returns-clause-value
returns-clause-value c =
    let last = cheapest-last c.points_within.result.now c.args.budget c.points_within.ensures.within in
    let prices = c.points_within.ensures.prices c.args.budget (omega arith) in
    cc

pub returns-clause-none : goal.returns-clause-none
returns-clause-none c =
    let front = c.args.self.now in
    let budget = c.args.budget in
    subst (λ o. IsNone o ↔ IsBelowFirst budget front) (sym (returns-clause-value c)) (cheapest-none front budget c.points.ensures.front)
