use Rattle.std.proofs.Common.{arith}
use Rattle.pareto_front.proofs.PricesLaid.{IsLaidTo-start, IsLaidTo-next, IsLaidTo-all}
use Rattle.pareto_front.proofs.least_prices.lay_points.Goals as goal

pub loop-point-init : goal.loop-point-init
loop-point-init c = IsLaidTo-start c.args.prices.now c.args.points.now c.args.loss c.args.price

pub loop-point-preserved : goal.loop-point-preserved
loop-point-preserved c =
    let within = c.loop-point-test.true in
    let costs = c.requires.costs c.loop-point.point-index (record { need = 0; cost = 0 }) within in
    IsLaidTo-next c.args.prices.now c.loop-point.prices c.args.points.now c.args.loss c.args.price c.loop-point.point-index c.loop-point.invariant
    (record { need = 0; cost = 0 }) c.min.result within
    (c.requires.needs c.loop-point.point-index (record { need = 0; cost = 0 }) within) (omega arith) c.min.ensures

pub returns-clause-least : goal.returns-clause-least
returns-clause-least c =
    IsLaidTo-all c.args.prices.now c.loop-point.prices c.args.points.now c.args.loss c.args.price c.loop-point.point-index c.loop-point.invariant
    c.loop-point-test.false
