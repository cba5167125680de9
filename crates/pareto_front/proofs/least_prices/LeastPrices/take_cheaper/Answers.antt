use Rattle.std.proofs.Common.{◌≡◌, ◌∙◌, arith, ap, length}
use Rattle.pareto_front.specs.LeastPrices.{points_from}
use Rattle.pareto_front.proofs.PricesByNeed.{points_from-absent, written}
use Rattle.pareto_front.proofs.least_prices.LeastPrices.take_cheaper.Goals as goal

pub returns-clause-clear : goal.returns-clause-clear
returns-clause-clear c =
    let all = (let same = c.self.inside.prices.ok.0 in let e : c.self.inside.prices.len ≡ length c.self.inside.prices.items = omega arith in e) in
    ap (points_from 0) (written c.take_cheaper.new.prices c.self.inside.prices.items c.self.inside.prices.len all
    (c.take_cheaper.ensures.wide ∙ ap length c.deref_mut.ensures.value))
    ∙ points_from-absent c.take_cheaper.new.prices 0 c.in_ok-take_cheaper.ensures.absent
