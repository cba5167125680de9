use Rattle.std.proofs.Common.{◌≤◌, max}
use Rattle.pareto_front.proofs.PricesScanned.{IsScannedTo}
use Rattle.pareto_front.proofs.PricesTaken.{IsTakenTo}
use Rattle.pareto_front.proofs.least_prices.take_cheaper.Given as goal

abbrev pub invariant-loop-need : goal.invariant-loop-need
invariant-loop-need l =
    (l.need ≤ max l.from l.until) × IsTakenTo l.fn.prices l.prices l.need × IsScannedTo l.fn.prices l.kept.items l.need l.best
