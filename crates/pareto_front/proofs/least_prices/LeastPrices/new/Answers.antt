use Rattle.std.proofs.Common.{◌≤◌, arith, sym, subst}
use Rattle.std.proofs.lemmas.List.Elements.{All-replicate}
use Rattle.pareto_front.specs.declared.least_prices.TheConstants.{ABSENT}
use Rattle.pareto_front.specs.LeastPrices.{AreAbsent}
use Rattle.pareto_front.proofs.PricesByNeed.{points_from-absent}
use Rattle.pareto_front.proofs.least_prices.LeastPrices.new.Goals as goal

pub returns-clause-clear : goal.returns-clause-clear
returns-clause-clear c =
    points_from-absent c.in_ok-vec.field-0.items 0
    (subst AreAbsent (sym (c.in_ok-vec.ensures.items_if_clones_equal (λ y same. same))) (All-replicate (λ price. ABSENT ≤ price) c.args.needs ABSENT (omega arith)))
