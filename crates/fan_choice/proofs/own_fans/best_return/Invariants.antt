use Rattle.std.proofs.Common.{◌≡◌, ◌+◌, ◌<◌}
use Rattle.std.specs.Prelude.{IfSome}
use Rattle.duct_definitions.specs.declared.limits.TheConstants.{MAX_FAN_COST}
use Rattle.pareto_front.specs.declared.point.TheConstants.{COST_LIMIT}
use Rattle.fan_choice.specs.FirstCheapest.{first_cheapest}
use Rattle.fan_choice.specs.OwnFans.{return_offers}
use Rattle.fan_choice.proofs.BesideFan.{price}
use Rattle.fan_choice.proofs.own_fans.best_return.Given as goal

abbrev pub invariant-loop-number : goal.invariant-loop-number
invariant-loop-number l = record {
  best : l.best ≡ first_cheapest price (return_offers l.net l.back) l.number;
  bound : IfSome l.best (λ offer. offer.cost < MAX_FAN_COST + COST_LIMIT);
}
