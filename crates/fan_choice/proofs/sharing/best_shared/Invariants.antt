use Rattle.std.proofs.Common.{◌≡◌, ◌<◌, ◌≤◌, ◌-◌, ℕ, drop}
use Rattle.std.specs.Prelude.{All}
use Rattle.pareto_front.specs.Front.{IsFront, cheapest}
use Rattle.pareto_front.specs.declared.point.TheConstants.{COST_LIMIT}
use Rattle.fan_choice.specs.FirstCheapest.{first_cheapest}
use Rattle.fan_choice.specs.Sharing.{shares}
use Rattle.fan_choice.proofs.sharing.best_shared.Given as goal

abbrev pub invariant-loop-point : goal.invariant-loop-point
invariant-loop-point l = record {
  best : l.best ≡ first_cheapest (λ choice. choice.cost) (shares l.number l.fan l.supply l.back) l.point-index;
  front : IsFront l.rest;
  costs : All (λ point. point.cost < COST_LIMIT) l.rest;
  prices : All (λ point. (budget : ℕ) → budget ≤ l.fan.pressure - point.need
      → cheapest l.rest budget ≡ cheapest l.back budget) (drop l.point-index l.supply);
}
