use Rattle.std.proofs.Common.{◌≡◌}
use Rattle.fan_choice.specs.FirstCheapest.{first_cheapest}
use Rattle.fan_choice.proofs.Chosen.{bests}
use Rattle.fan_choice.proofs.Shares.{price}
use Rattle.fan_choice.proofs.choosing.choose.Given as goal

abbrev pub invariant-loop-number : goal.invariant-loop-number
invariant-loop-number l = l.best ≡ first_cheapest price (bests l.net l.supply_points l.back_points) l.number
