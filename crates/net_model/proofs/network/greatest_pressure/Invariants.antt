use Rattle.duct_definitions.specs.Network.{greatest_pressure}
use Rattle.std.proofs.Common.{◌≡◌, drop, map}
use Rattle.std.specs.Prelude.{fold, max}
use Rattle.net_model.proofs.network.greatest_pressure.Given as goal

abbrev pub invariant-loop-fan : goal.invariant-loop-fan
invariant-loop-fan l = greatest_pressure l.fans ≡ fold max l.most
    (map (λ fan. fan.pressure) (drop l.fan-index l.fans))
