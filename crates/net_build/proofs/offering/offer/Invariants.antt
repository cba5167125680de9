use Rattle.std.proofs.Common.{◌≡◌, take, All}
use Rattle.duct_definitions.specs.Network.{IsFan}
use Rattle.net_build.specs.Fans.{offered}
use Rattle.net_build.proofs.offering.offer.Given as goal

abbrev pub invariant-loop-i : goal.invariant-loop-i
invariant-loop-i l =
    record {
      offer : l.offer.items ≡ offered (take l.i l.fans) l.terms l.flow;
      bounds : All IsFan l.offer.items;
    }
