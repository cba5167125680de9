use Rattle.std.proofs.Common.{◌≡◌, []}
use Rattle.duct_definitions.specs.Network.{cap}
use Rattle.contract_join.proofs.Closing.{AreBeside}
use Rattle.contract_join.proofs.close.fronts_beside.Given as goal

abbrev pub invariant-loop-g : goal.invariant-loop-g
invariant-loop-g l = (l.laid ≡ record { cap = cap l.net; points = [] }) × AreBeside l.net l.s l.fronts.items l.g
