use Rattle.std.proofs.Common.{refl}
use Rattle.worked_designs.specs.FanOnEachSide.{network, design}
use Rattle.duct_definitions.proofs.Valid.{IsNetwork-tested}
use Rattle.design_laws.proofs.Best.{IsBest-tested}
use Rattle.worked_designs.proofs.fan_on_each_side.Goals as goal

pub returns-clause-valid : goal.returns-clause-valid
returns-clause-valid c = IsNetwork-tested network refl

pub returns-clause-best : goal.returns-clause-best
returns-clause-best c = IsBest-tested network design refl refl
