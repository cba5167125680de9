use Rattle.std.proofs.Common.{refl}
use Rattle.fan_points.proofs.EnergyLaws.{cost_alone}
use Rattle.fan_points.proofs.laws.a_worked_energy.Goals as goal

pub returns-clause-of_2000_watts : goal.returns-clause-of_2000_watts
returns-clause-of_2000_watts c = cost_alone 2000 3000 1500 5000 450000 refl

pub returns-clause-of_500_watts : goal.returns-clause-of_500_watts
returns-clause-of_500_watts c = cost_alone 500 3000 1500 5000 112500 refl
