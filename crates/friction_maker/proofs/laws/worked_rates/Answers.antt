use Rattle.std.proofs.Common.{refl, lit≤, lit<}
use Rattle.friction_maker.proofs.WorkedLaws.{has_rate}
use Rattle.friction_maker.proofs.laws.worked_rates.Goals as goal

pub returns-clause-first : goal.returns-clause-first
returns-clause-first c = has_rate (record { area = 20000; diameter = 160; rough = 90 }) (record { density = 1200; viscosity = 18000 }) 100 22775 22774 2136 refl (lit≤ tt) (lit< tt) (lit< tt) refl

pub returns-clause-second : goal.returns-clause-second
returns-clause-second c = has_rate (record { area = 20000; diameter = 160; rough = 90 }) (record { density = 1200; viscosity = 18000 }) 200 20474 20473 7678 refl (lit≤ tt) (lit< tt) (lit< tt) refl

pub returns-clause-corrected : goal.returns-clause-corrected
returns-clause-corrected c = has_rate (record { area = 50000; diameter = 250; rough = 30 }) (record { density = 1200; viscosity = 18000 }) 500 16675 16674 4074 refl (lit≤ tt) (lit< tt) (lit< tt) refl
