use Rattle.material_takeoff.proofs.OneDifference.{difference-once, difference-none}
use Rattle.material_takeoff.proofs.laws.first_difference_is_one.Goals as goal

pub returns-clause-once : goal.returns-clause-once
returns-clause-once c = difference-once

pub returns-clause-none : goal.returns-clause-none
returns-clause-none c = difference-none
