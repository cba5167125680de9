use Rattle.least_laws.proofs.CostBound.{none_meets}
use Rattle.least_laws.proofs.choosing.no_cost_no_design.Goals as goal

pub returns : goal.returns
returns c = none_meets
