use Rattle.least_laws.proofs.BestDesign.{descent_is_best}
use Rattle.least_laws.proofs.DescentMeets.{descent_cost}
use Rattle.least_laws.proofs.choosing.descent_is_best.Goals as goal

pub returns-clause-best : goal.returns-clause-best
returns-clause-best c = descent_is_best

pub returns-clause-cost : goal.returns-clause-cost
returns-clause-cost c = descent_cost
