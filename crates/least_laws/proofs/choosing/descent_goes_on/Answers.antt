use Rattle.least_laws.proofs.Attained.{size_attains, child_there, root_there}
use Rattle.least_laws.proofs.choosing.descent_goes_on.Goals as goal

pub returns-clause-root : goal.returns-clause-root
returns-clause-root c = root_there

pub returns-clause-size : goal.returns-clause-size
returns-clause-size c = size_attains

pub returns-clause-child : goal.returns-clause-child
returns-clause-child c = child_there
