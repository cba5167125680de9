use Rattle.least_laws.proofs.Bounds.{least_bounded}
use Rattle.least_laws.proofs.least.least_bounded.Goals as goal

pub returns : goal.returns
returns c = least_bounded
