use Rattle.least_laws.proofs.Bounds.{least_never_rises}
use Rattle.least_laws.proofs.least.least_never_rises.Goals as goal

pub returns : goal.returns
returns c = least_never_rises
