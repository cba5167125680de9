use Rattle.design_laws.proofs.BestOrNone.{best_or_none}
use Rattle.design_laws.proofs.best_or_none.Goals as goal

pub returns : goal.returns
returns c = best_or_none
