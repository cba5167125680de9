use Rattle.tree_sums.proofs.Along.{along-split}
use Rattle.tree_sums.proofs.sums_along_split.Goals as goal

pub returns : goal.returns
returns c = along-split
