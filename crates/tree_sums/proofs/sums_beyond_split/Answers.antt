use Rattle.tree_sums.proofs.Split.{beyond-section, beyond-fan}
use Rattle.tree_sums.proofs.sums_beyond_split.Goals as goal

pub returns-clause-section : goal.returns-clause-section
returns-clause-section c = beyond-section

pub returns-clause-fan : goal.returns-clause-fan
returns-clause-fan c = beyond-fan
