use Rattle.tree_sums.proofs.Beyond.{beyond-cases, only_child}
use Rattle.tree_sums.proofs.routes_go_by_one_child.Goals as goal

pub returns-clause-some : goal.returns-clause-some
returns-clause-some c = beyond-cases

pub returns-clause-one : goal.returns-clause-one
returns-clause-one c = only_child
