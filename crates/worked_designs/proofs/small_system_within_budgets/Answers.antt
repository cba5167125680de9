use Rattle.std.proofs.Common.{ℕ, refl, arith}
use Rattle.duct_definitions.specs.Tree.{IsTree}
use Rattle.least_laws.specs.Least.{IsLeast}
use Rattle.least_laws.specs.LeastFromChildren.{least_in}
use Rattle.least_laws.proofs.Leasts.{least_in-is}
use Rattle.worked_designs.specs.SmallSystem.{network}
use Rattle.worked_designs.proofs.small_system_within_budgets.Goals as goal

tree : IsTree network.tree
tree = record { sides = refl; rules = refl }

-- the recursion gives the least of the main section within each budget
main_least : (budget : ℕ) → IsLeast network 0 0 budget (least_in network 0 0 budget)
main_least budget = least_in-is network tree 0 0 budget (omega arith) (omega arith)

pub returns-clause-too_little : goal.returns-clause-too_little
unfolding least_in
returns-clause-too_little c = main_least 391

pub returns-clause-enough : goal.returns-clause-enough
unfolding least_in
returns-clause-enough c = main_least 392

pub returns-clause-not_yet : goal.returns-clause-not_yet
unfolding least_in
returns-clause-not_yet c = main_least 595

pub returns-clause-more : goal.returns-clause-more
unfolding least_in
returns-clause-more c = main_least 596
