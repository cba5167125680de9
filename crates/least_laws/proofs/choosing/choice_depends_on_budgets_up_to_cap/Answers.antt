use Rattle.least_laws.proofs.ChosenAgrees.{cost_at-agrees, chosen_agrees}
use Rattle.least_laws.proofs.choosing.choice_depends_on_budgets_up_to_cap.Goals as goal

pub returns-clause-cost : goal.returns-clause-cost
returns-clause-cost c = cost_at-agrees

pub returns-clause-chosen : goal.returns-clause-chosen
returns-clause-chosen c = chosen_agrees
