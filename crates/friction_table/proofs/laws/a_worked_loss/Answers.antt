use Rattle.friction_table.proofs.LossLaws.{worked_loss}
use Rattle.friction_table.proofs.laws.a_worked_loss.Goals as goal

pub returns-clause-exact : goal.returns-clause-exact
returns-clause-exact c = worked_loss.0

pub returns-clause-rounded_up : goal.returns-clause-rounded_up
returns-clause-rounded_up c = worked_loss.1
