use Rattle.section_loss.proofs.VelocityLaws.{loses_by_velocity}
use Rattle.section_loss.proofs.laws.a_coefficient_loses_by_velocity.Goals as goal

pub returns : goal.returns
returns c = loses_by_velocity
