use Rattle.friction_table.proofs.LossLaws.{loss_over, most_loss}
use Rattle.friction_table.proofs.friction.loss_over.Goals as goal

pub returns-clause-least : goal.returns-clause-least
returns-clause-least c = loss_over c.args.length c.args.rate c.div_ceil.result c.requires.rate.1 c.div_ceil.ensures

pub returns-clause-most : goal.returns-clause-most
returns-clause-most c = most_loss c.args.length c.args.rate c.div_ceil.result c.requires.length c.requires.rate (returns-clause-least c)
