use Rattle.section_loss.proofs.FittingLaws.{ratio_is}
use Rattle.section_loss.proofs.fitting.ratio.Goals as goal

pub returns-clause-ceiling : goal.returns-clause-ceiling
returns-clause-ceiling c = ratio_is c.args.part c.args.whole c.div_ceil.result c.requires.whole c.div_ceil.ensures
