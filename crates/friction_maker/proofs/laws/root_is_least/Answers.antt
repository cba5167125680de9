use Rattle.friction_maker.proofs.BoundLaws.{is_root_of}
use Rattle.friction_maker.proofs.laws.root_is_least.Goals as goal

pub returns : goal.returns
returns c = is_root_of c.args.duct c.args.air c.args.flow c.requires.duct c.requires.air c.requires.flow
