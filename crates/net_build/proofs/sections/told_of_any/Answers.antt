use Rattle.std.proofs.Common.{arith}
use Rattle.net_build.proofs.FlowLaws.{flows-count}
use Rattle.net_build.proofs.sections.told_of_any.Goals as goal

pub flow-requires : goal.flow-requires
flow-requires c = let n = flows-count c.args.project.now c.requires.project in omega arith
