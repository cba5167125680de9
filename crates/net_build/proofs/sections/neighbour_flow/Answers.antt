use Rattle.std.proofs.Common.{arith}
use Rattle.net_build.proofs.FlowLaws.{flows-count}
use Rattle.net_build.proofs.sections.neighbour_flow.Goals as goal

pub flow-requires : goal.flow-requires
flow-requires c = let b = c.in-Some.ensures.earlier in let n = flows-count c.args.project.now c.requires.project in omega arith
