use Rattle.std.proofs.Common.{◌≡◌, length, arith}
use Rattle.duct_definitions.specs.Tree.{section_count}
use Rattle.room_tests.proofs.FlowCounts.{length-flows}
use Rattle.room_tests.proofs.flows.outcome.Goals as goal

pub told-requires : goal.told-requires
told-requires c =
    let count : length c.in-Ok.flows.sections ≡ section_count c.in_ok-tree.tree = length-flows _ _ _ c.in-Ok.ensures in
    let len = c.len.ensures in
    omega arith
