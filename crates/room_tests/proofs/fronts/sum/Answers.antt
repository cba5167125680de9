use Rattle.std.proofs.Common.{arith}
use Rattle.room_tests.proofs.fronts.sum.Goals as goal

pub total-requires : goal.total-requires
total-requires c =
    let so_far = c.loop-text.invariant in
    let few = c.if-most-gt1100.false in
    omega arith
