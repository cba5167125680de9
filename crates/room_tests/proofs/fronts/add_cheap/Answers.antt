use Rattle.std.proofs.Common.{arith}
use Rattle.pareto_front.proofs.Together.{greatest_together-push, greatest_cost-le}
use Rattle.room_tests.proofs.fronts.add_cheap.Goals as goal

pub add-requires : goal.add-requires
add-requires c =
    let all = greatest_together-push c.args.sum.now c.args.front.now in
    let cheap = greatest_cost-le c.args.front.now 100 (c.is_cheap.ensures c.if-not-is_cheap.false) in
    let few = c.if-most-gt1000.false in
    let so_far = c.requires in
    omega arith

pub returns : goal.returns
returns c =
    let all = greatest_together-push c.args.sum.now c.args.front.now in
    let cheap = greatest_cost-le c.args.front.now 100 (c.is_cheap.ensures c.if-not-is_cheap.false) in
    let alike = c.in_ok-add.ensures in
    let less = alike.costs in
    let so_far = c.requires in
    omega arith
