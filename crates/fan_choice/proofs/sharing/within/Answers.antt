use Rattle.std.proofs.Common.{arith, length-take}
use Rattle.fan_choice.proofs.Rising.{first_within}
use Rattle.fan_choice.proofs.sharing.within.Goals as goal
use Rattle.fan_choice.proofs.sharing.within.Goals.{then-loop-count-test+else-points-count, else-loop-count-test}

pub returns-clause-within : goal.returns-clause-within
returns-clause-within c =
    let points = c.args.points.now in
    let count = c.loop-count.count in
    elim c.loop-count-test.branch [
      | then-loop-count-test+else-points-count w ↦
          first_within points count c.args.need _ c.requires w.loop-count-test.true c.loop-count.invariant.in_range
          w.if-points-count.false
      | else-loop-count-test w ↦ λ k d before. absurd (omega (arith, length-take count points))
    ]
