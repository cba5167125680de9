use Rattle.steal_pool.proofs.Together.{room-more}
use Rattle.steal_pool.proofs.gathering.dealt_count.Goals as goal

pub loop-hand-preserved : goal.loop-hand-preserved
loop-hand-preserved c =
    room-more c.args.hands.now c.loop-hand.hand-index c.loop-hand.count c.in_ok-count.count c.hand-item.result c.share.result.now c.loop-hand-test.true c.hand-item.is c.loop-hand.invariant c.share.ensures c.in_ok-count.ensures.1
