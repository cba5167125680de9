use Rattle.std.proofs.Common.{◌≡◌, take, length}
use Rattle.std.specs.List.{sum_by}
use Rattle.steal_pool.specs.Hands.{HandView}
use Rattle.steal_pool.proofs.gathering.dealt_count.Given as goal

abbrev pub invariant-loop-hand : goal.invariant-loop-hand
invariant-loop-hand l = l.count ≡ sum_by (λ (h : HandView). length h.fixed.share) (take l.hand-index l.hands)
