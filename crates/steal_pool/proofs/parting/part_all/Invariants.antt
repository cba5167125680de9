use Rattle.std.proofs.Common.{◌≡◌, ◌++◌, List, length}
use Rattle.steal_pool.specs.Hands.{HandView}
use Rattle.steal_pool.specs.Gathers.{IsParted}
use Rattle.steal_pool.proofs.parting.part_all.Given as goal

abbrev pub invariant-loop-hands : goal.invariant-loop-hands
invariant-loop-hands l = (done : List HandView) × (done ++ l.hands.items ≡ l.fn.hands.items) × IsParted done l.owns.items l.rows.items l.taken.items

abbrev pub decreases-loop-hands : goal.decreases-loop-hands
decreases-loop-hands l = length l.hands.items
