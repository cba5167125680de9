use Rattle.std.proofs.Common.{◌≡◌, ◌++◌, List, length}
use Rattle.std.specs.List.{sum_by}
use Rattle.steal_pool.specs.declared.deque.Reach.{Reach}
use Rattle.steal_pool.specs.Gathers.{Absorbed, reach_got}
use Rattle.steal_pool.proofs.parting.absorb_row.Given as goal

abbrev pub invariant-loop-reach : goal.invariant-loop-reach
invariant-loop-reach l = (more : List Reach) × (l.row.items ++ more ≡ l.fn.row.items) × Absorbed l.fn.owns.items l.owns.items (length more) (λ t. sum_by (reach_got t) more)

abbrev pub decreases-loop-reach : goal.decreases-loop-reach
decreases-loop-reach l = length l.row.items
