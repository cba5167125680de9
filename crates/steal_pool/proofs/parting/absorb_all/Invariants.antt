use Rattle.std.proofs.Common.{◌≡◌, ◌++◌, List, length}
use Rattle.std.specs.List.{sum_by}
use Rattle.steal_pool.specs.declared.parting.Row.{Row}
use Rattle.steal_pool.specs.Gathers.{Absorbed, row_got, row_parts}
use Rattle.steal_pool.proofs.parting.absorb_all.Given as goal

abbrev pub invariant-loop-rows : goal.invariant-loop-rows
invariant-loop-rows l = (done : List Row) × (done ++ l.rows.items ≡ l.fn.rows.items) × (length done ≡ l.j) × Absorbed l.fn.owns.items l.owns.items (sum_by row_parts done) (λ t. sum_by (row_got t) done)

abbrev pub decreases-loop-rows : goal.decreases-loop-rows
decreases-loop-rows l = length l.rows.items
