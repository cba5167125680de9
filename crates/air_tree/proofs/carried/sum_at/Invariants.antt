use Rattle.std.proofs.Common.{◌≡◌, ◌+◌, ◌*◌, ◌≤◌, take, sum_by, slice_index}
use Rattle.duct_definitions.specs.declared.airflow.TheConstants.{MAX_FLOW}
use Rattle.air_tree.proofs.carried.sum_at.Given as goal

-- the sum of the sections so far, each of which adds no more than one above the bound
abbrev pub invariant-loop-s : goal.invariant-loop-s
invariant-loop-s l =
    (l.sum ≡ sum_by (slice_index l.numbers) (take l.s-index l.sections)) × (l.sum ≤ l.s-index * (MAX_FLOW + 1))
