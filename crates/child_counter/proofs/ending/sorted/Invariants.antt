use Rattle.std.proofs.Common.{◌≡◌, ◌++◌, ◌≤◌, length}
use Rattle.std.specs.Vec.{vec_capacity}
use Rattle.std.specs.Vec.Iter.{into_iter_items}
use Rattle.child_counter.specs.Closed.{fronts_among, refused_among}
use Rattle.child_counter.proofs.ending.sorted.Given as goal

abbrev pub invariant-loop-outcome : goal.invariant-loop-outcome
invariant-loop-outcome l =
    (l.yielded ++ into_iter_items l.outcome-iterator ≡ into_iter_items l.initial.outcome-iterator)
    × (l.fronts.items ≡ fronts_among l.yielded)
    × (l.refused.items ≡ refused_among l.yielded)
    × (length (into_iter_items l.initial.outcome-iterator) ≤ vec_capacity l.fronts)
    × (length (into_iter_items l.initial.outcome-iterator) ≤ vec_capacity l.refused)
