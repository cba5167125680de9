-- Points that are sorted by need, and of one need by cost.
use Rattle.std.specs.Prelude.{ℕ, ◌<◌, ◌≤◌, List, length, slice_index_or}
use Rattle.pareto_front.specs.declared.point.Point.{Point}

-- the second point needs no less than the first, and more where it costs less
abbrev pub IsBehind : Point → Point → Type 0
IsBehind first second = (first.need ≤ second.need) × (second.cost < first.cost → first.need < second.need)

-- each point is behind all before it
abbrev pub IsInOrder : List Point → Type 0
IsInOrder points = (i j : ℕ) (d : Point) → i < j → j < length points
    → IsBehind (slice_index_or points i d) (slice_index_or points j d)
