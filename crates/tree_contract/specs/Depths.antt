-- How deep the sections of a tree stand.
--   depth t s             how many sections stand on the way from s to the fan
--   AreDeepestFirst t xs  none is deeper than one that stands before it
use Rattle.std.specs.Prelude.{ℕ, ◌<◌, ◌≤◌, List, length, slice_index}
use Rattle.duct_definitions.specs.Tree.{Tree, way}

-- how many sections stand on the way from s to the fan, s among them
abbrev pub depth : Tree → ℕ → ℕ
depth t s = length (way t s)

-- no section is deeper than one that stands before it
abbrev pub AreDeepestFirst : Tree → List ℕ → Type 0
AreDeepestFirst t xs =
    (i j : ℕ) → i < j → j < length xs → depth t (slice_index xs j) ≤ depth t (slice_index xs i)
