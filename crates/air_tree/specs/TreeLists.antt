-- The lists that follow from the neighbours of the sections.
--   StandEarlier neighbours      each neighbour is a section that stands before the one that it is a neighbour of
--   children_among n neighbours s   the children of s among the first n sections
--   lists_of neighbours          the children of each section
--   counts_of neighbours         how many children each section has
use Rattle.std.specs.Prelude.{ℕ, ◌<◌, List, filter, length, map, Option, None, IfSome, slice_get, unwrap_or}
use Rattle.std.specs.List.{range_with_len}
use Rattle.duct_definitions.specs.Tree.{is_number}

-- the neighbour of section s in this list, or none
abbrev pub neighbour_in : List (Option ℕ) → ℕ → Option ℕ
neighbour_in neighbours s = unwrap_or (slice_get neighbours s) None

-- a neighbour stands before its section
abbrev pub StandEarlier : List (Option ℕ) → Type 0
StandEarlier neighbours = (s : ℕ) → s < length neighbours → IfSome (neighbour_in neighbours s) (λ n. n < s)

-- the children of s among the first n sections
abbrev pub children_among : ℕ → List (Option ℕ) → ℕ → List ℕ
children_among n neighbours s = filter (λ c. is_number s (neighbour_in neighbours c)) (range_with_len 0 n)

-- the children of each section
abbrev pub lists_of : List (Option ℕ) → List (List ℕ)
lists_of neighbours = map (children_among (length neighbours) neighbours) (range_with_len 0 (length neighbours))

-- how many children each section has
abbrev pub counts_of : List (Option ℕ) → List ℕ
counts_of neighbours =
    map (λ s. length (children_among (length neighbours) neighbours s)) (range_with_len 0 (length neighbours))
