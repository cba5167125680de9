-- The way from the fan outwards.
--   left_towards budget rests neighbour    what is left beyond the neighbour, and at the fan the budget
--   CanBeSized net s g left                section s has a least price beside size g within what is left
use Rattle.std.specs.Prelude.{ℕ, ◌<◌, ◌≤◌, List, Option, Some, None, slice_index, IsSome}
use Rattle.duct_definitions.specs.Tree.{IsTree, section_count}
use Rattle.duct_definitions.specs.Network.{Network, columns, cap}
use Rattle.least_laws.specs.LeastFromChildren.{least_in}

-- what is left beyond the neighbour, and at the fan the side's budget
abbrev pub left_towards : ℕ → List ℕ → Option ℕ → ℕ
left_towards budget rests None = budget
left_towards budget rests (Some n) = slice_index rests n

-- section s has a least price beside size g of its neighbour, within what is left of the budget
pub record CanBeSized (net : Network) (s g left : ℕ) : Type 0 where
  pub tree : IsTree net.tree
  pub section : s < section_count net.tree
  pub beside : g < columns net s
  pub within : left ≤ cap net
  pub there : IsSome (least_in net s g left)
