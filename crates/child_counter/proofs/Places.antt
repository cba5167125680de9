-- The children of a section by their places.
use Rattle.std.proofs.Common.{◌≡◌, ℕ, ◌<◌, length, get_or, Some, arith}
use Rattle.duct_definitions.specs.Tree.{Tree, IsTree, section_count, neighbour, children, is_number}
use Rattle.duct_definitions.proofs.SectionLists.{chosen_pass, chosen_below, is_number-some}
use Rattle.duct_definitions.proofs.TreeLaws.{earlier}

-- the child at a place is one
pub child-at : (t : Tree) (s j : ℕ) → j < length (children t s) → neighbour t (get_or (children t s) j 0) ≡ Some s
child-at t s j within =
    is_number-some s (neighbour t (get_or (children t s) j 0))
    (chosen_pass (λ c. is_number s (neighbour t c)) (section_count t) j 0 within)

-- what has a child is a section
pub has-child : (t : Tree) (s j : ℕ) → IsTree t → j < length (children t s) → s < section_count t
has-child t s j tree within =
    let below = chosen_below (λ c. is_number s (neighbour t c)) (section_count t) j 0 within in
    let before = earlier t (get_or (children t s) j 0) s tree below (child-at t s j within) in
    omega arith
