-- What the numbers and the marks of a core say of its state.
use Rattle.std.specs.Prelude.{◌≡◌, ℕ, ◌-◌, ◌<◌, List, length, false, not, ◌==◌, Option, Some, None, slice_index, slice_index_or, slice_set, count_by, if◌then◌else◌}
use Rattle.duct_definitions.specs.Tree.{Tree, IsTree, section_count, children, is_leaf}
use Rattle.schedule_core.specs.Schedule.{State, is_in}
use Rattle.schedule_core.specs.Orderly.{IsOrderly}
use Rattle.schedule_core.specs.CoreData.{CoreData}

-- of a leaf 1, and 0 once it is claimed; of another section how many of its children aren't done
abbrev pub number_of : Tree → State → ℕ → ℕ
number_of t state s =
    if is_leaf t s then (if is_in state.claimed s then 0 else 1)
    else count_by (λ c. not (is_in state.done c)) (children t s)

-- the numbers of the first sections, so many
pub record AreNumbers (t : Tree) (state : State) (count : ℕ) (numbers : List ℕ) : Type 0 where
  pub count_is : length numbers ≡ count
  pub each : (s : ℕ) → s < count → slice_index numbers s ≡ number_of t state s

-- the core is one of the tree: its numbers and marks are those of its state, which events led to
pub record IsCoreOf (t : Tree) (core : CoreData) : Type 0 where
  pub tree : IsTree t
  pub numbers : AreNumbers t core.state (section_count t) core.numbers
  pub mark_count : length core.marks ≡ section_count t
  pub marks : (s : ℕ) → s < section_count t → slice_index_or core.marks s false ≡ is_in core.state.done s
  pub orderly : IsOrderly t core.state

-- one less at the neighbour, if there is one
abbrev pub one_less : Option ℕ → List ℕ → List ℕ
one_less None numbers = numbers
one_less (Some n) numbers = slice_set numbers n (slice_index numbers n - 1)

-- the neighbour, where its number is 0
abbrev pub next_at : List ℕ → Option ℕ → Option ℕ
next_at numbers None = None
next_at numbers (Some n) = if slice_index numbers n == 0 then Some n else None
