-- What holds of the schedule after every list of events.
use Rattle.std.specs.Prelude.{◌≡◌, ℕ, ◌<◌, List, take, slice_get, Some, IsTrue, ◌==◌}
use Rattle.std.specs.List.{list_all, IsDistinct}
use Rattle.duct_definitions.specs.Tree.{Tree, section_count, children, is_leaf}
use Rattle.schedule_core.specs.Schedule.{State, is_in, is_claimed}

-- no number stands twice in the list
abbrev pub AreDistinct : List ℕ → Type 0
AreDistinct xs = IsDistinct (λ x y. x == y) xs

-- where a section stands in the list, all its children stand before it
abbrev pub AreChildrenFirst : Tree → List ℕ → Type 0
AreChildrenFirst t xs =
    (i s : ℕ) → slice_get xs i ≡ Some s → IsTrue (list_all (is_in (take i xs)) (children t s))

-- where every leaf is claimed and every claimed section is done, every section is done
abbrev pub EndsWithAll : Tree → State → Type 0
EndsWithAll t state =
    ((s : ℕ) → IsTrue (is_leaf t s) → IsTrue (is_claimed t state s))
    → ((s : ℕ) → IsTrue (is_claimed t state s) → IsTrue (is_in state.done s))
    → (s : ℕ) → s < section_count t → IsTrue (is_in state.done s)

-- leaves are claimed, once each; sections are done, once each and after their children; and in the end all of them
pub record IsOrderly (t : Tree) (state : State) : Type 0 where
  pub leaves : (s : ℕ) → IsTrue (is_in state.claimed s) → IsTrue (is_leaf t s)
  pub claimed_once : AreDistinct state.claimed
  pub sections : (s : ℕ) → IsTrue (is_in state.done s) → s < section_count t
  pub done_once : AreDistinct state.done
  pub children_first : AreChildrenFirst t state.done
  pub all : EndsWithAll t state
