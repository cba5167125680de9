-- The schedule of condensing a tree: its states, its events, and what an event changes.
--   is_claimed t state s         a leaf by its claim, another section where all its children are done
--   accepts t state event        the event changes the state
--   after_event t state event    the state after an event; any that isn't accepted changes nothing
--   state_after t events         the state after these events, in their order, from the start
use Rattle.std.specs.Prelude.{ℕ, List, [], ◌∷◌, ◌++◌, Bool, not, ◌&&◌, ◌==◌, nat_lt, fold, if◌then◌else◌}
use Rattle.std.specs.List.{list_any, list_all}
use Rattle.duct_definitions.specs.Tree.{Tree, section_count, children, is_leaf}
use Rattle.schedule_core.specs.declared.events.Event.{Event}
use Rattle.schedule_core.specs.declared.events.Event.TheVariants.{Claim, Finish}

-- the leaves that were claimed, and the sections in the order of their finishes
pub record State : Type 0 where
  pub claimed : List ℕ
  pub done : List ℕ

-- nothing is claimed, and nothing is done
abbrev pub at_start : State
at_start = record { claimed = []; done = [] }

-- s stands in the list
abbrev pub is_in : List ℕ → ℕ → Bool
is_in xs s = list_any (λ x. s == x) xs

-- a leaf is claimed where it stands among the claimed; any other section where all its children are done
abbrev pub is_claimed : Tree → State → ℕ → Bool
is_claimed t state s = nat_lt s (section_count t)
    && (if is_leaf t s then is_in state.claimed s else list_all (is_in state.done) (children t s))

-- a claim is accepted of a leaf that isn't claimed; a finish of a claimed section that isn't done
abbrev pub accepts : Tree → State → Event → Bool
accepts t state (Claim s) = is_leaf t s && not (is_claimed t state s)
accepts t state (Finish s) = is_claimed t state s && not (is_in state.done s)

-- the section stands at the end of its list
abbrev pub added : State → Event → State
added state (Claim s) = record { claimed = state.claimed ++ s ∷ []; done = state.done }
added state (Finish s) = record { claimed = state.claimed; done = state.done ++ s ∷ [] }

-- an event that isn't accepted changes nothing
abbrev pub after_event : Tree → State → Event → State
after_event t state event = if accepts t state event then added state event else state

-- the state after these events, in their order
abbrev pub state_after : Tree → List Event → State
state_after t events = fold (after_event t) at_start events
