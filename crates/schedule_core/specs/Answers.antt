-- What a step answers: why an event is refused, and which section it claims.
use Rattle.std.specs.Prelude.{ℕ, Option, Some, None, not, nat_lt, if◌then◌else◌}
use Rattle.std.specs.List.{list_all}
use Rattle.duct_definitions.specs.Tree.{Tree, section_count, neighbour, children, is_leaf}
use Rattle.schedule_core.specs.declared.events.Event.{Event}
use Rattle.schedule_core.specs.declared.events.Event.TheVariants.{Claim, Finish}
use Rattle.schedule_core.specs.declared.events.Refused.{Refused}
use Rattle.schedule_core.specs.declared.events.Refused.TheVariants.{Outside, NotLeaf, Claimed, NotClaimed, Done}
use Rattle.schedule_core.specs.Schedule.{State, is_in, is_claimed}

-- the first of the reasons that holds, in the order in which they are tested; none of an event that is accepted
abbrev pub refusal : Tree → State → Event → Option Refused
refusal t state (Claim s) =
    if not (nat_lt s (section_count t)) then Some Outside
    else if not (is_leaf t s) then Some NotLeaf
    else if is_claimed t state s then Some Claimed
    else None
refusal t state (Finish s) =
    if not (nat_lt s (section_count t)) then Some Outside
    else if not (is_claimed t state s) then Some NotClaimed
    else if is_in state.done s then Some Done
    else None

-- the neighbour, where all its children are done; none at the fan
abbrev pub claimed_neighbour : Tree → State → Option ℕ → Option ℕ
claimed_neighbour t state None = None
claimed_neighbour t state (Some n) = if list_all (is_in state.done) (children t n) then Some n else None

-- the section that an accepted event claims, seen in the state after it
abbrev pub next_of : Tree → State → Event → Option ℕ
next_of t state (Claim s) = Some s
next_of t state (Finish s) = claimed_neighbour t state (neighbour t s)
