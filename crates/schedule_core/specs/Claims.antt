-- Which sections the events of an interleaving claim, in turn.
use Rattle.std.specs.Prelude.{ℕ, List, [], ◌∷◌, Option, Some, None, if◌then◌else◌}
use Rattle.duct_definitions.specs.Tree.{Tree}
use Rattle.schedule_core.specs.declared.events.Event.{Event}
use Rattle.schedule_core.specs.Schedule.{State, at_start, accepts, added}
use Rattle.schedule_core.specs.Answers.{next_of}

-- the section that may be there, at the head of the list
abbrev pub with_next : Option ℕ → List ℕ → List ℕ
with_next None xs = xs
with_next (Some s) xs = s ∷ xs

-- the sections that these events claim, from this state on
abbrev pub claims_from : Tree → State → List Event → List ℕ
claims_from t state [] = []
claims_from t state (event ∷ events) =
    let next : State = added state event in
    if accepts t state event then with_next (next_of t next event) (claims_from t next events)
    else claims_from t state events

-- the sections that these events claim, from the start on
abbrev pub claims_of : Tree → List Event → List ℕ
claims_of t events = claims_from t at_start events
