-- What a contract sees of a core.
use Rattle.std.specs.Prelude.{ℕ, List, Bool}
use Rattle.schedule_core.specs.Schedule.{State}

-- the state, and of each section its number and whether it is done
pub record CoreData : Type 0 where
  pub state : State
  pub numbers : List ℕ
  pub marks : List Bool
